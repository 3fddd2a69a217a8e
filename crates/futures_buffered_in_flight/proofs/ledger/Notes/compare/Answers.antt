use Rattle.std.proofs.Common.{rules, ap}
use Rattle.futures_buffered_in_flight.specs.LedgerRule.{Mine, book_of, read_by}
use Rattle.futures_buffered_in_flight.proofs.LedgerRuleLemmas.{shows_notice, compares_notice}
use Rattle.futures_buffered_in_flight.proofs.ledger.Notes.compare.Goals as goal

pub join_seat-requires : goal.join_seat-requires
join_seat-requires c = (search rules, search rules, search rules, search rules, compares_notice _ _ _ _ (ap (λ (m : Mine). m.0) c.requires.1) (ap (λ (m : Mine). m.0) c.requires.3))

pub load-requires : goal.load-requires
load-requires c = (search rules, search rules, shows_notice _ _ _ (book_of c.args.seat.now.me.0) (read_by c.args.notice.me.0) (search rules))
