use Rattle.std.proofs.Common.{rules, ap}
use Rattle.futures_buffered_in_flight.specs.LedgerRule.{Mine, book_of, key_of}
use Rattle.futures_buffered_in_flight.proofs.LedgerRuleLemmas.{returns_ticket, takes_ticket}
use Rattle.futures_buffered_in_flight.proofs.ledger.Notes.take.Goals as goal

pub join_seat-requires : goal.join_seat-requires
join_seat-requires c = (search rules, search rules, search rules, search rules, takes_ticket _ _ _ _ (ap (λ (m : Mine). m.0) c.requires.1) (ap (λ (m : Mine). m.0) c.requires.3))

pub load-requires : goal.load-requires
load-requires c = (search rules, search rules, returns_ticket _ _ _ (book_of c.args.seat.now.me.0) (key_of c.args.ticket.me.0) (search rules))
