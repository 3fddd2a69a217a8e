use Rattle.std.proofs.Common.{rules}
use Rattle.futures_buffered_in_flight.specs.LedgerRule.{book_of}
use Rattle.futures_buffered_in_flight.proofs.LedgerRuleLemmas.{writes}
use Rattle.futures_buffered_in_flight.proofs.ledger.Notes.write.Goals as goal

pub store-requires : goal.store-requires
store-requires c = (search rules, search rules, writes _ _ _ (book_of c.args.seat.now.me.0) c.args.numbers (search rules))
