use Rattle.std.proofs.Common.{rules}
use Rattle.futures_buffered_in_flight.proofs.LedgerRuleLemmas.{arrives}
use Rattle.futures_buffered_in_flight.proofs.ledger.Notes.read.Goals as goal

pub swap_new_seat-found-requires : goal.swap_new_seat-found-requires
swap_new_seat-found-requires c = (search rules, arrives _)
