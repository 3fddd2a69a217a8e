use Rattle.std.proofs.Common.{rules}
use Rattle.futures_buffered_in_flight.proofs.LedgerRuleLemmas.{clears}
use Rattle.futures_buffered_in_flight.proofs.ledger.Notes.forget.Goals as goal

pub load-requires : goal.load-requires
load-requires c = (search rules, search rules, clears _ _ _ c.requires.1)
