use Rattle.std.proofs.Common.{rules}
use Rattle.futures_buffered_in_flight.proofs.LedgerRuleLemmas.{claims}
use Rattle.futures_buffered_in_flight.proofs.ledger.Notes.claim.Goals as goal

pub compare_exchange-requires : goal.compare_exchange-requires
compare_exchange-requires c = (search rules, search rules, claims _ _ _ c.requires.1)
