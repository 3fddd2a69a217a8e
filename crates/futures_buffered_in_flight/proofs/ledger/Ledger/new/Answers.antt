use Rattle.futures_buffered_in_flight.proofs.LedgerRuleLemmas.{opens}
use Rattle.futures_buffered_in_flight.proofs.ledger.Ledger.new.Goals as goal

pub vacant-requires : goal.vacant-requires
vacant-requires c = opens
