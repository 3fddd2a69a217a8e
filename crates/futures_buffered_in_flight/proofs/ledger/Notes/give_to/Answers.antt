use Rattle.std.proofs.Common.{rules, ap}
use Rattle.futures_buffered_in_flight.specs.LedgerRule.{Mine}
use Rattle.futures_buffered_in_flight.proofs.LedgerRuleLemmas.{gives_ticket}
use Rattle.futures_buffered_in_flight.proofs.ledger.Notes.give_to.Goals as goal

pub split_seat-requires : goal.split_seat-requires
split_seat-requires g c = (search rules, search rules, gives_ticket _ _ _ (ap (λ (m : Mine). m.0) c.requires.1))
