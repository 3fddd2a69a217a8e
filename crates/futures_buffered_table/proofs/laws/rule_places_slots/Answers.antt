use Rattle.futures_buffered_table.proofs.WhereaboutsLemmas.{whereabouts}
use Rattle.futures_buffered_table.proofs.laws.rule_places_slots.Goals as goal

pub returns : goal.returns
returns c = λ n s held. whereabouts held.3
