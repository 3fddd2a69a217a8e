use Rattle.futures_buffered_joins.proofs.Common.{◌≡◌, replicate, None, vec_capacity}
use Rattle.futures_buffered_joins.proofs.outputs.empty_places.Given as goal

abbrev pub invariant-loop : goal.invariant-loop
invariant-loop g l = record { items : l.places.items ≡ replicate l.counter None; room : vec_capacity l.places ≡ l.n }
