use Rattle.futures_buffered_core.proofs.Common.{◌≡◌, vec_len, vec_capacity, new_places}
use Rattle.futures_buffered_core.proofs.slot_map.free_places.Given as goal

abbrev pub invariant-loop-i : goal.invariant-loop-i
invariant-loop-i g l = record { items : l.places.items ≡ new_places l.i; len : vec_len l.places ≡ l.i; room : vec_capacity l.places ≡ l.n }
