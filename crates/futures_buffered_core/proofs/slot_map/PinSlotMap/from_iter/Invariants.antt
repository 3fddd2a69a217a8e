use Rattle.futures_buffered_core.proofs.Common.{◌≡◌, ◌≤◌, map, vec_len, Held}
use Rattle.futures_buffered_table.specs.declared.answer.TheConstants.{MAX_CAPACITY}
use Rattle.futures_buffered_core.proofs.slot_map.PinSlotMap.from_iter.Given as goal

abbrev pub invariant-loop-item : goal.invariant-loop-item
invariant-loop-item g l = (goal.iterator-loop-item g).can_next l.item-iterator
    × (goal.iterator-loop-item g).is_finite l.item-iterator
    × (l.places.items ≡ map Held l.yielded)
    × (vec_len l.places ≤ MAX_CAPACITY)
