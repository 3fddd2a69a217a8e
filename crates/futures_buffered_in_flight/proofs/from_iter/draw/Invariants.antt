use Rattle.futures_buffered_in_flight.proofs.Common.{◌≡◌, ◌≤◌, vec_len, MAX_CAPACITY}
use Rattle.futures_buffered_in_flight.proofs.from_iter.draw.Given as goal

abbrev pub invariant-loop-item : goal.invariant-loop-item
invariant-loop-item g l = (goal.iterator-loop-item g).can_next l.item-iterator
    × (goal.iterator-loop-item g).is_finite l.item-iterator
    × (l.drawn.items ≡ l.yielded)
    × (vec_len l.drawn ≤ MAX_CAPACITY)
