use Rattle.futures_buffered_ordered.proofs.Common.{◌≡◌, ◌≤◌, vec_len, MAX_CAPACITY}
use Rattle.futures_buffered_ordered.proofs.futures_ordered_bounded.drawn.Given as goal

abbrev pub invariant-loop-item : goal.invariant-loop-item
invariant-loop-item g l = (goal.iterator-loop-item g).can_next l.item-iterator
    × (goal.iterator-loop-item g).is_finite l.item-iterator
    × (l.items.items ≡ l.yielded)
    × (vec_len l.items ≤ MAX_CAPACITY)
