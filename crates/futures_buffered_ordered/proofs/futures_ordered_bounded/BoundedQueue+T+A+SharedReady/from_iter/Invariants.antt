use Rattle.futures_buffered_ordered.proofs.Common.{◌≡◌, ◌++◌, length, MarksShared, slot_count, AddsEachBack, PushesNumber}
use Rattle.futures_buffered_ordered.proofs.futures_ordered_bounded.BoundedQueue+T+A+SharedReady.from_iter.Given as goal

abbrev pub invariant-loop-item : goal.invariant-loop-item
invariant-loop-item g l = (goal.iterator-loop-item g).can_next l.item-iterator
    × (goal.iterator-loop-item g).is_finite l.item-iterator
    × AddsEachBack (PushesNumber MarksShared) l.initial.queue l.yielded l.queue
    × (length l.queue.entries ≡ length l.yielded)
    × (slot_count l.queue.set.slots ≡ length l.initial.item-iterator.rest.items)
    × (l.yielded ++ l.item-iterator.rest.items ≡ l.initial.item-iterator.rest.items)
