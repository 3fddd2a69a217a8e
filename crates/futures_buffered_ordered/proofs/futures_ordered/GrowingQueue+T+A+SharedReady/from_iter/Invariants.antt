use Rattle.futures_buffered_ordered.proofs.Common.{IsNewShared, MarksShared, AddsEachBack, GrowingPushesNumber}
use Rattle.futures_buffered_ordered.proofs.futures_ordered.GrowingQueue+T+A+SharedReady.from_iter.Given as goal

abbrev pub invariant-loop-item : goal.invariant-loop-item
invariant-loop-item g l = (goal.iterator-loop-item g).can_next l.item-iterator
    × (goal.iterator-loop-item g).is_finite l.item-iterator
    × AddsEachBack (GrowingPushesNumber MarksShared IsNewShared) l.initial.queue l.yielded l.queue
