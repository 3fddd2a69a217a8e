use Rattle.futures_buffered_unordered.proofs.Common.{PushesEach}
use Rattle.futures_buffered_unordered.proofs.futures_unordered.GrowingSet.extend.Given as goal

abbrev pub invariant-loop-item : goal.invariant-loop-item
invariant-loop-item g l = (goal.iterator-loop-item g).can_next l.item-iterator
    × (goal.iterator-loop-item g).is_finite l.item-iterator
    × PushesEach g.S.ReadySource.marks g.S.NewSource.made l.fn.self l.yielded l.self
