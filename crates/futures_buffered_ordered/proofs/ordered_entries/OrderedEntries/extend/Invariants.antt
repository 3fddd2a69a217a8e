use Rattle.futures_buffered_ordered.proofs.Common.{AddsEachBack, AddingKeeps}
use Rattle.futures_buffered_ordered.proofs.ordered_entries.OrderedEntries.extend.Given as goal

abbrev pub invariant-loop-item : goal.invariant-loop-item
invariant-loop-item g l =
    let set = g.Q.NumberedSet in
    (goal.iterator-loop-item g).can_next l.item-iterator
    × (goal.iterator-loop-item g).is_finite l.item-iterator
    × AddsEachBack set.pushes l.fn.self l.yielded l.self
    × AddingKeeps set.with_number set.count set.keeps l.fn.self l.self
    × set.takes l.self.set
