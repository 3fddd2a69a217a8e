use Rattle.futures_buffered_unordered.proofs.Common.{FoldsTo, slot_count, Pushes}
use Rattle.std.specs.Prelude.{◌≡◌}
use Rattle.futures_buffered_unordered.proofs.futures_unordered_bounded.BoundedSet.extend.Given as goal

abbrev pub invariant-loop-item : goal.invariant-loop-item
invariant-loop-item g l = (goal.iterator-loop-item g).can_next l.item-iterator
    × (goal.iterator-loop-item g).is_finite l.item-iterator
    × FoldsTo (Pushes g.S.ReadySource.marks) l.fn.self l.yielded l.self
    × (slot_count l.self.slots ≡ slot_count l.fn.self.slots)
