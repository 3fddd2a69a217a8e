use Rattle.futures_buffered_ordered.proofs.Common.{◌≡◌, ◌+◌, ℕ, List, length, FoldsTo, Keeps, BesideTask, SetYields, with_task, IsNumbered}
use Rattle.futures_buffered_ordered.proofs.ordered_entries.OrderedEntries.poll_entries.Given as goal

abbrev pub invariant-loop-self : goal.invariant-loop-self
invariant-loop-self g l =
    let set = g.Q.NumberedSet in
    let polls = g.Q.NumberedPolls in
    record {
      row : (yielded : List (ℕ × g.row.A.Denot)) × FoldsTo (SetYields (BesideTask polls.gives)) (with_task l.fn.self l.fn.cx) yielded (with_task l.self l.cx)
          × (length yielded + set.count l.self.set ≡ set.count l.fn.self.set);
      pollable : polls.can_poll l.self.set;
      keeps : set.keeps l.fn.self.set l.self.set;
      same_room : l.self.room ≡ l.fn.self.room;
      kept : Keeps l.fn.cx l.cx;
      numbered : IsNumbered set.with_number set.count l.self;
    }

abbrev pub decreases-loop-self : goal.decreases-loop-self
decreases-loop-self g l = g.Q.NumberedSet.count l.self.set
