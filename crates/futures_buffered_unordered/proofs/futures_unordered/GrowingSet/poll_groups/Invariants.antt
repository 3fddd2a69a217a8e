use Rattle.futures_buffered_unordered.proofs.Common.{◌≡◌, ◌<◌, length, IsTrue, Keeps, EachHeld, EachCovered}
use Rattle.futures_buffered_unordered.proofs.GroupsStepLemmas.{GoesOn}
use Rattle.futures_buffered_unordered.proofs.futures_unordered.GrowingSet.poll_groups.Given as goal

abbrev pub invariant-loop-asked : goal.invariant-loop-asked
invariant-loop-asked g l =
    let rule = g.R.AskGroup in
    record {
      goes_on : GoesOn rule.asks l.fn.self.groups l.fn.cx l._asked l.is_registered l.self.groups l.cx;
      some : 0 < length l.fn.self.groups.listed → 0 < length l.self.groups.listed;
      pollable : EachHeld rule.can_poll l.self.groups.listed;
      limit : l.self.limit ≡ l.fn.self.limit;
      covered : IsTrue l.is_registered → EachCovered g.S.ReadySource.needs l.cx l.self.groups.listed;
      kept : Keeps l.fn.cx l.cx;
    }
