use Rattle.futures_buffered_unordered.proofs.Common.{rules, FoldsTo-push, GrowingPushes}
use Rattle.futures_buffered_unordered.proofs.futures_unordered.GrowingSet.add_each.Goals as goal

pub loop-item-preserved : goal.loop-item-preserved
loop-item-preserved g c = (search rules, search rules, FoldsTo-push (GrowingPushes g.S.ReadySource.marks g.S.NewSource.made _) c.args.self.now c.loop-item.yielded c.loop-item.self c.in-Some.item c.add.new.self c.loop-item.invariant.2 c.in_ok-add.ensures.push.pushed)
