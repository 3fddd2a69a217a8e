use Rattle.futures_buffered_unordered.proofs.Common.{items_of, ◌≡◌, rules, FoldsTo-push, ExtendsUntil, Growing, GrowingPushes, SetMayRefuse}
use Rattle.futures_buffered_unordered.proofs.futures_unordered.GrowingSet.extend.Goals as goal

pub loop-item-preserved : goal.loop-item-preserved
loop-item-preserved g c = (search rules, search rules, FoldsTo-push (GrowingPushes g.S.ReadySource.marks g.S.NewSource.made _) c.args.self.now c.loop-item.yielded c.loop-item.self c.in-Some.item c.push.new.self c.loop-item.invariant.2 c.in_default.ensures.push.pushed)

pub returns-in-Err : goal.returns-in-Err
returns-in-Err g c =
    let source = g.S.ReadySource in
    let stops : ExtendsUntil (items_of g.I.IntoIterator g.I.IntoIter.Iterator c.args.iter) (GrowingPushes source.marks g.S.NewSource.made 32) (λ (stopped new : Growing g.row.F.Denot g.row.S.Denot). SetMayRefuse stopped × (new ≡ stopped)) c.args.self.now c.in-Some.item c.push.new.self = record {
      items = c.loop-item.yielded;
      it = c.into_iter-item-iterator.result;
      rest = c.next.new.self;
      begins = search rules;
      came = search rules;
      stopped = c.loop-item.self;
      added = c.loop-item.invariant.2;
      refused = (search rules, search rules);
    } in
    search (rules, stops)
