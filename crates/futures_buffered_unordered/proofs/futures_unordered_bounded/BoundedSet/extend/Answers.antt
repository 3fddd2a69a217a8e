use Rattle.futures_buffered_unordered.proofs.Common.{items_of, ◌≡◌, rules, sym, subst, ◌∙◌, FoldsTo-push, IsFull, ExtendsUntil, Bounded, Pushes}
use Rattle.futures_buffered_unordered.proofs.futures_unordered_bounded.BoundedSet.extend.Goals as goal

pub loop-item-preserved : goal.loop-item-preserved
loop-item-preserved g c = (search rules, search rules, FoldsTo-push (Pushes g.S.ReadySource.marks) c.args.self.now c.loop-item.yielded c.loop-item.self c.in-Some.item c.try_push.new.self c.loop-item.invariant.2 c.in_default.ensures.pushed.pushed, c.try_push.ensures.capacity ∙ c.loop-item.invariant.3)

pub returns-in-Err-clause-extends : goal.returns-in-Err-clause-extends
returns-in-Err-clause-extends g c =
    let full = c.in-Err.ensures.full in
    let Stops = λ (back : g.row.F.Denot). ExtendsUntil (items_of g.I.IntoIterator g.I.IntoIter.Iterator c.args.iter) (Pushes g.S.ReadySource.marks) (λ (stopped new : Bounded g.row.F.Denot g.row.S.Denot). IsFull stopped.slots × (new ≡ stopped)) c.args.self.now back c.try_push.new.self in
    let stops : Stops c.in-Some.item = record {
      items = c.loop-item.yielded;
      it = c.into_iter-item-iterator.result;
      rest = c.next.new.self;
      begins = search rules;
      came = search rules;
      stopped = c.loop-item.self;
      added = c.loop-item.invariant.2;
      refused = (full.2, full.1);
    } in
    record { all = tt; stops = subst Stops (sym full.0) stops }

pub returns-in-Err-clause-capacity : goal.returns-in-Err-clause-capacity
returns-in-Err-clause-capacity g c = c.try_push.ensures.capacity ∙ c.loop-item.invariant.3
