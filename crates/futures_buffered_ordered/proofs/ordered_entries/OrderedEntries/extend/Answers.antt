use Rattle.futures_buffered_ordered.proofs.Common.{◌∙◌, items_of, rules, AddsBack, RefusesOne}
use Rattle.futures_buffered_unordered.specs.Extended.{ExtendsUntil}
use Rattle.futures_buffered_ordered.proofs.OrderedEntriesLemmas.{adds_one_more}
use Rattle.futures_buffered_ordered.proofs.ordered_entries.OrderedEntries.extend.Goals as goal

pub loop-item-preserved : goal.loop-item-preserved
loop-item-preserved g c =
    let before = c.loop-item.invariant in
    let added = c.in_ok-add_back.ensures in (
      search rules,
      search rules,
      adds_one_more g.Q.NumberedSet.pushes c.args.self.now c.loop-item.self c.add_back.new.self c.loop-item.yielded c.in-Some.item before.2 added.push.pushed,
      record {
        set = g.met.Q.NumberedSet.keeps_on _ _ _ before.3.set added.keeps.set;
        room = added.keeps.room ∙ before.3.room;
        numbered = added.keeps.numbered;
      },
      added.again,
    )

pub returns-in_err-add_back-clause-extends : goal.returns-in_err-add_back-clause-extends
returns-in_err-add_back-clause-extends g c =
    let back = c.in_err-add_back.ensures.push.back in
    let stops : ExtendsUntil (items_of g.I.IntoIterator g.I.IntoIter.Iterator c.args.iter) (AddsBack g.Q.NumberedSet.pushes) (RefusesOne g.Q.NumberedSet.may_refuse) c.args.self.now c.in-Some.item c.add_back.new.self = record {
      items = c.loop-item.yielded;
      it = c.into_iter-item-iterator.result;
      rest = c.next.new.self;
      begins = search rules;
      came = search rules;
      stopped = c.loop-item.self;
      added = c.loop-item.invariant.2;
      refused = (back.may_refuse, back.stays);
    } in
    search (rules, stops)
