use Rattle.futures_buffered_ordered.proofs.Common.{◌<◌, rules, max, inl, inr, MAX_CAPACITY, Draws, DrawsAndOne, SaysAtLeast, items_of, MarksShared, IsNewShared, SetRefuses, GrowingPushesNumber, IsNewGrowingQueue, QueueIsAtBound}
use Rattle.futures_buffered_ordered.proofs.OrderedEntriesLemmas.{adds_one_more}
use Rattle.futures_buffered_ordered.proofs.futures_ordered.GrowingQueue+T+A+SharedReady.from_iter.Goals as goal

pub loop-item-preserved : goal.loop-item-preserved
loop-item-preserved g c = (search rules, search rules, adds_one_more (GrowingPushesNumber MarksShared IsNewShared) c.in_ok-queue.queue c.loop-item.queue c.add_back.new.self c.loop-item.yielded c.in-Some.item c.loop-item.invariant.2 c.in_ok-add_back.ensures.pushed)

pub returns : goal.returns
returns g c =
    let least = c.size_hint-least.result.0 in
    let draws : Draws (items_of g.I.IntoIterator g.I.IntoIter.Iterator c.args.iter) c.loop-item.yielded = search rules in
    let says : SaysAtLeast (items_of g.I.IntoIterator g.I.IntoIter.Iterator c.args.iter) least = search rules in
    let start : IsNewGrowingQueue IsNewShared (max least 32) 61 c.in_ok-queue.queue = search rules in
    record {
      holds = (c.loop-item.yielded, least, (c.in_ok-queue.queue, draws, says, start, c.loop-item.invariant.2));
      large = search rules;
    }

pub returns-in_err-queue : goal.returns-in_err-queue
returns-in_err-queue g c =
    let least = c.size_hint-least.result.0 in
    let says : SaysAtLeast (items_of g.I.IntoIterator g.I.IntoIter.Iterator c.args.iter) least = search rules in
    record {
      holds = search rules;
      large = λ e.
          let over : MAX_CAPACITY < max least 32 = search rules in
          (least, says, inl over);
    }

pub returns-in_err-add_back : goal.returns-in_err-add_back
returns-in_err-add_back g c =
    let least = c.size_hint-least.result.0 in
    let draws : DrawsAndOne (items_of g.I.IntoIterator g.I.IntoIter.Iterator c.args.iter) c.loop-item.yielded = search rules in
    let says : SaysAtLeast (items_of g.I.IntoIterator g.I.IntoIter.Iterator c.args.iter) least = search rules in
    let start : IsNewGrowingQueue IsNewShared (max least 32) 61 c.in_ok-queue.queue = search rules in
    record {
      holds = search rules;
      large = λ e.
          let at_end : QueueIsAtBound SetRefuses c.loop-item.queue = search rules in
          (least, says, inr (c.in_ok-queue.queue, start, (c.loop-item.yielded, c.loop-item.queue, draws, c.loop-item.invariant.2, at_end)));
    }
