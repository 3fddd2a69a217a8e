use Rattle.futures_buffered_ordered.proofs.Common.{rules, ◌≡◌, ◌+◌, ◌++◌, ◌∷◌, [], length, arith, length_push, MarksShared, slot_count, PushesNumber}
use Rattle.futures_buffered_ordered.proofs.FuturesOrderedBoundedLemmas.{one_came}
use Rattle.futures_buffered_ordered.proofs.OrderedEntriesLemmas.{adds_one_more, one_entry_more}
use Rattle.futures_buffered_ordered.proofs.futures_ordered_bounded.BoundedQueue+T+A+SharedReady.from_iter.Goals as goal

pub loop-item-preserved : goal.loop-item-preserved
loop-item-preserved g c =
    let so_far = c.loop-item.yielded in
    let item = c.in-Some.item in
    let before = c.loop-item.invariant in
    let pushed = c.push_back.ensures.pushed in
    let long : length c.push_back.new.self.entries ≡ length c.loop-item.queue.entries + 1 = one_entry_more (PushesNumber MarksShared) c.loop-item.queue c.push_back.new.self item pushed in
    let came : c.loop-item.item-iterator.rest.items ≡ item ∷ c.next.new.self.rest.items = search rules in
    let left : (so_far ++ item ∷ []) ++ c.next.new.self.rest.items ≡ c.into_iter-item-iterator.result.rest.items = one_came so_far c.loop-item.item-iterator.rest.items c.next.new.self.rest.items c.into_iter-item-iterator.result.rest.items item before.5 came in
    let slots : slot_count c.push_back.new.self.set.slots ≡ length c.into_iter-item-iterator.result.rest.items = omega (arith, c.push_back.ensures.capacity, before.4) in (
      tt,
      tt,
      adds_one_more (PushesNumber MarksShared) c.in_ok-queue.queue c.loop-item.queue c.push_back.new.self so_far item before.2 pushed,
      omega (arith, long, before.3, length_push so_far item),
      slots,
      left,
    )
