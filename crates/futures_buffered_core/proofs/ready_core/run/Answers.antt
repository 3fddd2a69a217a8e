use Rattle.futures_buffered_core.proofs.Common.{◌≡◌, ◌+◌, ◌++◌, [], ◌∷◌, take, Some, refl, sym, ap, ◌∙◌, arith, append-nil, append_assoc, take_more, slice_get-get_or, Mark, Answers}
use Rattle.futures_buffered_core.proofs.HistoryLemmas.{Answers-none, Answers-push, after_mark, after_take}
use Rattle.futures_buffered_core.proofs.ready_core.run.Goals.{in-Mark, in-Take}
use Rattle.futures_buffered_core.proofs.ready_core.run.Goals as goal

pub loop-event-init : goal.loop-event-init
loop-event-init c =
    record {
      answered = ([], c.reserve.ensures.items ∙ sym (append-nil c.args.out.now.items), Answers-none c.args.core.now.marked c.capacity.ensures.once);
      capacity = refl;
      below = rw c.capacity.ensures.value at c.in_default.ensures.none;
      room = let room = c.in-Ok.ensures.ok in omega arith;
    }

pub mark-requires : goal.mark-requires
mark-requires c =
    let same = c.loop-event.invariant.capacity in
    let named = slice_get-get_or c.args.events.now c.loop-event.event-index (Mark 0) c.loop-event-test.true ∙ ap Some c.in-Mark.is in
    omega (arith, c.loop-event.invariant.below c.loop-event.event-index c.in-Mark.i c.loop-event-test.true named)

pub loop-event-preserved : goal.loop-event-preserved
loop-event-preserved c =
    let events = c.args.events.now in
    let start = c.args.core.now.marked in
    let so_far = c.loop-event.invariant.answered in
    let before = take c.loop-event.event-index events in
    let more = take_more events c.loop-event.event-index (Mark 0) c.loop-event-test.true in
    let room = c.loop-event.invariant.room in
    let replies = so_far.0 ++ c.match-event.reply ∷ [] in
    let turn = elim c.match-event.branch as (λ _. Answers start (take (c.loop-event.event-index + 1) events) replies c.match-event.core.marked × (c.match-event.core.capacity ≡ c.loop-event.core.capacity)) [
      | in-Mark w ↦ rw (w.core-is, more, w.in-Mark.is, w.reply-is)
          (Answers-push start before so_far.0 _ _ _ _ so_far.2 (λ b a same. after_mark b a same w.in-Mark.i w.mark.result _ _ w.mark.ensures.marked), w.mark.ensures.capacity)
      | in-Take w ↦ rw (w.core-is, more, w.in-Take.is, w.reply-is)
          (Answers-push start before so_far.0 _ _ _ _ so_far.2 (λ b a same. after_take b a same w.take.result _ _ w.take.ensures.taken), w.take.ensures.capacity)
    ] in
    record {
      answered = (replies, c.push_reserved.ensures.items ∙ rw (so_far.1) (append_assoc c.args.out.now.items so_far.0 (c.match-event.reply ∷ [])), turn.0);
      capacity = turn.1 ∙ c.loop-event.invariant.capacity;
      below = c.loop-event.invariant.below;
      room = omega arith;
    }
