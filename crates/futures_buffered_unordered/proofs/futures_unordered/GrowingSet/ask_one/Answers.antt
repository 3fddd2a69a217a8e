use Rattle.futures_buffered_unordered.proofs.Common.{rules, refl, arith, common_steps, All-set, Covers, AllHeld, Bounded}
use Rattle.futures_buffered_unordered.proofs.GroupsStepLemmas.{one_some, one_pending, one_last, one_left, All-removed}
use Rattle.futures_buffered_unordered.proofs.FuturesUnorderedInvariantLemmas.{keeps_pending, keeps_asked, keeps_ended_last, keeps_ended, covered_asked, still_asked, covered_at}
use Rattle.futures_buffered_unordered.proofs.futures_unordered.GrowingSet.ask_one.Goals as goal

pub ask-answer-requires-clause-registered : goal.ask-answer-requires-clause-registered
ask-answer-requires-clause-registered g c =
    let at = rw (← c.self.view_is) at c.next_place-place.ensures in
    λ registered. covered_at g.S.ReadySource.needs _ _ _ _ c.index_mut-group.ensures.value at.below (rw (← c.self.view_is) at (c.requires.registered registered))

pub invariant_of-self : goal.invariant_of-self
invariant_of-self g c =
    let at = rw (← c.self.view_is) at c.next_place-place.ensures in
    let is = c.index_mut-group.ensures.value in
    let kept = c.ask-answer.ensures.keeps in
    keeps_pending g.S.ReadySource.needs _ _ _ _ _ _ _ c.self.invariant at.value at.below is kept _ _ _ c.len-before.ensures c.len.ensures refl c.in-Pending.is

pub invariant_of-self-then-is_some : goal.invariant_of-self-then-is_some
invariant_of-self-then-is_some g c =
    let at = rw (← c.self.view_is) at c.next_place-place.ensures in
    let is = c.index_mut-group.ensures.value in
    let kept = c.ask-answer.ensures.keeps in
    keeps_asked g.S.ReadySource.needs _ _ _ _ _ _ _ c.self.invariant at.value at.below is kept _ _ _ c.len-before.ensures c.len.ensures refl

pub invariant_of-self-then-place-len : goal.invariant_of-self-then-place-len
invariant_of-self-then-place-len g c =
    let at = rw (← c.self.view_is) at c.next_place-place.ensures in
    let is = c.index_mut-group.ensures.value in
    let kept = c.ask-answer.ensures.keeps in
    keeps_ended_last g.S.ReadySource.needs _ _ _ _ _ _ _ c.self.invariant at.value at.below is kept _ _ _ c.len-before.ensures c.len.ensures refl (search rules)

pub invariant_of-self-else-place-len : goal.invariant_of-self-else-place-len
invariant_of-self-else-place-len g c =
    let at = rw (← c.self.view_is) at c.next_place-place.ensures in
    let is = c.index_mut-group.ensures.value in
    let kept = c.ask-answer.ensures.keeps in
    keeps_ended g.S.ReadySource.needs _ _ _ _ _ _ _ c.self.invariant at.value at.below is kept _ _ _ c.len-before.ensures c.len.ensures refl _ _ c.in-Ready.is (search rules) (search rules) c.drop_group.ensures

pub returns-in-Pending-clause-asked : goal.returns-in-Pending-clause-asked
returns-in-Pending-clause-asked g c =
    let at = rw (← c.self.view_is) at c.next_place-place.ensures in
    rw (← c.self.view_is) (one_pending (g.R.AskGroup.asks c.args.is_registered) _ _ _ _ _ _ _ c.in-Pending.is at.value at.below c.index_mut-group.ensures.value c.ask-answer.ensures.polls)

pub returns-in-Pending-clause-still_covered : goal.returns-in-Pending-clause-still_covered
returns-in-Pending-clause-still_covered g c =
    let at = rw (← c.self.view_is) at c.next_place-place.ensures in
    λ registered. still_asked g.S.ReadySource.needs _ _ _ _ _ _ _ c.self.invariant at.value at.below c.index_mut-group.ensures.value c.ask-answer.ensures.keeps _ _ c.ask-answer.ensures.kept (rw (← c.self.view_is) at (c.requires.registered registered))

pub returns-then-is_some-clause-asked : goal.returns-then-is_some-clause-asked
returns-then-is_some-clause-asked g c =
    let at = rw (← c.self.view_is) at c.next_place-place.ensures in
    rw (← c.self.view_is) (one_some (g.R.AskGroup.asks c.args.is_registered) _ _ _ _ _ _ _ _ c.in-Ready.is (search rules) at.value at.below c.index_mut-group.ensures.value c.ask-answer.ensures.polls)

pub returns-then-is_some-clause-still_covered : goal.returns-then-is_some-clause-still_covered
returns-then-is_some-clause-still_covered g c =
    let at = rw (← c.self.view_is) at c.next_place-place.ensures in
    λ registered. still_asked g.S.ReadySource.needs _ _ _ _ _ _ _ c.self.invariant at.value at.below c.index_mut-group.ensures.value c.ask-answer.ensures.keeps _ _ c.ask-answer.ensures.kept (rw (← c.self.view_is) at (c.requires.registered registered))

pub returns-then-place-len-clause-asked : goal.returns-then-place-len-clause-asked
returns-then-place-len-clause-asked g c =
    let at = rw (← c.self.view_is) at c.next_place-place.ensures in
    rw (← c.self.view_is) (one_last (g.R.AskGroup.asks c.args.is_registered) _ _ _ _ _ _ _ _ c.in-Ready.is (search rules) at.value at.below (search rules) c.index_mut-group.ensures.value c.ask-answer.ensures.polls)

pub returns-then-place-len-clause-still_covered : goal.returns-then-place-len-clause-still_covered
returns-then-place-len-clause-still_covered g c =
    let at = rw (← c.self.view_is) at c.next_place-place.ensures in
    λ registered. still_asked g.S.ReadySource.needs _ _ _ _ _ _ _ c.self.invariant at.value at.below c.index_mut-group.ensures.value c.ask-answer.ensures.keeps _ _ c.ask-answer.ensures.kept (rw (← c.self.view_is) at (c.requires.registered registered))

pub returns-else-place-len-clause-asked : goal.returns-else-place-len-clause-asked
returns-else-place-len-clause-asked g c =
    let at = rw (← c.self.view_is) at c.next_place-place.ensures in
    rw (← c.self.view_is) (one_left (g.R.AskGroup.asks c.args.is_registered) _ _ _ _ _ _ _ _ _ c.in-Ready.is (search rules) at.value at.below (search rules) c.index_mut-group.ensures.value c.ask-answer.ensures.polls c.drop_group.ensures)

pub returns-else-place-len-clause-still_covered : goal.returns-else-place-len-clause-still_covered
returns-else-place-len-clause-still_covered g c =
    let at = rw (← c.self.view_is) at c.next_place-place.ensures in
    λ registered. rw c.drop_group.ensures (All-removed (λ (b : Bounded g.row.F.Denot g.row.S.Denot). Covers c.ask-answer.new.cx (g.S.ReadySource.needs b.source)) _ c.next_place-place.result (still_asked g.S.ReadySource.needs _ _ _ _ _ _ _ c.self.invariant at.value at.below c.index_mut-group.ensures.value c.ask-answer.ensures.keeps _ _ c.ask-answer.ensures.kept (rw (← c.self.view_is) at (c.requires.registered registered))))

pub returns-in-Pending-clause-covered : goal.returns-in-Pending-clause-covered
returns-in-Pending-clause-covered g c =
    let at = rw (← c.self.view_is) at c.next_place-place.ensures in
    let covered = rw c.in-Pending.is at c.ask-answer.ensures.covered in
    rw c.in-Pending.is (covered_asked g.S.ReadySource.needs _ _ _ _ _ _ _ c.self.invariant at.value at.below c.index_mut-group.ensures.value c.ask-answer.ensures.keeps _ covered)

pub returns-else-place-len-clause-pollable : goal.returns-else-place-len-clause-pollable
returns-else-place-len-clause-pollable g c =
    let pollable = λ (x : Bounded g.row.F.Denot g.row.S.Denot). AllHeld g.R.AskGroup.can_poll x.slots in
    rw c.drop_group.ensures (All-removed pollable _ c.next_place-place.result (All-set pollable _ _ _ c.ask-answer.ensures.pollable (rw (← c.self.view_is) at c.requires.pollable)))

pub overflow_sub-self : goal.overflow_sub-self
overflow_sub-self g c = grind (arith, common_steps)

pub overflow_sub-self-2 : goal.overflow_sub-self-2
overflow_sub-self-2 g c = grind (arith, common_steps)
