use Rattle.futures_buffered_table.proofs.Common.{◌≡◌, ◌++◌, [], All, refl, sym, ap, ◌∙◌, subst, mark, Waker, steps_of, nil_from_length}
use Rattle.futures_buffered_table.proofs.ClosingLemmas.{joined_on, joined_all, handed_in}
use Rattle.futures_buffered_table.proofs.ready_list.ReadyList.close.Goals as goal
use Rattle.std.proofs.lemmas.List.Elements.{All-head, All-tail}

pub loop-seat-init : goal.loop-seat-init
loop-seat-init c = let same = c.into_iter-seat-iterator.ensures.into_iter_gives.0 in
    record {
      whole = ap (λ l. c.args.poll.steps ++ steps_of l) same;
      kept = λ e. refl;
      here = (c.requires.poll, refl);
      theirs = subst (All (λ (s : Waker). s.list ≡ c.args.self.list)) (sym same) c.requires.seats;
    }

pub join-all-requires : goal.join-all-requires
join-all-requires c = (
  c.loop-seat.invariant.here.0,
  All-head (λ (s : Waker). s.list ≡ c.args.self.list) _ _
      (subst (All (λ (s : Waker). s.list ≡ c.args.self.list)) c.in-Some.ensures.steps.0 c.loop-seat.invariant.theirs),
)

pub loop-seat-preserved : goal.loop-seat-preserved
loop-seat-preserved c = let so_far = c.loop-seat.invariant in let step = c.in-Some.ensures.steps.0 in let did = c.join-all.ensures in
    record {
      whole = joined_on _ _ _ _ c.in-Some.seat _ step did.joined.2 so_far.whole;
      kept = λ e. did.unmarks e ∙ so_far.kept e;
      here = (did.joined.0 ∙ so_far.here.0, did.joined.1 ∙ so_far.here.1);
      theirs = All-tail (λ (s : Waker). s.list ≡ c.args.self.list) _ _
          (subst (All (λ (s : Waker). s.list ≡ c.args.self.list)) step so_far.theirs);
    }

pub close_seat-requires : goal.close_seat-requires
close_seat-requires c = c.loop-seat.invariant.here.0

pub returns-clause-placed : goal.returns-clause-placed
returns-clause-placed c = let did = c.close_seat.ensures.placed in (did.0, did.1, did.2 ∙ c.loop-seat.invariant.here.1)

pub returns-clause-none_lost : goal.returns-clause-none_lost
returns-clause-none_lost c = λ e lt.
    let rest = c.loop-seat.seat-iterator.rest in
    let none : rest.items ≡ [] = nil_from_length rest.items (sym rest.ok.0 ∙ c.in-None.ensures.steps.0) in
    let all = joined_all _ _ _ none c.loop-seat.invariant.whole in
    handed_in e c.args.poll.steps c.loop-seat.all.steps c.args.seats.items (mark c.close_seat.result.words e) all
    (c.loop-seat.invariant.kept e) (c.close_seat.ensures.none_lost e lt)
