use Rattle.futures_buffered_table.proofs.Common.{arith, ℕ, [], ◌∷◌, ◌++◌, refl, ap, ◌∙◌, subst, Fresh, Already, MarkSwap, Role, AddsSteps, IsInRole, Waker}
use Rattle.futures_buffered_table.proofs.ReadyListLemmas.{in_role, seat_kept}
use Rattle.futures_buffered_table.proofs.WakingLemmas.{adds_fresh, woken, still_idle}
use Rattle.futures_buffered_table.proofs.ready_list.ReadyList.wake.Goals as goal

pub swap_mark-requires : goal.swap_mark-requires
swap_mark-requires c = record {
  role = (
    in_role _ _ _ c.self.invariant _ c.self.view_is c.seat.inside.seat _ _ c.seat.invariant.seat
        (ap (λ (v : Waker). v.list) c.seat.view_is) c.requires.list,
    c.requires.slot,
  );
}

pub invariant_of-seat : goal.invariant_of-seat
invariant_of-seat c =
    let mine = c.seat.inside.seat in let now = c.swap_mark.new.seat in let i : ℕ = c.args.slot in
    let sits = subst (λ (r : Role). IsInRole c.args.self.now r now)
    (still_idle c.args.self.now.capacity i c.swap_mark.result c.if-swap_mark-ne0.true) c.swap_mark.ensures.role in
    let adds : AddsSteps mine now (MarkSwap i 1 ∷ []) = subst (λ (k : ℕ). AddsSteps mine now (MarkSwap i k ∷ []))
    (let a = c.if-swap_mark-ne0.true in let b = c.swap_mark.ensures.low in omega arith) c.swap_mark.ensures.adds in
    woken mine now i (MarkSwap i 1 ∷ []) Already c.seat.invariant (seat_kept _ _ _ c.self.invariant _ c.self.view_is now _ sits) adds refl

pub invariant_of-seat-2 : goal.invariant_of-seat-2
invariant_of-seat-2 c =
    let mine = c.seat.inside.seat in let now = c.put_in.new.seat in let i : ℕ = c.args.slot in
    let won = adds_fresh mine c.swap_mark.new.seat now i c.swap_mark.result c.if-swap_mark-ne0.false c.swap_mark.ensures.adds
    c.put_in.ensures.adds in
    woken mine now i won.0 Fresh c.seat.invariant (seat_kept _ _ _ c.self.invariant _ c.self.view_is now _ c.put_in.ensures.role) won.1
    won.2

pub returns-clause-shape : goal.returns-clause-shape
returns-clause-shape c =
    let mine = c.seat.inside.seat in let i : ℕ = c.args.slot in
    let won = adds_fresh mine c.swap_mark.new.seat c.put_in.new.seat i c.swap_mark.result c.if-swap_mark-ne0.false c.swap_mark.ensures.adds
    c.put_in.ensures.adds in
    (won.0, won.1 ∙ ap (λ (v : Waker). v.steps ++ won.0) c.seat.view_is, won.2)
