-- A wake seat after a wake.
use Rattle.futures_buffered_table.proofs.Common.{◌≡◌, ℕ, List, [], ◌∷◌, refl, ap, ◌∙◌, subst, arith, ◌≢◌, Woke, Fresh, AtomicStep, MarkSwap, LinkClear, TailSwap, LinkWrite, Idle, View, is_unmark, unmarks, next_role, AddsSteps, Seat, KeepsWaker, KeepsSeat}
use Rattle.futures_buffered_table.specs.Waking.{IsWake}
use Rattle.futures_buffered_table.proofs.ReadyListLemmas.{adds_more}
use Rattle.futures_buffered_table.proofs.RowLemmas.{total-append}

-- a wake unmarks nothing
pub no_unmark : (e i : ℕ) (shape : List AtomicStep) (woke : Woke) → IsWake i shape woke → unmarks e shape ≡ 0
no_unmark e i shape woke is = grind arith

-- a mark swap that found the mark clear, and the steps that put the slot in
pub adds_fresh : (a b c : Seat ℕ View) (i found : ℕ) → found ≡ 0 → AddsSteps a b (MarkSwap i found ∷ []) →
    ((p : ℕ) × AddsSteps b c (LinkClear i ∷ TailSwap i p ∷ LinkWrite p i ∷ [])) → (shape : List AtomicStep) × AddsSteps a c shape
    × IsWake i shape Fresh
adds_fresh a b c i found clear one (p, two) =
    let shape = MarkSwap i 0 ∷ LinkClear i ∷ TailSwap i p ∷ LinkWrite p i ∷ [] in (
      shape,
      adds_more a b c (MarkSwap i 0 ∷ []) (LinkClear i ∷ TailSwap i p ∷ LinkWrite p i ∷ [])
          (subst (λ (k : ℕ). AddsSteps a b (MarkSwap i k ∷ [])) clear one) two,
      (p, refl),
    )

-- a wake seat after a wake
pub woken : (before now : Seat ℕ View) (i : ℕ) (shape : List AtomicStep) (woke : Woke) → KeepsWaker before.table_id before.me →
    KeepsSeat now.table_id now.me Idle → AddsSteps before now shape → IsWake i shape woke → KeepsWaker now.table_id now.me
woken before now i shape woke K seat adds is = record {
  seat = seat;
  wakes = λ e. ap (unmarks e) adds ∙ (total-append (is_unmark e) before.me.0.steps shape ∙ (let a = K.wakes e in
      let b = no_unmark e i shape woke is in omega arith));
}

-- a mark swap that found the mark set leaves the seat idle
pub still_idle : (n slot found : ℕ) → found ≢ 0 → next_role n slot Idle found ≡ Idle
still_idle n slot found ne = grind arith
