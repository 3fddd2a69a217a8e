-- The shapes of calls are runs of the law.
use Rattle.futures_buffered_lost_wakeup.proofs.Common.{◌≡◌, ◌≢◌, ◌⊎◌, ℕ, zero, suc, Bool, true, false, List, [], ◌∷◌, map, refl, sym, ap, ◌∙◌, subst, inl, inr, ◌==◌, if◌then◌else◌, Option, Some, None, Empty, Pause, StepReply, Role, Fresh, Already, More, Woke, Taken, AtomicStep, Idle, Polls, Look, Lose, Errand, Rests, Looks, Tries, Inside, Wakes, Turn, Registers, GoesBack, TakesBack, Asks, GoesOut, GoesFree, LaysOut, Fills, Met, Sibling, Away, GoesKept, GoesVacant, Writes, Has, LetsGo, sibling_after, turn_after, wake_after, wanted_by_sibling, wanted_by_turn}
use Rattle.futures_buffered_table.specs.declared.answer.Taken.{Taken as TakenAnswer}
use Rattle.futures_buffered_table.specs.declared.view.AtomicStep.TheVariants.{LinkClear, TailSwap, LinkWrite, TailRead, Unmark}
use Rattle.futures_buffered_table.specs.declared.view.Phase.TheVariants.{Start, AtStub, Moved, NoNext, Last, StubLinked, InHand}
use Rattle.futures_buffered_table.specs.Taking.{IsTaking, IsReadAgain, IsAtLast, IsFromSlot, IsFromStub, IsAtStub}
use Rattle.futures_buffered_table.specs.declared.answer.Woke.{Woke as WokeAnswer}
use Rattle.futures_buffered_table.specs.Waking.{IsWake}
use Rattle.futures_buffered_place.specs.declared.place.Put.{Put as Answer}
use Rattle.futures_buffered_place.specs.declared.place.Put.TheVariants.{Kept, Busy}
use Rattle.futures_buffered_place.specs.declared.view.Deed.{Deed}
use Rattle.futures_buffered_place.specs.History.{IsPutIn, IsTakeOut, IsMet}
use Rattle.futures_buffered_lost_wakeup.proofs.SceneLemmas.{same_no, same_yes}
use Rattle.futures_buffered_lost_wakeup.specs.Runs.{CallsAreRuns, IsListRun, IsRun, act_of, errand_with, turn_with, sibling_with}

wake_runs : (n i : ℕ) (shape : List AtomicStep) (woke : WokeAnswer) → IsWake i shape woke → IsListRun n i More Idle shape (Woke woke) Idle
wake_runs n i shape Already is = subst (λ (s : List AtomicStep). IsListRun n i More Idle s (Woke Already) Idle) (sym is) (refl, (1, refl, (refl, refl)))
wake_runs n i shape Fresh is = subst (λ (s : List AtomicStep). IsListRun n i More Idle s (Woke Fresh) Idle) (sym is.1)
    (refl, (0, refl, (refl, (0, refl, (refl, (is.0, refl, (refl, (0, refl, (refl, refl)))))))))

abbrev at_rest : ℕ → Role
at_rest head = Polls head Start

-- a taking of the list, from some role on
module _ (n : ℕ) (answer : TakenAnswer) (head : ℕ) where
  abbrev Goes : StepReply → Role → List AtomicStep → Type 0
  Goes said role shape = IsListRun n 0 said role shape (Taken answer) (at_rest head)

  read_again : (h : ℕ) (shape : List AtomicStep) → IsReadAgain h shape answer head → Goes More (Polls h StubLinked) shape
  read_again h shape (inl is) = subst (Goes More (Polls h StubLinked)) (sym is.0) (refl, (0, refl, (ap Taken (sym is.1), ap at_rest (sym is.2))))
  read_again h shape (inr is) = subst (Goes More (Polls h StubLinked)) (sym is.0) (refl, (suc head, refl, (refl, (0, refl, (ap Taken (sym is.1), refl)))))

  at_last : (h : ℕ) (shape : List AtomicStep) → IsAtLast n h shape answer head → Goes More (Polls h NoNext) shape
  at_last h shape (inl (t, ne, is, an, hd)) = subst (Goes More (Polls h NoNext)) (sym is) (
    refl,
    (
      t,
      refl,
      (
        ap (λ (b : Bool). if b then More else Taken Pause) (same_no t h ne) ∙ ap Taken (sym an),
        ap (λ (b : Bool). if b then Polls h Last else Polls h Start) (same_no t h ne) ∙ ap at_rest (sym hd),
      ),
    ),
  )
  at_last h shape (inr (p, rest, is, put)) = subst (Goes More (Polls h NoNext)) (sym is) (
    refl,
    (
      h,
      refl,
      subst (λ (b : Bool). Goes (if b then More else Taken Pause) (if b then Polls h Last else Polls h Start) (LinkClear n ∷ TailSwap n p ∷ LinkWrite p n ∷ rest)) (sym (same_yes h h refl))
          (refl, (0, refl, (refl, (p, refl, (refl, (0, refl, read_again h rest put)))))),
    ),
  )

  from_moved : (h : ℕ) (shape : List AtomicStep) → IsFromSlot n h shape answer head → Goes More (Polls h Moved) shape
  from_moved h shape (inl is) = subst (Goes More (Polls h Moved)) (sym is.0) (refl, (suc head, refl, (refl, (0, refl, (ap Taken (sym is.1), refl)))))
  from_moved h shape (inr (rest, is, last)) = subst (Goes More (Polls h Moved)) (sym is) (refl, (0, refl, at_last h rest last))

  from_slot : (h : ℕ) (shape : List AtomicStep) → h ≢ n → IsFromSlot n h shape answer head → Goes More (Polls h Start) shape
  from_slot h shape ne (inl is) = subst (Goes More (Polls h Start)) (sym is.0) (
    refl,
    (
      suc head,
      refl,
      subst (λ (b : Bool). Goes More (if b then Polls head Moved else Polls head (InHand h)) (Unmark h ∷ [])) (sym (same_no h n ne))
          (refl, (0, refl, (ap Taken (sym is.1), refl))),
    ),
  )
  from_slot h shape ne (inr (rest, is, last)) = subst (Goes More (Polls h Start)) (sym is)
      (refl, (0, refl, subst (λ (b : Bool). Goes More (if b then Polls h AtStub else Polls h NoNext) rest) (sym (same_no h n ne)) (at_last h rest last)))

  from_stub : (shape : List AtomicStep) → IsFromStub n shape answer head → Goes More (Polls n Start) shape
  from_stub shape (q, rest, is, slot) = subst (Goes More (Polls n Start)) (sym is)
      (refl, (suc q, refl, subst (λ (b : Bool). Goes More (if b then Polls q Moved else Polls q (InHand n)) rest) (sym (same_yes n n refl)) (from_moved q rest slot)))

  ends : (t : ℕ) → ((t ≡ n) × (answer ≡ Empty)) ⊎ ((t ≢ n) × (answer ≡ Pause)) → (if t == n then Taken Empty else Taken Pause) ≡ Taken answer
  ends t (inl is) = ap (λ (b : Bool). if b then Taken Empty else Taken Pause) (same_yes t n is.0) ∙ ap Taken (sym is.1)
  ends t (inr is) = ap (λ (b : Bool). if b then Taken Empty else Taken Pause) (same_no t n is.0) ∙ ap Taken (sym is.1)

  at_stub : (shape : List AtomicStep) → IsAtStub n shape answer head → Goes More (Polls n Start) shape
  at_stub shape (t, is, hd, end) = subst (Goes More (Polls n Start)) (sym is) (
    refl,
    (
      0,
      refl,
      subst (λ (b : Bool). Goes More (if b then Polls n AtStub else Polls n NoNext) (TailRead t ∷ [])) (sym (same_yes n n refl))
          (refl, (t, refl, (ends t end, ap at_rest (sym hd)))),
    ),
  )

  taking_runs : (h : ℕ) (shape : List AtomicStep) → IsTaking n h shape answer head → Goes More (Polls h Start) shape
  taking_runs h shape (inl is) = subst (λ (k : ℕ). Goes More (Polls k Start) shape) (sym is.0) (at_stub shape is.1)
  taking_runs h shape (inr (inl is)) = subst (λ (k : ℕ). Goes More (Polls k Start) shape) (sym is.0) (from_stub shape is.1)
  taking_runs h shape (inr (inr is)) = from_slot h shape is.0 is.1

module _ (O : Type 0) (task_of : O → ℕ) where
  abbrev WakeRun : List (Deed O) → Errand → Type 0
  WakeRun shape there = IsRun wake_after (λ _. 1) None Looks (map (act_of task_of) shape) there

  looked_away : (n : ℕ) → n ≢ 1 → WakeRun (Look n ∷ []) Rests
  looked_away zero ne = (tt, (Rests, refl, refl))
  looked_away (suc zero) ne = absurd (ne refl)
  looked_away (suc (suc n)) ne = (tt, (Rests, refl, refl))

  wake_at : (shape : List (Deed O)) (outer : Option O) → IsTakeOut shape outer → WakeRun shape (errand_with task_of outer)
  wake_at shape (Some x) is = subst (λ (s : List (Deed O)). WakeRun s (Wakes (task_of x))) (sym is)
      (tt, (Tries, refl, (tt, (Inside (task_of x), refl, (tt, (Wakes (task_of x), refl, refl))))))
  wake_at shape None (n, ne, inl is) = subst (λ (s : List (Deed O)). WakeRun s Rests) (sym is) (looked_away n ne)
  wake_at shape None (n, ne, inr is) = subst (λ (s : List (Deed O)). WakeRun s Rests) (sym is) (tt, (Tries, refl, (ne, (Rests, refl, refl))))

  module _ (alone : Bool) (own : Option ℕ) where
    abbrev BackRun : List (Deed O) → Type 0
    BackRun shape = IsRun (turn_after alone own) wanted_by_turn own Registers (map (act_of task_of) shape) Registers

    looked_back : (n : ℕ) → n ≢ 1 → BackRun (Look n ∷ [])
    looked_back zero ne = (tt, (Registers, refl, refl))
    looked_back (suc zero) ne = absurd (ne refl)
    looked_back (suc (suc n)) ne = (tt, (Registers, refl, refl))

    back : (shape : List (Deed O)) (outer : Option O) → IsTakeOut shape outer → BackRun shape
    back shape (Some x) is = subst BackRun (sym is) (tt, (GoesBack, refl, (tt, (TakesBack, refl, (tt, (Registers, refl, refl))))))
    back shape None (n, ne, inl is) = subst BackRun (sym is) (looked_back n ne)
    back shape None (n, ne, inr is) = subst BackRun (sym is) (tt, (GoesBack, refl, (ne, (Registers, refl, refl))))

  module _ (x : O) where
    abbrev mine : ℕ
    mine = task_of x

    abbrev TurnRun : Bool → Turn → List (Deed O) → Type 0
    TurnRun alone there shape = IsRun (turn_after alone (Some mine)) wanted_by_turn (Some mine) Asks (map (act_of task_of) shape) there

    looked_out : (alone : Bool) (n : ℕ) → n ≢ 0 → n ≢ 1 → TurnRun alone (Met mine) (Look n ∷ [])
    looked_out alone zero ne0 ne1 = absurd (ne0 refl)
    looked_out alone (suc zero) ne0 ne1 = absurd (ne1 refl)
    looked_out alone (suc (suc n)) ne0 ne1 = (tt, (Met mine, refl, refl))

    lost_free : (n : ℕ) → n ≢ 0 → TurnRun false (Met mine) (Look 0 ∷ Lose n ∷ [])
    lost_free n ne = (tt, (GoesFree, refl, (ne, (Met mine, refl, refl))))

    met_out : (alone : Bool) (shape : List (Deed O)) → IsMet alone shape → TurnRun alone (Met mine) shape
    met_out alone shape (n, inl is) = subst (TurnRun alone (Met mine)) (sym is.2) (looked_out alone n is.0 is.1)
    met_out alone shape (n, inr (inl is)) = subst (TurnRun alone (Met mine)) (sym is.1) (tt, (GoesOut, refl, (is.0, (Met mine, refl, refl))))
    met_out alone shape (n, inr (inr is)) = subst (TurnRun alone (Met mine)) (sym is.2)
        (subst (λ (b : Bool). TurnRun b (Met mine) (Look 0 ∷ Lose n ∷ [])) (sym is.0) (lost_free n is.1))

    out : (alone : Bool) (shape : List (Deed O)) (answer : Answer O) → IsPutIn alone x shape answer → TurnRun alone (turn_with task_of answer) shape
    out true shape (Kept None) is = subst (TurnRun true Asks) (sym is) (tt, (Fills, refl, (refl, (Asks, refl, refl))))
    out false shape (Kept None) is = subst (TurnRun false Asks) (sym is) (tt, (GoesFree, refl, (tt, (LaysOut, refl, (refl, (Asks, refl, refl))))))
    out alone shape (Kept (Some y)) is = subst (TurnRun alone Asks) (sym is) (tt, (GoesOut, refl, (tt, (LaysOut, refl, (refl, (Asks, refl, refl))))))
    out alone shape (Busy same) is = subst (λ (z : O). TurnRun alone (Met (task_of z)) shape) (sym is.0) (met_out alone shape is.1)

    abbrev SiblingRun : Bool → Sibling → List (Deed O) → Type 0
    SiblingRun alone there shape = IsRun (sibling_after alone mine) wanted_by_sibling (Some mine) Away (map (act_of task_of) shape) there

    looked_beside : (alone : Bool) (n : ℕ) → n ≢ 0 → n ≢ 1 → SiblingRun alone (LetsGo mine) (Look n ∷ [])
    looked_beside alone zero ne0 ne1 = absurd (ne0 refl)
    looked_beside alone (suc zero) ne0 ne1 = absurd (ne1 refl)
    looked_beside alone (suc (suc n)) ne0 ne1 = (tt, (LetsGo mine, refl, refl))

    lost_vacant : (n : ℕ) → n ≢ 0 → SiblingRun false (LetsGo mine) (Look 0 ∷ Lose n ∷ [])
    lost_vacant n ne = (tt, (GoesVacant, refl, (ne, (LetsGo mine, refl, refl))))

    met_beside : (alone : Bool) (shape : List (Deed O)) → IsMet alone shape → SiblingRun alone (LetsGo mine) shape
    met_beside alone shape (n, inl is) = subst (SiblingRun alone (LetsGo mine)) (sym is.2) (looked_beside alone n is.0 is.1)
    met_beside alone shape (n, inr (inl is)) = subst (SiblingRun alone (LetsGo mine)) (sym is.1) (tt, (GoesKept, refl, (is.0, (LetsGo mine, refl, refl))))
    met_beside alone shape (n, inr (inr is)) = subst (SiblingRun alone (LetsGo mine)) (sym is.2)
        (subst (λ (b : Bool). SiblingRun b (LetsGo mine) (Look 0 ∷ Lose n ∷ [])) (sym is.0) (lost_vacant n is.1))

    beside : (alone : Bool) (shape : List (Deed O)) (answer : Answer O) → IsPutIn alone x shape answer → SiblingRun alone (sibling_with task_of answer) shape
    beside true shape (Kept None) is = subst (SiblingRun true Away) (sym is) (tt, (Writes, refl, (refl, (Away, refl, refl))))
    beside false shape (Kept None) is = subst (SiblingRun false Away) (sym is) (tt, (GoesVacant, refl, (tt, (Has None, refl, (refl, (Away, refl, refl))))))
    beside alone shape (Kept (Some y)) is = let old = task_of y in
        subst (SiblingRun alone (LetsGo old)) (sym is) (tt, (GoesKept, refl, (tt, (Has (Some old), refl, (refl, (LetsGo old, refl, refl))))))
    beside alone shape (Busy same) is = subst (λ (z : O). SiblingRun alone (LetsGo (task_of z)) shape) (sym is.0) (met_beside alone shape is.1)

  pub calls_are_runs : CallsAreRuns O task_of
  calls_are_runs = record {
    wake = wake_runs;
    taking = λ n h shape answer head is. taking_runs n answer head h shape is;
    wake_at_place = wake_at;
    takes_back = back;
    puts_in = λ alone x. out x alone;
    sibling_puts_in = λ alone x. beside x alone;
  }
