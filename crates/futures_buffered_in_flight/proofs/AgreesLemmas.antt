-- The ledger agrees with the slots: what a push, a cancel and the end of a future leave of that.
use Rattle.futures_buffered_in_flight.proofs.Common.{◌≡◌, ◌≢◌, ◌<◌, ◌≤◌, ℕ, zero, suc, ◌+◌, ◌⊎◌, inl, inr, Bool, true, false, cond, List, [], ◌∷◌, length, Option, Some, None, IsSome, MatchOption, IfErr, MatchResult, Result, Ok, Err, count_by, get_or, is_some, refl, sym, ap, subst, ◌∙◌, arith, cases_eq, eq-eqb, sum_by-cons, same_Some, get_or-set_same, get_or-set_other, get_or-le-sum_by, Slots, value_in, held_count, with_slot_freed, Inserts, None-Some, value_in-with_slot_freed, value_in-with_slot_freed_other, Place, Key, AnyGives, Outcome, RunGives, Run, Agrees, AllByRecursion, AllPollable, Waits, times_held, times_in}
use Rattle.std.proofs.Common.{eqb, ne_eqb, ◌&&◌}
use Rattle.futures_buffered_in_flight.proofs.LedgerLemmas.{counted_without, length_without}
use Rattle.futures_buffered_in_flight.specs.Ledger.{Account, IsGivenBy, IsNotice, Stub, same_key, told_to, without}

-- whether two keys are equal, as a number
abbrev same : Key → Key → ℕ
same a b = cond (same_key a b) 1 0

same_slot : (a b : Key) → a.slot ≡ b.slot → same a b ≡ cond (eqb a.push b.push) 1 0
same_slot a b e = ap (λ (s : Bool). cond (s && eqb a.push b.push) 1 0) (eq-eqb a.slot b.slot e)

other_slot : (a b : Key) → a.slot ≢ b.slot → same a b ≡ 0
other_slot a b ne = ap (λ (s : Bool). cond (s && eqb a.push b.push) 1 0) (ne_eqb a.slot b.slot ne)

module _ {T : Type 0} where
  -- how often a key is held once the slot of another key is free
  pub times_freed : (slots : Slots (Place T)) (place : Place T) (key k : Key) → value_in slots key.slot ≡ Some place → place.push ≡ key.push
      → times_held (with_slot_freed slots key.slot) k + same k key ≡ times_held slots k
  times_freed slots place key k holds is = elim (cases_eq k.slot key.slot) [
    | inl at ↦
        let gone : times_held (with_slot_freed slots key.slot) k ≡ 0 = ap (times_in k) (ap (λ i. value_in (with_slot_freed slots key.slot) i) at ∙ value_in-with_slot_freed slots key.slot) in
        let was : times_held slots k ≡ cond (eqb k.push key.push) 1 0 = ap (times_in k) (ap (λ i. value_in slots i) at ∙ holds) ∙ ap (λ n. cond (eqb k.push n) 1 0) is in
        omega (arith, gone, was, same_slot k key at)
    | inr other ↦
        let kept : times_held (with_slot_freed slots key.slot) k ≡ times_held slots k = ap (times_in k) (value_in-with_slot_freed_other slots key.slot k.slot other) in
        omega (arith, kept, other_slot k key other)
  ]

  -- and once a key went in
  pub times_entered : (old new : Slots (Place T)) (place : Place T) (key k : Key) → Inserts old key.slot place new → place.push ≡ key.push
      → times_held new k ≡ times_held old k + same k key
  times_entered old new place key k ins is = elim (cases_eq k.slot key.slot) [
    | inl at ↦
        let none : times_held old k ≡ 0 = ap (times_in k) (ap (λ i. value_in old i) at ∙ ins.was_empty) in
        let now : times_held new k ≡ cond (eqb k.push key.push) 1 0 =
        ap (times_in k) (ap (λ i. value_in new i) at ∙ ap (λ ps. get_or ps key.slot None) ins.now_held ∙ get_or-set_same old.places key.slot (Some place) None ins.within)
        ∙ ap (λ n. cond (eqb k.push n) 1 0) is in
        omega (arith, none, now, same_slot k key at)
    | inr other ↦
        let kept : times_held new k ≡ times_held old k = ap (times_in k) (ap (λ ps. get_or ps k.slot None) ins.now_held ∙ get_or-set_other old.places key.slot k.slot (Some place) None other) in
        omega (arith, kept, other_slot k key other)
  ]

  -- a key that no place has is not held
  pub times_unheld : (slots : Slots (Place T)) (key : Key) → ((tag : T) → value_in slots key.slot ≡ Some (record { tag = tag; push = key.push }) → ⊥) → times_held slots key ≡ 0
  times_unheld slots key unheld = by_place (value_in slots key.slot) refl
    where
      by_place : (o : Option (Place T)) → value_in slots key.slot ≡ o → times_in key o ≡ 0
      by_place None is = refl
      by_place (Some place) is = elim (cases_eq key.push place.push) [
        | inl eq ↦ absurd (unheld place.tag (is ∙ λ i. Some (record { tag = place.tag; push = sym eq i })))
        | inr ne ↦ ap (λ (b : Bool). cond b 1 0) (ne_eqb key.push place.push ne)
      ]

  -- a slot that holds something counts
  held_is_some : (slots : Slots (Place T)) (slot : ℕ) (place : Place T) → value_in slots slot ≡ Some place → 0 < held_count slots
  held_is_some slots slot place holds = at (slots.places) slot holds
    where
      at : (ps : List (Option (Place T))) (i : ℕ) → get_or ps i None ≡ Some place → 0 < count_by is_some ps
      at [] i e = absurd (None-Some e)
      at (p ∷ ps) zero e = let here : ◌≡◌ {A = ℕ} (cond (is_some p) 1 0) 1 = ap (λ (o : Option (Place T)). cond (is_some o) 1 0) e in omega (arith, here, sum_by-cons (λ (o : Option (Place T)). cond (is_some o) 1 0) p ps)
      at (p ∷ ps) (suc i) e = let more = at ps i e in omega (arith, more, sum_by-cons (λ (o : Option (Place T)). cond (is_some o) 1 0) p ps)

  -- nothing is held, and there is no ticket
  pub agrees_none : (slots : Slots (Place T)) (ledger : Account) (cancelled : ℕ) → held_count slots ≡ 0 → ledger.tickets ≡ [] → cancelled ≡ 0 → Agrees slots ledger cancelled
  agrees_none slots ledger cancelled none no_ticket gone = record {
    lame = [];
    as_many = sym gone;
    tickets = λ key. let no_more : count_by (same_key key) ledger.tickets ≡ 0 = ap (λ ks. count_by (same_key key) ks) no_ticket in omega (arith, no_more);
    told = λ slot place holds. absurd (omega (arith, none, held_is_some slots slot place holds));
  }

  -- all tickets were given up
  pub agrees_forgotten : (slots : Slots (Place T)) (l m : Account) (cancelled : ℕ) → Agrees slots l cancelled → m.tickets ≡ [] → m.told ≡ l.told → Agrees slots m 0
  agrees_forgotten slots l m cancelled a none told = record {
    lame = [];
    as_many = refl;
    tickets = λ key. let no_more : count_by (same_key key) m.tickets ≡ 0 = ap (λ ks. count_by (same_key key) ks) none in omega (arith, no_more);
    told = λ slot place holds. omega (arith, a.told slot place holds, ap (λ t. told_to t slot) told);
  }

  -- a future went in, with a ticket
  pub agrees_entered : (old new : Slots (Place T)) (l m : Account) (cancelled : ℕ) (place : Place T) (key : Key) → Agrees old l cancelled
      → Inserts old key.slot place new → place.push ≡ key.push → m.tickets ≡ key ∷ l.tickets → m.told ≡ l.told → told_to l.told key.slot ≤ key.push → Agrees new m cancelled
  agrees_entered old new l m cancelled place key a ins is list told below = record {
    lame = a.lame;
    as_many = a.as_many;
    tickets = λ k. omega (arith, a.tickets k, times_entered old new place key k ins is, ap (λ ks. count_by (same_key k) ks) list, sum_by-cons (λ j. same k j) key l.tickets);
    told = λ slot p holds. elim (cases_eq slot key.slot) [
      | inl at ↦
          let here = ap (λ ps. get_or ps key.slot None) ins.now_held ∙ get_or-set_same old.places key.slot (Some place) None ins.within in
          let mine : place ≡ p = same_Some _ _ (sym here ∙ ap (λ i. value_in new i) (sym at) ∙ holds) in
          let push : p.push ≡ key.push = ap (λ (q : Place T). q.push) (sym mine) ∙ is in
          omega (arith, push, below, ap (λ t. told_to t slot) told, ap (λ i. told_to l.told i) at)
      | inr other ↦
          let was = sym (ap (λ ps. get_or ps slot None) ins.now_held ∙ get_or-set_other old.places key.slot slot (Some place) None other) ∙ holds in
          omega (arith, a.told slot p was, ap (λ t. told_to t slot) told)
    ];
  }

  -- what a slot holds once another is free, it held before
  freed_held : (slots : Slots (Place T)) (slot i : ℕ) (p : Place T) → value_in (with_slot_freed slots slot) i ≡ Some p → (i ≢ slot) × (value_in slots i ≡ Some p)
  freed_held slots slot i p holds = elim (cases_eq i slot) [
    | inl at ↦ absurd (None-Some (sym (value_in-with_slot_freed slots slot) ∙ subst (λ i. value_in (with_slot_freed slots slot) i ≡ Some p) at holds))
    | inr other ↦ (other, sym (value_in-with_slot_freed_other slots slot i other) ∙ holds)
  ]

  -- a future was cancelled
  pub agrees_cancelled : (slots : Slots (Place T)) (ledger : Account) (cancelled : ℕ) (place : Place T) (key : Key) → Agrees slots ledger cancelled
      → value_in slots key.slot ≡ Some place → place.push ≡ key.push → Agrees (with_slot_freed slots key.slot) ledger (cancelled + 1)
  agrees_cancelled slots ledger cancelled place key a holds is = record {
    lame = key ∷ a.lame;
    as_many = omega (arith, a.as_many);
    tickets = λ k. omega (arith, a.tickets k, times_freed slots place key k holds is, sum_by-cons (λ j. same k j) key a.lame);
    told = λ slot p h. a.told slot p (freed_held slots key.slot slot p h).1;
  }

  -- what the ledger tells of a slot that is free
  pub agrees_told : (slots : Slots (Place T)) (l m : Account) (cancelled : ℕ) (key : Key) → Agrees slots l cancelled → value_in slots key.slot ≡ None
      → m.tickets ≡ l.tickets → ((slot : ℕ) → (told_to m.told slot ≤ told_to l.told slot) ⊎ ((slot ≡ key.slot) × (told_to m.told slot ≤ key.push + 1))) → Agrees slots m cancelled
  agrees_told slots l m cancelled key a free list told = record {
    lame = a.lame;
    as_many = a.as_many;
    tickets = λ k. omega (arith, a.tickets k, ap (λ ks. count_by (same_key k) ks) list);
    told = λ slot p holds. elim (told slot) [
      | inl less ↦ omega (arith, less, a.told slot p holds)
      | inr at ↦ absurd (None-Some (sym free ∙ ap (λ i. value_in slots i) (sym at.0) ∙ holds))
    ];
  }

  -- a future that is not held has ended
  pub agrees_ended : (slots : Slots (Place T)) (l m : Account) (old new : ℕ) (key : Key) → Agrees slots l old → 0 < count_by (same_key key) l.tickets
      → times_held slots key ≡ 0 → m.tickets ≡ without key l.tickets → m.told ≡ l.told → new + 1 ≡ old → Agrees slots m new
  agrees_ended slots l m old new key a given unheld list told fewer =
      let some : 0 < count_by (same_key key) a.lame = omega (arith, a.tickets key, given, unheld) in
      record {
        lame = without key a.lame;
        as_many = omega (arith, length_without key a.lame some, a.as_many, fewer);
        tickets = λ k. omega (arith, a.tickets k, counted_without key k a.lame some, counted_without key k l.tickets given, ap (λ ks. count_by (same_key k) ks) list);
        told = λ slot p holds. omega (arith, a.told slot p holds, ap (λ t. told_to t slot) told);
      }

  -- so some future is cancelled
  pub agrees_some : (slots : Slots (Place T)) (ledger : Account) (cancelled : ℕ) (key : Key) → Agrees slots ledger cancelled → 0 < count_by (same_key key) ledger.tickets
      → times_held slots key ≡ 0 → 0 < cancelled
  agrees_some slots ledger cancelled key a given unheld =
      let some : 0 < count_by (same_key key) a.lame = omega (arith, a.tickets key, given, unheld) in
      omega (arith, length_without key a.lame some, a.as_many)

  -- a future that a notice is of is not held
  pub unheld_told : (slots : Slots (Place T)) (ledger : Account) (cancelled : ℕ) (key : Key) (tag : T) → Agrees slots ledger cancelled → key.push < told_to ledger.told key.slot
      → value_in slots key.slot ≡ Some (record { tag = tag; push = key.push }) → ⊥
  unheld_told slots ledger cancelled key tag a told holds = omega (arith, told, a.told key.slot _ holds)

  -- slots that hold the same agree with the same
  pub agrees_wide : (old wide : Slots (Place T)) (ledger : Account) (cancelled : ℕ) → ((i : ℕ) → value_in wide i ≡ value_in old i) → Agrees old ledger cancelled → Agrees wide ledger cancelled
  agrees_wide old wide ledger cancelled same a = record {
    lame = a.lame;
    as_many = a.as_many;
    tickets = λ k. omega (arith, a.tickets k, ap (times_in k) (same k.slot));
    told = λ slot p holds. a.told slot p (sym (same slot) ∙ holds);
  }

  pub agrees_same : (old new : Slots (Place T)) (l m : Account) (a b : ℕ) → new ≡ old → m ≡ l → b ≡ a → Agrees old l a → Agrees new m b
  agrees_same old new l m a b slots ledger cancelled = subst (λ (x : Slots (Place T) × Account × ℕ). Agrees x.0 x.1 x.2) (λ i. (sym slots i, sym ledger i, sym cancelled i))

pub given_on : (l m : Account) (t : Stub) → m.id ≡ l.id → m.clears ≡ l.clears → IsGivenBy l t → IsGivenBy m t
given_on l m t id clears g = (g.0 ∙ sym id, g.1 ∙ sym clears, g.2)

module _ {F : Type 0} (l m : Account) (id : m.id ≡ l.id) (clears : m.clears ≡ l.clears) where
  -- a ledger that was not cleared gave the same tickets
  pub runs_on : (os : List (Option (Run F))) → AllPollable (λ (run : Run F). IsGivenBy l run.ticket) os → AllPollable (λ (run : Run F). IsGivenBy m run.ticket) os
  runs_on [] h = tt
  runs_on (None ∷ os) h = (tt, runs_on os h.1)
  runs_on (Some run ∷ os) h = (given_on l m run.ticket id clears h.0, runs_on os h.1)

  pub waits_on : (ws : List (Waits F)) → AllByRecursion (λ (w : Waits F). IsGivenBy l w.ticket) ws → AllByRecursion (λ (w : Waits F). IsGivenBy m w.ticket) ws
  waits_on [] h = tt
  waits_on (w ∷ ws) h = (given_on l m w.ticket id clears h.0, waits_on ws h.1)

module _ {F A : Type 0} (gives : F → A → Type 0) where
  -- a notice of a run is of that run
  pub run_notice : (os : List (Option (Run F))) (came : Outcome A) → AnyGives (RunGives gives) os came → IfErr came.1 (IsNotice came.0)
  run_notice [] came h = absurd h
  run_notice (None ∷ os) came (inl own) = elim own [ ]
  run_notice (None ∷ os) came (inr more) = run_notice os came more
  run_notice (Some run ∷ os) came (inr more) = run_notice os came more
  run_notice (Some run ∷ os) (ticket, Ok x) (inl own) = tt
  run_notice (Some run ∷ os) (ticket, Err notice) (inl own) = subst (λ t. IsNotice t notice) (sym own.0) own.1
