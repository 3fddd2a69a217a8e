-- How many futures with a number a bounded set holds, before and after its calls.
use Rattle.futures_buffered_ordered.proofs.Common.{◌≡◌, ℕ, ◌+◌, ◌<◌, ◌≤◌, ◌==◌, Bool, true, false, cond, List, [], ◌∷◌, length, set, count_by, Option, Some, None, MatchOption, is_some, refl, sym, subst, ap, inl, inr, arith, ◌∙◌, FoldsTo, sum_by, get_or_past, sum_by-replicate, sum_by-cons, sum_by-set, cases_lt, Context, Poll, Ready, Pending, Slots, value_in, held_count, no_slots, with_value, with_slot_freed, Inserts, Bounded, Pushes, ReadySourceOf, PollOneOf, PollsBounded, PollsNumbered, has_number, held_with, of_numbered, one_at, outputs_with, Numbered}
use Rattle.futures_buffered_table.specs.declared.answer.Woke.{Woke}
use Rattle.futures_buffered_unordered.specs.Held.{Passes, Yields}
use Rattle.futures_buffered_unordered.proofs.HeldLemmas.{value_in-with_value}

module _ {F : Type 0} (i : ℕ) where
  -- 1 where a slot holds a future with number i
  abbrev pub in_slot : Option (Numbered F) → ℕ
  in_slot o = cond (has_number i o) 1 0

  -- how many slots do
  abbrev pub in_slots : Slots (Numbered F) → ℕ
  in_slots m = count_by (has_number i) m.places

  within : (m : Slots (Numbered F)) (s : ℕ) (f : Numbered F) → value_in m s ≡ Some f → s < length m.places
  within m s f e = elim (cases_lt s (length m.places)) [
    | inl below ↦ below
    | inr past ↦ absurd (nothing (sym (get_or_past m.places s None past) ∙ e))
  ]
    where
      nothing : None ≡ Some f → ⊥
      nothing e = cc

  after_set : (m : Slots (Numbered F)) (s : ℕ) (f : Numbered F) (o : Option (Numbered F)) → value_in m s ≡ Some f → sum_by in_slot (set m.places s o) + one_at i f.number ≡ sum_by in_slot m.places + in_slot o
  after_set m s f o e = subst (λ (p : Option (Numbered F)). sum_by in_slot (set m.places s o) + in_slot p ≡ sum_by in_slot m.places + in_slot o) e (sum_by-set in_slot m.places s o None (within m s f e))

  -- another future with the same number
  count-with : (m : Slots (Numbered F)) (s : ℕ) (f g : Numbered F) → value_in m s ≡ Some f → g.number ≡ f.number → in_slots (with_value m s g) ≡ in_slots m
  count-with m s f g e same =
      let step = after_set m s f (Some g) e in
      let one : one_at i g.number ≡ one_at i f.number = ap (one_at i) same in
      omega (arith, step, one)

  count-freed : (m : Slots (Numbered F)) (s : ℕ) (f : Numbered F) → value_in m s ≡ Some f → in_slots (with_slot_freed m s) + one_at i f.number ≡ in_slots m
  count-freed m s f e = let step = after_set m s f None e in omega (arith, step)

  -- no more than there are futures
  few : (places : List (Option (Numbered F))) → count_by (has_number i) places ≤ count_by is_some places
  few [] = omega arith
  few (o ∷ places) = omega (arith, few places, sum_by-cons in_slot o places, sum_by-cons (λ (p : Option (Numbered F)). cond (is_some p) 1 0) o places, one o)
    where
      at_most : (b : Bool) → cond b 1 0 ≤ 1
      at_most true = omega arith
      at_most false = omega arith

      one : (p : Option (Numbered F)) → in_slot p ≤ cond (is_some p) 1 0
      one None = omega arith
      one (Some g) = at_most (g.number == i)

  pub none_held : (m : Slots (Numbered F)) → held_count m ≡ 0 → in_slots m ≡ 0
  none_held m none = omega (arith, none, few m.places)

  -- a push adds one
  count-inserted : (old new : Slots (Numbered F)) (s : ℕ) (value : Numbered F) → Inserts old s value new → in_slots new ≡ in_slots old + one_at i value.number
  count-inserted old new s value h =
      let step : sum_by in_slot (set old.places s (Some value)) + 0 ≡ sum_by in_slot old.places + one_at i value.number = subst (λ (p : Option (Numbered F)). sum_by in_slot (set old.places s (Some value)) + in_slot p ≡ sum_by in_slot old.places + in_slot (Some value)) h.was_empty (sum_by-set in_slot old.places s (Some value) None h.within) in
      ap (λ (l : List (Option (Numbered F))). sum_by in_slot l) h.now_held ∙ omega (arith, step)

module _ {F A : Type 0} (i : ℕ) (polled : ℕ → F → Poll A → F → Type 0) where
  count-passed : (m new : Slots (Numbered F)) (s : ℕ) → Passes (PollsNumbered polled) m s new → in_slots i new ≡ in_slots i m
  count-passed m new s = by_value (value_in m s) refl
    where
      by_value : (o : Option (Numbered F)) → value_in m s ≡ o → MatchOption o (new ≡ m) (λ f. (left : Numbered F) × PollsNumbered polled s f Pending left × (new ≡ with_value m s left)) → in_slots i new ≡ in_slots i m
      by_value None e h = ap (λ (w : Slots (Numbered F)). in_slots i w) h
      by_value (Some f) e h = ap (λ (w : Slots (Numbered F)). in_slots i w) h.2 ∙ count-with i m s f h.0 e h.1.1

  pub count-names : (names : List ℕ) (m left : Slots (Numbered F)) → FoldsTo (Passes (PollsNumbered polled)) m names left → in_slots i left ≡ in_slots i m
  count-names [] m left passes = ap (λ (w : Slots (Numbered F)). in_slots i w) (sym passes)
  count-names (s ∷ names) m left passes = count-names names passes.0 left passes.2 ∙ count-passed m passes.0 s passes.1

  -- an output takes its number with it
  count-yielded : (m new : Slots (Numbered F)) (s : ℕ) (out : ℕ × A) → Yields (PollsNumbered polled) m s out new → in_slots i (with_slot_freed new s) + one_at i out.0 ≡ in_slots i m
  count-yielded m new s (j, x) h =
      let m' = with_value m s h.left in
      let here : value_in m' s ≡ Some h.left = put_there in
      let freed : in_slots i (with_slot_freed m' s) + one_at i h.left.number ≡ in_slots i m' = count-freed i m' s h.left here in
      let same : in_slots i m' ≡ in_slots i m = count-with i m s h.value h.left h.held h.gave.1 in
      let number : one_at i j ≡ one_at i h.left.number = ap (one_at i) (h.gave.2 ∙ sym h.gave.1) in
      let is : in_slots i (with_slot_freed new s) ≡ in_slots i (with_slot_freed m' s) = ap (λ (w : Slots (Numbered F)). in_slots i (with_slot_freed w s)) h.now_holds in
      omega (arith, freed, same, number, is)
    where
      put_there : value_in (with_value m s h.left) s ≡ Some h.left
      put_there = value_in-with_value m s h.value h.left (sym h.held)

module _ {R F W A S : Type 0} (i : ℕ) (rule : PollOneOf R F W A) (source : ReadySourceOf S W) (group left : Bounded (Numbered F) S) where
  -- a poll takes no number away but that of its output
  pub numbers_polled : (answer : Poll (Option (ℕ × A))) (cx after : Context) → PollsBounded (of_numbered rule) source group answer left cx after → held_with i left + outputs_with i answer ≡ held_with i group
  numbers_polled (Ready None) cx after it = omega (arith, ap (λ (b : Bounded (Numbered F) S). held_with i b) it.gave.1)
  numbers_polled (Ready (Some out)) cx after it =
      let (slot, before, asks, emptied) = it.gave.1 in
      let takes = asks.takes in
      let is : held_with i left ≡ in_slots i (with_slot_freed before.slots slot) = ap (λ (b : Bounded (Numbered F) S). held_with i b) emptied in
      let yielded : in_slots i (with_slot_freed before.slots slot) + one_at i out.0 ≡ in_slots i takes.passed = count-yielded i rule.polled takes.passed before.slots slot out takes.ends.2 in
      let passed : in_slots i takes.passed ≡ held_with i group = count-names i rule.polled takes.names group.slots takes.passed takes.passes in
      omega (arith, is, yielded, passed)
  numbers_polled Pending cx after it =
      let takes = it.gave.1.takes in
      let is : held_with i left ≡ in_slots i takes.passed = ap (λ (m : Slots (Numbered F)). in_slots i m) takes.ends.0 in
      let passed : in_slots i takes.passed ≡ held_with i group = count-names i rule.polled takes.names group.slots takes.passed takes.passes in
      omega (arith, is, passed)

  pub numbers_ended : (cx after : Context) → PollsBounded (of_numbered rule) source group (Ready None) left cx after → held_with i left ≡ 0
  numbers_ended cx after it = ap (λ (b : Bounded (Numbered F) S). held_with i b) it.gave.1 ∙ none_held i group.slots it.gave.0

module _ {F S : Type 0} (i : ℕ) where
  -- a push brings one
  pub numbers_inserted : (marks : S → ℕ → Woke → S → Type 0) (old new : Bounded (Numbered F) S) (value : Numbered F) → Pushes marks old value new → held_with i new ≡ held_with i old + one_at i value.number
  numbers_inserted marks old new value h = count-inserted i old.slots new.slots h.0 value h.1.inserted

  -- free slots hold none
  pub numbers_none : (set : Bounded (Numbered F) S) (cap : ℕ) → set.slots ≡ no_slots cap → held_with i set ≡ 0
  numbers_none set cap empty = ap (λ (m : Slots (Numbered F)). in_slots i m) empty ∙ (sum_by-replicate (in_slot i) cap None ∙ omega arith)
