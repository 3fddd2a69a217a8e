-- What the values in slots may still give, once some were polled.
use Rattle.futures_buffered_unordered.proofs.Common.{◌≡◌, ◌≢◌, ℕ, ◌+◌, List, [], ◌∷◌, Option, Some, None, MatchOption, refl, sym, subst, inl, inr, arith, ◌∙◌, set, length-set, FoldsTo, get_or-set_same, get_or-set_other, get_or_past, cases_eq, Poll, Pending, After, Within, Slots, value_in, with_value, with_slot_freed, Passes, Yields, MayGive, AnyMayGive}
use Rattle.futures.proofs.SentLemmas.{AllByRecursion_weaker}
use Rattle.futures.specs.Queued.{Gathers}
use Rattle.futures_buffered_unordered.proofs.HeldLemmas.{value_in-with_value}

module _ {A : Type 0} {P Q : A → Type 0} (weaker : (x : A) → Q x → P x) where
  pub Gathers-Within : (m n : ℕ) → n ≡ m → Within (Gathers P m) (Gathers Q n)
  Gathers-Within m n same xs None h = record { each = AllByRecursion_weaker Q P xs weaker h.each; ends = h.ends ∙ same }
  Gathers-Within m n same xs (Some x) h = record { each = AllByRecursion_weaker Q P xs weaker h.each; ends = (weaker x h.ends.0, let k = h.ends.1 in omega (arith, k, same)) }

  pub Gathers-After : (m n : ℕ) (x : A) → n + 1 ≡ m → P x → After (Gathers P m) x (Gathers Q n)
  Gathers-After m n x fewer p xs None h = record { each = (p, AllByRecursion_weaker Q P xs weaker h.each); ends = let k = h.ends in omega arith }
  Gathers-After m n x fewer p xs (Some y) h =
      record { each = (p, AllByRecursion_weaker Q P xs weaker h.each); ends = (weaker y h.ends.0, let k = h.ends.1 in omega arith) }

pub value_in-with_slot_freed : {F : Type 0} (m : Slots F) (i : ℕ) → value_in (with_slot_freed m i) i ≡ None
value_in-with_slot_freed {F} m i =
    let within = get_or-set_same {A = Option F} m.places i None None in
    let past = get_or_past {X = Option F} (set m.places i None) i None in
    let long = length-set {A = Option F} m.places i None in
    grind arith

pub value_in-with_slot_freed_other : {F : Type 0} (m : Slots F) (i j : ℕ) → j ≢ i → value_in (with_slot_freed m i) j ≡ value_in m j
value_in-with_slot_freed_other {F} m i j other = get_or-set_other {A = Option F} m.places i j None None other

pub None-Some : {F : Type 0} {f : F} → None ≡ Some f → ⊥
None-Some e = cc

module _ {F A : Type 0} (polled : ℕ → F → Poll A → F → Type 0) where
  -- a pending poll adds nothing to what may be given
  pub any-pending : (m : Slots F) (i : ℕ) (f f2 : F) (y : A) → value_in m i ≡ Some f → polled i f Pending f2 → AnyMayGive polled (with_value m i f2) y → AnyMayGive polled m y
  any-pending m i f f2 y e h any =
      elim (cases_eq any.0 i) [
        | inl same ↦ (i, f, e, from_next (Some-same (sym any.2 ∙ rw same (value_in-with_value m i f f2 (sym e)))) (rw same at any.3))
        | inr other ↦ (any.0, any.1, sym (get_or-set_other m.places i any.0 (Some f2) None other) ∙ any.2, any.3)
      ]
    where
      Some-same : {g k : F} → Some g ≡ Some k → g ≡ k
      Some-same eq = cc

      from_next : {g : F} → g ≡ f2 → MayGive (polled i) g y → MayGive (polled i) f y
      from_next {g} eq may = (g ∷ may.0, may.1, may.2, (g, (subst (λ k. polled i f Pending k) (sym eq) h, refl), may.3), may.4)

  -- nor does a name that is passed
  any-passed : (m new : Slots F) (i : ℕ) (y : A) → Passes polled m i new → AnyMayGive polled new y → AnyMayGive polled m y
  any-passed m new i y = by_value (value_in m i) refl
    where
      by_value : (o : Option F) → value_in m i ≡ o → MatchOption o (new ≡ m) (λ f. (left : F) × polled i f Pending left × (new ≡ with_value m i left)) → AnyMayGive polled new y → AnyMayGive polled m y
      by_value None e h any = subst (λ w. AnyMayGive polled w y) h any
      by_value (Some f) e h any = any-pending m i f h.0 y e h.1 (subst (λ w. AnyMayGive polled w y) h.2 any)

  pub gives_passed : (names : List ℕ) (m left : Slots F) (y : A) → FoldsTo (Passes polled) m names left → AnyMayGive polled left y → AnyMayGive polled m y
  gives_passed [] m left y passes any = subst (λ w. AnyMayGive polled w y) (sym passes) any
  gives_passed (i ∷ names) m left y passes any = any-passed m passes.0 i y passes.1 (gives_passed names passes.0 left y passes.2 any)

  -- an output was one that might be given
  pub gives_output : (m new : Slots F) (i : ℕ) (x : A) → Yields polled m i x new → AnyMayGive polled m x
  gives_output m new i x h = (i, h.value, h.held, ([], h.value, h.left, refl, h.gave))

  -- and so is what the others may give once its slot is empty
  pub gives_others : (m new : Slots F) (i : ℕ) (x y : A) → Yields polled m i x new → AnyMayGive polled (with_slot_freed new i) y → AnyMayGive polled m y
  gives_others m new i x y h any =
      let freed = subst (λ w. AnyMayGive polled (with_slot_freed w i) y) h.now_holds any in
      elim (cases_eq freed.0 i) [
        | inl same ↦ absurd (None-Some (sym (value_in-with_slot_freed (with_value m i h.left) i) ∙ rw same at freed.2))
        | inr other ↦ (freed.0, freed.1, sym (get_or-set_other m.places i freed.0 (Some h.left) None other) ∙ (sym (value_in-with_slot_freed_other (with_value m i h.left) i freed.0 other) ∙ freed.2), freed.3)
      ]
