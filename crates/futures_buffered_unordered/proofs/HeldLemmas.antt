-- What holds of the values in slots, once one was put in, polled or taken out.
use Rattle.futures_buffered_unordered.proofs.Common.{◌≡◌, ◌≢◌, ℕ, zero, suc, ◌<◌, List, length, set, get_or, Option, Some, None, IfSome, IsSome, is_some, cond, refl, ap, arith, length-set, ◌∙◌, get_or-set_same, get_or-set_other, get_or_past, sum_by-set, Poll, Pending, Slots, Inserts, value_in, held_count, no_slots, with_value, AllHeld, EndsWith, Passes}

pub passes_pending : {F A : Type 0} (polled : ℕ → F → Poll A → F → Type 0) (m : Slots F) (i : ℕ) (f left : F) → value_in m i ≡ Some f → polled i f Pending left → Passes polled m i (with_value m i left)
passes_pending polled m i f left e h = rw e (left, h, refl)

-- no value is held where all slots are free
pub AllHeld-none : {F : Type 0} (P : F → Type 0) (n : ℕ) → AllHeld P (no_slots n)
AllHeld-none P zero i = tt
AllHeld-none P (suc n) zero = tt
AllHeld-none P (suc n) (suc i) = AllHeld-none P n i

-- a value that may be polled in place of another
pub AllHeld-with : {F : Type 0} (P : F → Type 0) (m : Slots F) (i : ℕ) (f : F) → AllHeld P m → P f → AllHeld P (with_value m i f)
AllHeld-with {F} P m i f all here q =
    let at_place = get_or-set_same m.places i (Some f) None in
    let past = get_or_past (set m.places i (Some f)) q None in
    let elsewhere = get_or-set_other m.places i q (Some f) None in
    let long = length-set m.places i (Some f) in
    let before = all q in
    grind arith

-- each value but that one may still be polled
pub others-with : {F : Type 0} (P : F → Type 0) (m : Slots F) (i : ℕ) (f : F) → AllHeld P m → (j : ℕ) → j ≢ i → IfSome (value_in (with_value m i f) j) P
others-with P m i f all j other = rw (get_or-set_other m.places i j (Some f) None other) (all j)

-- what holds of each value, and of the one that was put in, holds of each value after
pub AllHeld-push : {F : Type 0} (P : F → Type 0) (old : Slots F) (i : ℕ) (value : F) (new : Slots F) → Inserts old i value new → AllHeld P old → P value → AllHeld P new
AllHeld-push {F} P old i value new inserts all here q = rw inserts.now_held (AllHeld-with P old i value all here q)

-- a slot that holds a value is one of the slots
pub held_within : {F : Type 0} (m : Slots F) (i : ℕ) (f : F) → Some f ≡ value_in m i → i < length m.places
held_within m i f found = let past = get_or_past m.places i None in grind arith

-- a slot that held a value holds the one put there
pub value_in-with_value : {F : Type 0} (m : Slots F) (i : ℕ) (f g : F) → Some f ≡ value_in m i → value_in (with_value m i g) i ≡ Some g
value_in-with_value {F} m i f g found = get_or-set_same m.places i (Some g) None (held_within m i f found)

pub some_from_end : {F A : Type 0} (polled : F → Poll A → F → Type 0) (x : A) (o : Option F) → EndsWith polled x o → IsSome o
some_from_end polled x o h = grind arith

-- as many values as before
pub count-with : {F : Type 0} (m : Slots F) (i : ℕ) (f g : F) → Some f ≡ value_in m i → held_count (with_value m i g) ≡ held_count m
count-with {F} m i f g found =
    omega (arith, rw (← found) at (sum_by-set (λ (o : Option F). cond (is_some o) 1 0) m.places i (Some g) None (held_within m i f found)))

-- a slot that held a value, or none, still does
pub same-with : {F : Type 0} (m : Slots F) (i j : ℕ) (f g : F) → Some f ≡ value_in m i → is_some (value_in (with_value m i g) j) ≡ is_some (value_in m j)
same-with {F} m i j f g found = grind (arith, value_in-with_value, get_or-set_other)

-- what the slots hold once a value was put in
module _ {F : Type 0} (old new : Slots F) (i : ℕ) (value : F) (h : Inserts old i value new) where
  pub value_inserted : value_in new i ≡ Some value
  value_inserted = ap (λ (l : List (Option F)). get_or l i None) h.now_held ∙ get_or-set_same old.places i (Some value) None h.within

  pub value_inserted_other : (j : ℕ) → j ≢ i → value_in new j ≡ value_in old j
  value_inserted_other j other = ap (λ (l : List (Option F)). get_or l j None) h.now_held ∙ get_or-set_other old.places i j (Some value) None other

  -- a slot that held a value is another
  pub apart : (j : ℕ) (f : F) → value_in old j ≡ Some f → j ≢ i
  apart j f some e = let none : value_in old j ≡ None = rw e h.was_empty in cc
