-- One group of a list is asked: from what the list's calls leave to what the step says, and on to the groups after it.
use Rattle.futures_buffered_unordered.proofs.Common.{◌≡◌, ◌≢◌, ℕ, suc, ◌+◌, ◌-◌, ◌<◌, Bool, cond, List, [], ◌∷◌, ◌++◌, length, take, drop, set, get_or, Option, Some, None, is_some, true, false, refl, sym, ap, subst, inl, inr, arith, ◌∙◌, All, All-append, get_or-take, get_or-drop, length-append, length-take, take-append-drop, take-set, drop-set-lt, drop_all, drop_more, set_split, length-drop, length-take-le, Context, Poll, Ready, Pending, AsksInTurn, AsksOne, Groups, LeavesBetween, next_place}

pub from_some : {A : Type 0} (o : Option A) → is_some o ≡ true → (x : A) × (o ≡ Some x)
from_some o h = grind arith

pub from_none : {A : Type 0} (o : Option A) → is_some o ≡ false → o ≡ None
from_none o h = grind arith

pub split_at : {X : Type 0} (xs : List X) (k : ℕ) (x : X) → k < length xs → x ≡ get_or xs k x → xs ≡ take k xs ++ x ∷ drop (k + 1) xs
split_at {X} xs k x within is =
    let here : drop k xs ≡ x ∷ drop (k + 1) xs = drop_more xs k x within ∙ ap (λ (y : X). y ∷ drop (k + 1) xs) (sym is) in
    sym (take-append-drop k xs) ∙ ap (λ (ys : List X). take k xs ++ ys) here

pub split_set : {X : Type 0} (xs : List X) (k : ℕ) (y : X) → k < length xs → set xs k y ≡ take k xs ++ y ∷ drop (k + 1) xs
split_set {X} xs k y within =
    let same : suc k ≡ k + 1 = omega arith in
    set_split xs k y within ∙ ap (λ (n : ℕ). take k xs ++ y ∷ drop n xs) same

module _ {X A : Type 0} (asks : X → Poll (Option A) → X → Context → Context → Type 0) (old : Groups X) (cx after : Context) (place : ℕ) (group left : X) where
  at_place : (answer : Poll (Option A)) (new : Groups X) → place ≡ next_place old → place < length old.listed → group ≡ get_or old.listed place group → asks group answer left cx after
      → LeavesBetween (take place old.listed) (drop (place + 1) old.listed) left answer new → AsksOne asks old answer new cx after
  at_place answer new here within is asked leaves =
      record {
        group = group;
        group_left = left;
        stood = subst (λ k. old.listed ≡ take k old.listed ++ group ∷ drop (k + 1) old.listed) here (split_at old.listed place group within is);
        asked = asked;
        leaves = subst (λ k. LeavesBetween (take k old.listed) (drop (k + 1) old.listed) left answer new) here leaves;
      }

  pub one_some : (answer : Poll (Option A)) (o : Option A) → answer ≡ Ready o → is_some o ≡ true → place ≡ next_place old → place < length old.listed → group ≡ get_or old.listed place group → asks group answer left cx after
      → AsksOne asks old answer (record { listed = set old.listed place left; place = place }) cx after
  one_some answer o e f here within is asked =
      at_place answer _ here within is asked (rw (e, (from_some o f).1) (split_set old.listed place left within, sym (length-take-le place old.listed (omega arith))))

  pub one_pending : (answer : Poll (Option A)) → answer ≡ Pending → place ≡ next_place old → place < length old.listed → group ≡ get_or old.listed place group → asks group answer left cx after
      → AsksOne asks old answer (record { listed = set old.listed place left; place = place + 1 }) cx after
  one_pending answer e here within is asked =
      at_place answer _ here within is asked (rw e (split_set old.listed place left within, ap (λ (n : ℕ). n + 1) (sym (length-take-le place old.listed (omega arith)))))

  pub one_last : (answer : Poll (Option A)) (o : Option A) → answer ≡ Ready o → is_some o ≡ false → place ≡ next_place old → place < length old.listed → place + 1 ≡ length old.listed → group ≡ get_or old.listed place group → asks group answer left cx after
      → AsksOne asks old answer (record { listed = set old.listed place left; place = 0 }) cx after
  one_last answer o e f here within last is asked =
      let none : drop (place + 1) old.listed ≡ [] = drop_all (place + 1) old.listed (omega (arith, last)) in
      at_place answer _ here within is asked (rw (e, from_none o f, none) (split_set old.listed place left within ∙ ap (λ (rest : List X). take place old.listed ++ left ∷ rest) none, refl))

  pub one_left : (answer : Poll (Option A)) (o : Option A) (removed : List X) → answer ≡ Ready o → is_some o ≡ false → place ≡ next_place old → place < length old.listed → place + 1 ≢ length old.listed → group ≡ get_or old.listed place group → asks group answer left cx after
      → removed ≡ take place (set old.listed place left) ++ drop (place + 1) (set old.listed place left)
      → AsksOne asks old answer (record { listed = removed; place = place }) cx after
  one_left answer o removed e f here within more is asked without =
      let now : removed ≡ take place old.listed ++ drop (place + 1) old.listed = rw (take-set old.listed place left, drop-set-lt (place + 1) old.listed place left (omega arith)) at without in
      at_place answer _ here within is asked (rw (e, from_none o f) (by_rest (drop (place + 1) old.listed) (omega (arith, length-drop (place + 1) old.listed, within, more)) now))
    where
      by_rest : (rest : List X) → 0 < length rest → removed ≡ take place old.listed ++ rest
          → LeavesBetween {A = A} (take place old.listed) rest left (Ready None) (record { listed = removed; place = place })
      by_rest rest some is = let long = length-take-le place old.listed (omega (arith, within)) in grind arith

-- what holds of each element still does where one was removed
pub All-removed : {X : Type 0} (P : X → Type 0) (xs : List X) (k : ℕ) → All P xs → All P (take k xs ++ drop (k + 1) xs)
All-removed P xs k all = All-append P (take k xs) (drop (k + 1) xs) (λ j d within. rw (get_or-take k xs j d (omega (arith, within, length-take k xs))) (all j d (omega (arith, within, length-take k xs)))) (λ j d within. rw (get_or-drop (k + 1) xs j d) (all (k + 1 + j) d (omega (arith, within, length-drop (k + 1) xs))))

-- a list of groups is not emptied
still_some : {X A : Type 0} (earlier later : List X) (left : X) (answer : Poll (Option A)) (new : Groups X) → LeavesBetween earlier later left answer new → 0 < length new.listed
still_some earlier later left (Ready (Some x)) new h = omega (arith, ap length h.0, length-append earlier (left ∷ later))
still_some earlier later left Pending new h = omega (arith, ap length h.0, length-append earlier (left ∷ later))
still_some earlier [] left (Ready None) new h = omega (arith, ap length h.0, length-append earlier (left ∷ []))
still_some earlier (next ∷ later) left (Ready None) new h = omega (arith, ap length h.0, length-append earlier (next ∷ later))

pub one_still_some : {X A : Type 0} (asks : X → Poll (Option A) → X → Context → Context → Type 0) (old : Groups X) (answer : Poll (Option A)) (new : Groups X) (cx left : Context) → AsksOne asks old answer new cx left → 0 < length new.listed
one_still_some asks old answer new cx left one = still_some (take (next_place old) old.listed) (drop (next_place old + 1) old.listed) one.group_left answer new one.leaves

module _ {X A : Type 0} (asks : Bool → X → Poll (Option A) → X → Context → Context → Type 0) (old : Groups X) (cx : Context) where
  -- after the polls of `count` groups, a poll of the others is a poll of all groups
  abbrev pub GoesOn : ℕ → Bool → Groups X → Context → Type 0
  GoesOn count is_registered now task = (n : ℕ) (answer : Poll (Option A)) (new : Groups X) (left : Context) → count + n ≡ length old.listed → AsksInTurn asks n is_registered now answer new task left → AsksInTurn asks (length old.listed) false old answer new cx left

  pub goes_start : GoesOn 0 false old cx
  goes_start n answer new left all h = let same : n ≡ length old.listed = omega (arith, all) in subst (λ (k : ℕ). AsksInTurn asks k false old answer new cx left) same h

  module _ (count : ℕ) (is_registered : Bool) (now new : Groups X) (mid left : Context) (so : GoesOn count is_registered now mid) where
    pub goes_pending : AsksOne (asks is_registered) now Pending new mid left → GoesOn (count + 1) true new left
    goes_pending one n answer last after all h = so (suc n) answer last after (omega (arith, all)) (inr (inl (new, left, one, h)))

    pub goes_ended : (o : Option A) → is_some o ≡ false → AsksOne (asks is_registered) now (Ready o) new mid left → GoesOn (count + 1) is_registered new left
    goes_ended None e one n answer last after all h = so (suc n) answer last after (omega (arith, all)) (inr (inr (new, left, one, h)))
    goes_ended (Some x) e one n answer last after all h = absurd (cc e)

    pub goes_output : (o : Option A) (x : A) → o ≡ Some x → count < length old.listed → AsksOne (asks is_registered) now (Ready o) new mid left → AsksInTurn asks (length old.listed) false old (Ready (Some x)) new cx left
    goes_output o x is more one =
        so (suc (length old.listed - (count + 1))) (Ready (Some x)) new left (omega (arith, more)) (inl (x, refl, subst (λ (p : Option A). AsksOne (asks is_registered) now (Ready p) new mid left) is one))

  pub goes_end : (count : ℕ) (is_registered : Bool) (now : Groups X) (left : Context) → GoesOn count is_registered now left → count ≡ length old.listed → AsksInTurn asks (length old.listed) false old (cond is_registered Pending (Ready None)) now cx left
  goes_end count is_registered now left so all = so 0 _ now left (omega (arith, all)) (refl, refl, refl)
