-- Groups in a list, of which one after another is polled.
use Rattle.futures_buffered_unordered.proofs.Common.{◌≡◌, ◌⊎◌, ℕ, zero, suc, ◌+◌, ◌<◌, ◌≤◌, Bool, true, false, List, [], ◌∷◌, ◌++◌, length, take, drop, Option, Some, None, refl, sym, ap, subst, inl, inr, arith, append-nil, ◌∙◌, ⊤, sum_by, append_assoc, length-append, length-drop, length-take, length_push, take_at, drop_at, take-append-drop, sum_by-cons, sum_by-append, nat_tests, Context, Poll, Ready, Pending, AnyOf, AsksEach, AsksEachOnce, AsksInTurn, AsksOne, Groups, LeavesBetween, in_turn, next_place}

-- lists that are put together alike, with first parts of one length, have the same parts
pub same_parts : {X : Type 0} (ps qs rs ts : List X) → length ps ≡ length qs → ps ++ rs ≡ qs ++ ts → (ps ≡ qs) × (rs ≡ ts)
same_parts {X} ps qs rs ts same e = (
  sym (take_at ps rs (length qs) same) ∙ ap (take (length qs)) e ∙ take_at qs ts (length qs) refl,
  sym (drop_at ps rs (length qs) same) ∙ ap (drop (length qs)) e ∙ drop_at qs ts (length qs) refl,
)

any_map : {X : Type 0} (P : X → Type 0) (xs ys zs : List X) → (AnyOf P ys → AnyOf P zs) → AnyOf P (xs ++ ys) → AnyOf P (xs ++ zs)
any_map P [] ys zs f any = f any
any_map P (x ∷ xs) ys zs f (inl here) = inl here
any_map P (x ∷ xs) ys zs f (inr any) = inr (any_map P xs ys zs f any)

any_between : {X : Type 0} (P : X → Type 0) (xs : List X) (x : X) (ys : List X) → P x → AnyOf P (xs ++ x ∷ ys)
any_between P [] x ys here = inl here
any_between P (y ∷ xs) x ys here = inr (any_between P xs x ys here)

-- the place is that of a group, or the first
next_at : {X : Type 0} (g : Groups X) (k : ℕ) → g.place ≡ k → k < length g.listed → next_place g ≡ k
next_at g k e within = grind (arith, nat_tests)

next_zero : {X : Type 0} (g : Groups X) → (length g.listed ≤ g.place) ⊎ (g.place ≡ 0) → next_place g ≡ 0
next_zero g where_at = grind (arith, nat_tests)

module _ {X : Type 0} where
  -- the groups after the one that is polled next
  abbrev pub others : Groups X → List X
  others g = drop (next_place g + 1) g.listed ++ take (next_place g) g.listed

  turn_length : (g : Groups X) → length (in_turn g) ≡ length g.listed
  turn_length g =
      let p = next_place g in
      omega (arith, length-append (drop p g.listed) (take p g.listed), length-append (take p g.listed) (drop p g.listed), ap length (take-append-drop p g.listed))

  round_at : (g : Groups X) (earlier rest : List X) → g.listed ≡ earlier ++ rest → next_place g ≡ length earlier → in_turn g ≡ rest ++ earlier
  round_at g earlier rest is at =
      ap (λ (k : ℕ). drop k g.listed ++ take k g.listed) at
      ∙ ap (λ (l : List X). drop (length earlier) l ++ take (length earlier) l) is
      ∙ ap (λ (l : List X). l ++ take (length earlier) (earlier ++ rest)) (drop_at earlier rest (length earlier) refl)
      ∙ ap (λ (l : List X). rest ++ l) (take_at earlier rest (length earlier) refl)

  round_within : (g : Groups X) (earlier : List X) (x : X) (rest : List X) → g.listed ≡ earlier ++ x ∷ rest → g.place ≡ length earlier → in_turn g ≡ x ∷ rest ++ earlier
  round_within g earlier x rest is at =
      let long = length-append earlier (x ∷ rest) in
      round_at g earlier (x ∷ rest) is (next_at g (length earlier) at (omega (arith, long, ap length is)))

-- what a poll of the first group makes of the groups in turn
abbrev pub Turned : {X A : Type 0} → X → List X → Poll (Option A) → List X → Type 0
Turned left rest (Ready (Some x)) after = after ≡ left ∷ rest
Turned left rest Pending after = after ≡ rest ++ left ∷ []
Turned left rest (Ready None) after = (after ≡ rest) ⊎ (after ≡ rest ++ left ∷ [])

module _ {X A : Type 0} where
  turned : (earlier later : List X) (left : X) (answer : Poll (Option A)) (new : Groups X) → LeavesBetween earlier later left answer new → Turned left (later ++ earlier) answer (in_turn new)
  turned earlier later left (Ready (Some x)) new h = round_within new earlier left later h.0 h.1
  turned earlier [] left Pending new h =
      let long = length_push earlier left in
      round_at new [] (earlier ++ left ∷ []) h.0 (next_zero new (inl (omega (arith, long, ap length h.0, h.1)))) ∙ append-nil (earlier ++ left ∷ [])
  turned earlier (next ∷ later) left Pending new h =
      let is : new.listed ≡ (earlier ++ left ∷ []) ++ next ∷ later = h.0 ∙ sym (append_assoc earlier (left ∷ []) (next ∷ later)) in
      round_within new (earlier ++ left ∷ []) next later is (h.1 ∙ sym (length_push earlier left)) ∙ sym (append_assoc (next ∷ later) earlier (left ∷ []))
  turned earlier [] left (Ready None) new h = inr (round_at new [] (earlier ++ left ∷ []) h.0 (next_zero new (inr h.1)) ∙ append-nil (earlier ++ left ∷ []))
  turned earlier (next ∷ later) left (Ready None) new h = inl (round_within new earlier next later h.0 h.1)

  module _ (asks : X → Poll (Option A) → X → Context → Context → Type 0) (old : Groups X) (answer : Poll (Option A)) (new : Groups X) (cx left : Context) (one : AsksOne asks old answer new cx left) where
    pub first_of_round : in_turn old ≡ one.group ∷ others old
    first_of_round =
        let p = next_place old in
        let long = length-append (take p old.listed) (one.group ∷ drop (p + 1) old.listed) in
        round_at old (take p old.listed) (one.group ∷ drop (p + 1) old.listed) one.stood (omega (arith, long, ap length one.stood, length-take p old.listed, length-drop (p + 1) old.listed))

    pub round_turned : Turned one.group_left (others old) answer (in_turn new)
    round_turned = turned (take (next_place old) old.listed) (drop (next_place old + 1) old.listed) one.group_left answer new one.leaves

-- each group of a poll is the next in turn, and was not polled before
module _ {X A : Type 0} (asks : Bool → X → Poll (Option A) → X → Context → Context → Type 0) where
  turns_each : (n : ℕ) (b : Bool) (old : Groups X) (answer : Poll (Option A)) (new : Groups X) (cx left : Context) → AsksInTurn asks n b old answer new cx left → (todo done : List X) → in_turn old ≡ todo ++ done → length todo ≡ n → AsksEach asks todo b answer cx left
  turns_each zero b old answer new cx left (e, same, stays) [] done is long = (e, stays)
  turns_each zero b old answer new cx left h (t ∷ todo) done is long = absurd (omega (arith, long))
  turns_each (suc n) b old answer new cx left h [] done is long = absurd (omega (arith, long))
  turns_each (suc n) b old answer new cx left (inl (x, e, one)) (t ∷ todo) done is long =
      let first : one.group ≡ t = let head = first_of_round (asks b) old answer new cx left one in cc in
      (one.group_left, inl (x, e, subst (λ (g : X). asks b g answer one.group_left cx left) first one.asked))
  turns_each (suc n) b old answer new cx left (inr (inl (now, task, one, more))) (t ∷ todo) done is long =
      let head = first_of_round (asks b) old Pending now cx task one in
      let first : one.group ≡ t = cc in
      let rest : others old ≡ todo ++ done = cc in
      let turn = round_turned (asks b) old Pending now cx task one ∙ ap (λ (l : List X). l ++ one.group_left ∷ []) rest ∙ append_assoc todo done (one.group_left ∷ []) in
      (one.group_left, inr (inl (task, subst (λ (g : X). asks b g Pending one.group_left cx task) first one.asked, turns_each n true now answer new task left more todo (done ++ one.group_left ∷ []) turn (omega (arith, long)))))
  turns_each (suc n) b old answer new cx left (inr (inr (now, task, one, more))) (t ∷ todo) done is long =
      let head = first_of_round (asks b) old (Ready None) now cx task one in
      let first : one.group ≡ t = cc in
      let rest : others old ≡ todo ++ done = cc in
      let later : AsksEach asks todo b answer task left = elim (round_turned (asks b) old (Ready None) now cx task one) [
        | inl leaves ↦ turns_each n b now answer new task left more todo done (leaves ∙ rest) (omega (arith, long))
        | inr stays ↦ turns_each n b now answer new task left more todo (done ++ one.group_left ∷ []) (stays ∙ ap (λ (l : List X). l ++ one.group_left ∷ []) rest ∙ append_assoc todo done (one.group_left ∷ [])) (omega (arith, long))
      ] in
      (one.group_left, inr (inr (task, subst (λ (g : X). asks b g (Ready None) one.group_left cx task) first one.asked, later)))

  pub asks_each_once : AsksEachOnce asks
  asks_each_once old answer new cx left h = turns_each (length old.listed) false old answer new cx left h (in_turn old) [] (sym (append-nil (in_turn old))) (turn_length old)

-- What all groups weigh. The result of a group takes from the weight of that group.
module _ {X A : Type 0} (asks : Bool → X → Poll (Option A) → X → Context → Context → Type 0) (weight : X → ℕ) (out : Poll (Option A) → ℕ)
    (step : (b : Bool) (group left : X) (answer : Poll (Option A)) (cx after : Context) → asks b group answer left cx after → weight left + out answer ≡ weight group)
    (ended_none : (b : Bool) (group left : X) (cx after : Context) → asks b group (Ready None) left cx after → weight left ≡ 0)
    (pending_out : out Pending ≡ 0) (ended_out : out (Ready None) ≡ 0) where
  between_sum : (earlier later : List X) (group left : X) (answer : Poll (Option A)) (new : Groups X) → LeavesBetween earlier later left answer new → (answer ≡ Ready None → weight left ≡ 0) → sum_by weight new.listed + weight group ≡ sum_by weight (earlier ++ group ∷ later) + weight left
  between_sum earlier later group left answer new leaves none = by_answer later answer leaves none
    where
      kept : (later : List X) → new.listed ≡ earlier ++ left ∷ later → sum_by weight new.listed + weight group ≡ sum_by weight (earlier ++ group ∷ later) + weight left
      kept later is =
          omega (arith, ap (λ (l : List X). sum_by weight l) is, sum_by-append weight earlier (left ∷ later), sum_by-cons weight left later, sum_by-append weight earlier (group ∷ later), sum_by-cons weight group later)

      by_answer : (later : List X) (answer : Poll (Option A)) → LeavesBetween earlier later left answer new → (answer ≡ Ready None → weight left ≡ 0) → sum_by weight new.listed + weight group ≡ sum_by weight (earlier ++ group ∷ later) + weight left
      by_answer later (Ready (Some x)) h none = kept later h.0
      by_answer later Pending h none = kept later h.0
      by_answer [] (Ready None) h none = kept [] h.0
      by_answer (next ∷ later) (Ready None) h none =
          omega (arith, none refl, ap (λ (l : List X). sum_by weight l) h.0, sum_by-append weight earlier (next ∷ later), sum_by-append weight earlier (group ∷ next ∷ later), sum_by-cons weight group (next ∷ later))

  one_sum : (b : Bool) (old : Groups X) (answer : Poll (Option A)) (new : Groups X) (cx left : Context) → AsksOne (asks b) old answer new cx left → sum_by weight new.listed + out answer ≡ sum_by weight old.listed
  one_sum b old answer new cx left one =
      let p = next_place old in
      let none = λ (e : answer ≡ Ready None). ended_none b one.group one.group_left cx left (subst (λ (a : Poll (Option A)). asks b one.group a one.group_left cx left) e one.asked) in
      let between = between_sum (take p old.listed) (drop (p + 1) old.listed) one.group one.group_left answer new one.leaves none in
      omega (arith, between, ap (λ (l : List X). sum_by weight l) one.stood, step b one.group one.group_left answer cx left one.asked)

  pub turns_sum : (n : ℕ) (b : Bool) (old : Groups X) (answer : Poll (Option A)) (new : Groups X) (cx left : Context) → AsksInTurn asks n b old answer new cx left → sum_by weight new.listed + out answer ≡ sum_by weight old.listed
  turns_sum zero true old answer new cx left (e, same, stays) = omega (arith, ap out e, pending_out, ap (λ (g : Groups X). sum_by weight g.listed) same)
  turns_sum zero false old answer new cx left (e, same, stays) = omega (arith, ap out e, ended_out, ap (λ (g : Groups X). sum_by weight g.listed) same)
  turns_sum (suc n) b old answer new cx left (inl (x, e, one)) = one_sum b old answer new cx left one
  turns_sum (suc n) b old answer new cx left (inr (inl (now, task, one, more))) = omega (arith, one_sum b old Pending now cx task one, turns_sum n true now answer new task left more, pending_out)
  turns_sum (suc n) b old answer new cx left (inr (inr (now, task, one, more))) = omega (arith, one_sum b old (Ready None) now cx task one, turns_sum n b now answer new task left more, ended_out)

-- what holds of a group after a poll held of one before
module _ {X A : Type 0} (asks : Bool → X → Poll (Option A) → X → Context → Context → Type 0) (P : X → Type 0)
    (before : (b : Bool) (group left : X) (answer : Poll (Option A)) (cx after : Context) → asks b group answer left cx after → P left → P group) where
  between_any : (earlier later : List X) (group left : X) (answer : Poll (Option A)) (new : Groups X) → (P left → P group) → LeavesBetween earlier later left answer new → AnyOf P new.listed → AnyOf P (earlier ++ group ∷ later)
  between_any earlier later group left answer new was leaves any = by_answer later answer leaves
    where
      kept : (later : List X) → new.listed ≡ earlier ++ left ∷ later → AnyOf P (earlier ++ group ∷ later)
      kept later is =
          any_map P earlier (left ∷ later) (group ∷ later)
          (λ some. elim some [
            | inl here ↦ inl (was here)
            | inr more ↦ inr more
          ])
          (subst (AnyOf P) is any)

      by_answer : (later : List X) (answer : Poll (Option A)) → LeavesBetween earlier later left answer new → AnyOf P (earlier ++ group ∷ later)
      by_answer later (Ready (Some x)) h = kept later h.0
      by_answer later Pending h = kept later h.0
      by_answer [] (Ready None) h = kept [] h.0
      by_answer (next ∷ later) (Ready None) h = any_map P earlier (next ∷ later) (group ∷ next ∷ later) inr (subst (AnyOf P) h.0 any)

  one_any : (b : Bool) (old : Groups X) (answer : Poll (Option A)) (new : Groups X) (cx left : Context) → AsksOne (asks b) old answer new cx left → AnyOf P new.listed → AnyOf P old.listed
  one_any b old answer new cx left one any =
      let was = before b one.group one.group_left answer cx left one.asked in
      subst (AnyOf P) (sym one.stood) (between_any (take (next_place old) old.listed) (drop (next_place old + 1) old.listed) one.group one.group_left answer new was one.leaves any)

  pub turns_any : (n : ℕ) (b : Bool) (old : Groups X) (answer : Poll (Option A)) (new : Groups X) (cx left : Context) → AsksInTurn asks n b old answer new cx left → AnyOf P new.listed → AnyOf P old.listed
  turns_any zero b old answer new cx left (e, same, stays) any = subst (λ (g : Groups X). AnyOf P g.listed) same any
  turns_any (suc n) b old answer new cx left (inl (x, e, one)) any = one_any b old answer new cx left one any
  turns_any (suc n) b old answer new cx left (inr (inl (now, task, one, more))) any = one_any b old Pending now cx task one (turns_any n true now answer new task left more any)
  turns_any (suc n) b old answer new cx left (inr (inr (now, task, one, more))) any = one_any b old (Ready None) now cx task one (turns_any n b now answer new task left more any)

  -- an output is that of one of the groups
  pub turns_output : (x : A) → ((b : Bool) (group left : X) (cx after : Context) → asks b group (Ready (Some x)) left cx after → P group) → (n : ℕ) (b : Bool) (old new : Groups X) (cx left : Context) → AsksInTurn asks n b old (Ready (Some x)) new cx left → AnyOf P old.listed
  turns_output x gives zero true old new cx left (e, same, stays) = absurd (cc e)
  turns_output x gives zero false old new cx left (e, same, stays) = absurd (cc e)
  turns_output x gives (suc n) b old new cx left (inl (y, e, one)) = subst (AnyOf P) (sym one.stood) (any_between P (take (next_place old) old.listed) one.group (drop (next_place old + 1) old.listed) (gives b one.group one.group_left cx left one.asked))
  turns_output x gives (suc n) b old new cx left (inr (inl (now, task, one, more))) = one_any b old Pending now cx task one (turns_output x gives n true now new task left more)
  turns_output x gives (suc n) b old new cx left (inr (inr (now, task, one, more))) = one_any b old (Ready None) now cx task one (turns_output x gives n b now new task left more)

-- What all groups weigh after a poll without an output: something if one is pending, and nothing otherwise.
module _ {X A : Type 0} (asks : Bool → X → Poll (Option A) → X → Context → Context → Type 0) (weight : X → ℕ)
    (end_is_empty : (b : Bool) (group left : X) (cx after : Context) → asks b group (Ready None) left cx after → weight left ≡ 0)
    (pending_holds : (b : Bool) (group left : X) (cx after : Context) → asks b group Pending left cx after → 0 < weight left) where
  -- what the groups weigh that were polled so far
  abbrev Polled : Bool → ℕ → Type 0
  Polled true total = 0 < total
  Polled false total = total ≡ 0

  abbrev pub Weighs : Poll (Option A) → ℕ → Type 0
  Weighs (Ready (Some x)) total = ⊤
  Weighs (Ready None) total = total ≡ 0
  Weighs Pending total = 0 < total

  weighs_last : (b : Bool) (total : ℕ) (answer : Poll (Option A)) → Polled b total → (b ≡ true → answer ≡ Pending) → (b ≡ false → answer ≡ Ready None) → Weighs answer total
  weighs_last true total answer polled pends ends = rw (pends refl) polled
  weighs_last false total answer polled pends ends = rw (ends refl) polled

  round_sum : (g : Groups X) → sum_by weight (in_turn g) ≡ sum_by weight g.listed
  round_sum g =
      let p = next_place g in
      omega (arith, sum_by-append weight (drop p g.listed) (take p g.listed), sum_by-append weight (take p g.listed) (drop p g.listed), ap (λ (l : List X). sum_by weight l) (take-append-drop p g.listed))

  still_polled : (b : Bool) (done : List X) (left : X) → weight left ≡ 0 → Polled b (sum_by weight done) → Polled b (sum_by weight (done ++ left ∷ []))
  still_polled true done left none polled = omega (arith, none, polled, sum_by-append weight done (left ∷ []), sum_by-cons weight left [])
  still_polled false done left none polled = omega (arith, none, polled, sum_by-append weight done (left ∷ []), sum_by-cons weight left [])

  turns_on : (n : ℕ) (b : Bool) (old : Groups X) (answer : Poll (Option A)) (new : Groups X) (cx left : Context) → AsksInTurn asks n b old answer new cx left → (todo done : List X) → in_turn old ≡ todo ++ done → length todo ≡ n → Polled b (sum_by weight done) → Weighs answer (sum_by weight new.listed)
  turns_on zero b old answer new cx left (e, same, stays) [] done is long polled =
      let total : sum_by weight done ≡ sum_by weight new.listed = sym (ap (λ (l : List X). sum_by weight l) is) ∙ round_sum old ∙ sym (ap (λ (g : Groups X). sum_by weight g.listed) same) in
      weighs_last b (sum_by weight new.listed) answer (subst (Polled b) total polled) (λ is. rw is at e) (λ is. rw is at e)
  turns_on zero b old answer new cx left h (t ∷ todo) done is long polled = absurd (omega (arith, long))
  turns_on (suc n) b old answer new cx left h [] done is long polled = absurd (omega (arith, long))
  turns_on (suc n) b old answer new cx left (inl (x, e, one)) (t ∷ todo) done is long polled = rw e tt
  turns_on (suc n) b old answer new cx left (inr (inl (now, task, one, more))) (t ∷ todo) done is long polled =
      let rest : others old ≡ todo ++ done = let head = first_of_round (asks b) old Pending now cx task one in cc in
      let turn = round_turned (asks b) old Pending now cx task one in
      let held = pending_holds b one.group one.group_left cx task one.asked in
      turns_on n true now answer new task left more todo (done ++ one.group_left ∷ []) (turn ∙ ap (λ (l : List X). l ++ one.group_left ∷ []) rest ∙ append_assoc todo done (one.group_left ∷ [])) (omega (arith, long)) (omega (arith, held, sum_by-append weight done (one.group_left ∷ []), sum_by-cons weight one.group_left []))
  turns_on (suc n) b old answer new cx left (inr (inr (now, task, one, more))) (t ∷ todo) done is long polled =
      let rest : others old ≡ todo ++ done = let head = first_of_round (asks b) old (Ready None) now cx task one in cc in
      let none = end_is_empty b one.group one.group_left cx task one.asked in
      elim (round_turned (asks b) old (Ready None) now cx task one) [
        | inl leaves ↦ turns_on n b now answer new task left more todo done (leaves ∙ rest) (omega (arith, long)) polled
        | inr stays ↦ turns_on n b now answer new task left more todo (done ++ one.group_left ∷ []) (stays ∙ ap (λ (l : List X). l ++ one.group_left ∷ []) rest ∙ append_assoc todo done (one.group_left ∷ [])) (omega (arith, long)) (still_polled b done one.group_left none polled)
      ]

  -- a whole poll
  pub turns_weigh : (old : Groups X) (answer : Poll (Option A)) (new : Groups X) (cx left : Context) → AsksInTurn asks (length old.listed) false old answer new cx left → Weighs answer (sum_by weight new.listed)
  turns_weigh old answer new cx left h =
      turns_on (length old.listed) false old answer new cx left h (in_turn old) [] (sym (append-nil (in_turn old))) (turn_length old) refl

  -- a poll that ends with an output, where its group still weighs something
  pub output_weighs : (x : A) → ((b : Bool) (group left : X) (cx after : Context) → asks b group (Ready (Some x)) left cx after → 0 < weight left) → (n : ℕ) (b : Bool) (old new : Groups X) (cx left : Context) → AsksInTurn asks n b old (Ready (Some x)) new cx left → 0 < sum_by weight new.listed
  output_weighs x holds zero true old new cx left (e, same, stays) = absurd (cc e)
  output_weighs x holds zero false old new cx left (e, same, stays) = absurd (cc e)
  output_weighs x holds (suc n) b old new cx left (inl (y, e, one)) =
      let p = next_place old in
      let held = holds b one.group one.group_left cx left one.asked in
      omega (arith, held, ap (λ (l : List X). sum_by weight l) one.leaves.0, sum_by-append weight (take p old.listed) (one.group_left ∷ drop (p + 1) old.listed), sum_by-cons weight one.group_left (drop (p + 1) old.listed))
  output_weighs x holds (suc n) b old new cx left (inr (inl (now, task, one, more))) = output_weighs x holds n true now new task left more
  output_weighs x holds (suc n) b old new cx left (inr (inr (now, task, one, more))) = output_weighs x holds n b now new task left more
