-- What the outputs of a join hold at places where a future waits, and once none does.
use Rattle.futures_buffered_joins.proofs.Common.{◌≡◌, ℕ, ◌+◌, ◌-◌, ◌<◌, ◌≤◌, zero, suc, Bool, List, [], ◌∷◌, ◌++◌, drop, length, map, get_or, set, replicate, Option, Some, None, IsSome, true, false, cond, refl, sym, ap, subst, arith, ◌∙◌, append-nil, get_or-map, length-map, map-set, sum_by-cons, get_or_from_slice_get, slice_get_within, WaitsOrCame, MayComeAll, came_by_place, from_the_first, output_in, waiting_count}
use Rattle.std.specs.Option.{is_none}

-- at a place where a future waits nothing has come
pub none_came : {A : Type 0} (outputs : List (Option A)) (k : ℕ) → get_or (map is_none outputs) k false ≡ true → (k < length outputs) × (output_in outputs k ≡ None)
none_came [] k waits = absurd cc
none_came (None ∷ outputs) zero waits = (omega arith, refl)
none_came (Some x ∷ outputs) zero waits = absurd cc
none_came (o ∷ outputs) (suc k) waits = let rest = none_came outputs k waits in (let below = rest.0 in omega (arith, below), rest.1)

-- if a future waits at no place, each output has come
each_came : {A : Type 0} (outputs : List (Option A)) → waiting_count (map is_none outputs) ≡ 0 → (k : ℕ) → k < length outputs → IsSome (output_in outputs k)
each_came [] none k below = absurd (omega (arith, below))
each_came (None ∷ outputs) none k below = absurd (omega (arith, none, sum_by-cons (λ (waits : Bool). cond waits 1 0) true (map is_none outputs)))
each_came (Some x ∷ outputs) none zero below = refl
each_came (Some x ∷ outputs) none (suc k) below = each_came outputs none k (omega (arith, below))

pub all_came : {A : Type 0} (waiting : List Bool) (outputs : List (Option A)) → WaitsOrCame waiting outputs → waiting_count waiting ≡ 0 → (k : ℕ) → k < length outputs → IsSome (output_in outputs k)
all_came waiting outputs keeps none = each_came outputs (sym (ap waiting_count keeps) ∙ none)

-- a place that is free has one fewer that waits
pub one_fewer : (waiting : List Bool) (k : ℕ) → get_or waiting k false ≡ true → waiting_count (set waiting k false) + 1 ≡ waiting_count waiting
one_fewer [] k waits = absurd cc
one_fewer (true ∷ waiting) zero waits = omega (arith, sum_by-cons (λ (waits : Bool). cond waits 1 0) true waiting, sum_by-cons (λ (waits : Bool). cond waits 1 0) false waiting)
one_fewer (false ∷ waiting) zero waits = absurd cc
one_fewer (waits_here ∷ waiting) (suc k) waits = omega (arith, one_fewer waiting k waits, sum_by-cons (λ (waits : Bool). cond waits 1 0) waits_here waiting, sum_by-cons (λ (waits : Bool). cond waits 1 0) waits_here (set waiting k false))

-- an output that fills its place leaves the places in order
pub filled_in_order : {A : Type 0} (waiting after : List Bool) (outputs : List (Option A)) (k : ℕ) (x : A) → WaitsOrCame waiting outputs → after ≡ set waiting k false → WaitsOrCame after (set outputs k (Some x))
filled_in_order waiting after outputs k x keeps frees = frees ∙ ap (λ (places : List Bool). set places k false) keeps ∙ sym (map-set is_none outputs k (Some x))

none_of : (A : Type 0) (n : ℕ) → map is_none (replicate {A = Option A} n None) ≡ replicate n true
none_of A zero = refl
none_of A (suc n) = ap (λ (places : List Bool). true ∷ places) (none_of A n)

-- the places of a join that is new are in order
pub all_wait : {A : Type 0} (waiting : List Bool) (outputs : List (Option A)) (n : ℕ) → waiting ≡ replicate n true → outputs ≡ replicate n None → WaitsOrCame waiting outputs
all_wait {A} waiting outputs n wait none = wait ∙ sym (ap (map is_none) none ∙ none_of A n)

-- outputs that have come are all outputs
pub all_now : {A : Type 0} (may_give : ℕ → A → Type 0) (outputs : List (Option A)) (all : List A) → outputs ≡ map Some all → MayComeAll may_give outputs all
all_now may_give outputs all is =
    record {
      as_many = sym (ap length is ∙ length-map all Some);
      each = λ k x got.
          let found : output_in outputs k ≡ Some x = rw is (get_or-map Some all k x None (slice_get_within all k x got) ∙ ap Some (get_or_from_slice_get all k x x got)) in
          rw found refl;
    }

-- from place 1 on, a later output is one place further in the list of all places
pub later_at : {A : Type 0} (n : ℕ) (later : List (Option A)) (k : ℕ) → 0 < n → 0 < k
    → get_or later (k - 1) None ≡ get_or (from_the_first n later) k None
later_at zero later k some far = absurd (omega (arith, some))
later_at (suc n) later zero some far = absurd (omega (arith, far))
later_at (suc n) later (suc k) some far = ap (λ (p : ℕ). get_or later p None) (omega arith)

pub later_set : {A : Type 0} (n : ℕ) (later : List (Option A)) (k : ℕ) (x : Option A) → 0 < n → 0 < k
    → from_the_first n (set later (k - 1) x) ≡ set (from_the_first n later) k x
later_set zero later k x some far = absurd (omega (arith, some))
later_set (suc n) later zero x some far = absurd (omega (arith, far))
later_set (suc n) later (suc k) x some far = ap (λ (p : ℕ). None ∷ set later p x) (omega arith)

pub later_below : {A : Type 0} (n : ℕ) (later : List (Option A)) (k : ℕ) → length (from_the_first n later) ≡ n → k < n → 0 < k
    → k - 1 < length later
later_below zero later k wide below far = absurd (omega (arith, below))
later_below (suc n) later k wide below far = omega (arith, wide, below, far)

-- as many places as there are in all
pub as_many : {A : Type 0} (gathered : List A) (all : List (Option A)) → length gathered ≤ length all → length (came_by_place gathered all) ≡ length all
as_many [] all le = refl
as_many (h ∷ gathered) [] le = absurd (omega (arith, le))
as_many (h ∷ gathered) (o ∷ all) le = ap suc (as_many gathered all (omega (arith, le)))

-- a place after those that are gathered has what has come later
pub later_is : {A : Type 0} (gathered : List A) (all : List (Option A)) (k : ℕ) → length gathered ≤ k → k < length all
    → output_in (came_by_place gathered all) k ≡ get_or all k None
later_is [] all k le lt = refl
later_is (h ∷ gathered) all zero le lt = absurd (omega (arith, le))
later_is (h ∷ gathered) [] (suc k) le lt = absurd (omega (arith, lt))
later_is (h ∷ gathered) (o ∷ all) (suc k) le lt = later_is gathered all k (omega (arith, le)) (omega (arith, lt))

-- nothing has come at a place, so it is none of those that are gathered
pub is_later : {A : Type 0} (gathered : List A) (rest : List (Option A)) (k : ℕ) → output_in (map Some gathered ++ rest) k ≡ None → length gathered ≤ k
is_later [] rest k none = omega arith
is_later (h ∷ gathered) rest zero none = absurd cc
is_later (h ∷ gathered) rest (suc k) none = omega (arith, is_later gathered rest k none)

-- a place at which nothing has come is after those that are gathered, and there is such a place
pub after_gathered : {A : Type 0} (gathered : List A) (n : ℕ) (later : List (Option A)) (k : ℕ) → length (from_the_first n later) ≡ n
    → length gathered ≤ n → k < length (came_by_place gathered (from_the_first n later))
    → output_in (came_by_place gathered (from_the_first n later)) k ≡ None → (length gathered ≤ k) × (k < n)
after_gathered gathered n later k wide fits below none =
    let all = from_the_first n later in
    (is_later gathered (drop (length gathered) all) k none, omega (arith, below, wide, as_many gathered all (omega (arith, wide, fits))))

-- an output that comes next is gathered
pub comes_next : {A : Type 0} (gathered : List A) (all : List (Option A)) (x : A) → length gathered < length all
    → came_by_place (gathered ++ x ∷ []) all ≡ set (came_by_place gathered all) (length gathered) (Some x)
comes_next [] [] x lt = absurd (omega (arith, lt))
comes_next [] (o ∷ all) x lt = refl
comes_next (h ∷ gathered) [] x lt = absurd (omega (arith, lt))
comes_next (h ∷ gathered) (o ∷ all) x lt = ap (λ (l : List _). Some h ∷ l) (comes_next gathered all x (omega (arith, lt)))

-- an output that comes later fills its place
pub comes_later : {A : Type 0} (gathered : List A) (all : List (Option A)) (k : ℕ) (o : Option A) → length gathered ≤ k → k < length all
    → came_by_place gathered (set all k o) ≡ set (came_by_place gathered all) k o
comes_later [] all k o le lt = refl
comes_later (h ∷ gathered) all zero o le lt = absurd (omega (arith, le))
comes_later (h ∷ gathered) [] (suc k) o le lt = absurd (omega (arith, lt))
comes_later (h ∷ gathered) (p ∷ all) (suc k) o le lt = ap (λ (l : List _). Some h ∷ l) (comes_later gathered all k o (omega (arith, le)) (omega (arith, lt)))

-- an output that came later is gathered, once it is next
pub is_gathered : {A : Type 0} (gathered : List A) (all : List (Option A)) (x : A) → length gathered < length all
    → get_or all (length gathered) None ≡ Some x
    → came_by_place (gathered ++ x ∷ []) (set all (length gathered) None) ≡ came_by_place gathered all
is_gathered [] [] x lt came = absurd (omega (arith, lt))
is_gathered [] (o ∷ all) x lt came = ap (λ p. p ∷ all) (sym came)
is_gathered (h ∷ gathered) [] x lt came = absurd (omega (arith, lt))
is_gathered (h ∷ gathered) (o ∷ all) x lt came = ap (λ (l : List _). Some h ∷ l) (is_gathered gathered all x (omega (arith, lt)) came)

-- once all are gathered, no place is left
pub all_gathered : {A : Type 0} (gathered : List A) (all : List (Option A)) → length all ≤ length gathered → came_by_place gathered all ≡ map Some gathered
all_gathered [] [] le = refl
all_gathered [] (o ∷ all) le = absurd (omega (arith, le))
all_gathered (h ∷ gathered) [] le = append-nil (map Some (h ∷ gathered))
all_gathered (h ∷ gathered) (o ∷ all) le = ap (λ (l : List _). Some h ∷ l) (all_gathered gathered all (omega (arith, le)))

first_waits : {A : Type 0} (n : ℕ) (later : List (Option A)) (k : ℕ) → 0 < n → IsSome (get_or (from_the_first n later) k None) → 0 < k
first_waits zero later k some came = absurd (omega (arith, some))
first_waits (suc n) later zero some came = absurd cc
first_waits (suc n) later (suc k) some came = omega arith

-- if all have come, the next output came later
pub next_came : {A : Type 0} (gathered : List A) (n : ℕ) (later view : List (Option A)) (k : ℕ) → length (from_the_first n later) ≡ n
    → came_by_place gathered (from_the_first n later) ≡ view → length gathered ≡ k → k < n
    → ((i : ℕ) → i < length view → IsSome (output_in view i)) → (0 < k) × (k - 1 < length later) × IsSome (get_or later (k - 1) None)
next_came gathered n later view k wide same next below came =
    let all = from_the_first n later in
    let here : IsSome (output_in (came_by_place gathered all) k) = subst (λ s. (i : ℕ) → i < length s → IsSome (output_in s i)) (sym same) came k
    (omega (arith, below, wide, next, as_many gathered all (omega (arith, wide, next, below)))) in
    let there : IsSome (get_or all k None) = subst IsSome (later_is gathered all k (omega (arith, next)) (omega (arith, below, wide))) here in
    let far = first_waits n later k (omega (arith, below)) there in
    (far, later_below n later k wide below far, subst IsSome (sym (later_at n later k (omega (arith, below)) far)) there)

pub not_none : {A : Type 0} (o : Option A) → o ≡ None → IsSome o → ⊥
not_none None none some = absurd cc
not_none (Some x) none some = absurd cc
