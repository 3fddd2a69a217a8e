-- The row: sums over lists, what follows an entry, the last entry, and the slots that go in and out.
use Rattle.futures_buffered_table.proofs.Common.{◌≡◌, ◌≢◌, ◌⊎◌, ℕ, zero, suc, ◌+◌, ◌<◌, ◌≤◌, List, [], ◌∷◌, ◌++◌, length, set, refl, sym, ap, arith, ⊎_elim, ◌∙◌, ltb, InHand, Role, Cleared, Polls, last_entry, next, same, times, total, some, some-injective, some-ne-none, get_elem?, nat_tests, if◌then◌else◌}

pub total-append : {X : Type 0} (f : X → ℕ) (xs ys : List X) → total f (xs ++ ys) ≡ total f xs + total f ys
total-append f [] ys = omega arith
total-append f (x ∷ xs) ys = omega (arith, total-append f xs ys)

pub total_set : {X : Type 0} (f : X → ℕ) (xs : List X) (i : ℕ) (v w : X) → get_elem? xs i ≡ some v →
    total f (set xs i w) + f v ≡ total f xs + f w
total_set f [] i v w e = absurd (some-ne-none v (sym e))
total_set f (x ∷ xs) zero v w e = let s : f x ≡ f v = ap f (some-injective x v e) in omega arith
total_set f (x ∷ xs) (suc i) v w e = omega (arith, total_set f xs i v w e)

pub total_at : {X : Type 0} (f : X → ℕ) (xs : List X) (i : ℕ) (v : X) → get_elem? xs i ≡ some v → f v ≤ total f xs
total_at f [] i v e = absurd (some-ne-none v (sym e))
total_at f (x ∷ xs) zero v e = let s : f x ≡ f v = ap f (some-injective x v e) in omega arith
total_at f (x ∷ xs) (suc i) v e = omega (arith, total_at f xs i v e)

-- a sum is 0 where each of its terms is
pub total_none : {X : Type 0} (f : X → ℕ) (xs : List X) → ((i : ℕ) (v : X) → get_elem? xs i ≡ some v → f v ≡ 0) → total f xs ≡ 0
total_none f [] h = refl
total_none f (x ∷ xs) h = let a = h 0 x refl in omega (arith, total_none f xs (λ i v e. h (suc i) v e))

-- a sum in which one term alone may be other than 0
pub total_one : {X : Type 0} (f : X → ℕ) (xs : List X) (k : ℕ) (x : X) → get_elem? xs k ≡ some x →
    ((i : ℕ) (v : X) → i ≢ k → get_elem? xs i ≡ some v → f v ≡ 0) → total f xs ≡ f x
total_one f [] k x e h = absurd (some-ne-none x (sym e))
total_one f (y ∷ ys) zero x e h = let s : f y ≡ f x = ap f (some-injective y x e) in
    omega (arith, total_none f ys (λ i v e'. h (suc i) v (λ z. omega arith) e'))
total_one f (y ∷ ys) (suc k) x e h = let a = h 0 y (λ z. omega arith) refl in
    omega (arith, total_one f ys k x e (λ i v ne e'. h (suc i) v (λ z. ne (omega arith)) e'))

pub same_here : (a : ℕ) → same a a ≡ 1
same_here a = grind (arith, nat_tests)

pub same_else : (a b : ℕ) → a ≢ b → same a b ≡ 0
same_else a b ne = grind (arith, nat_tests)

pub same_cases : (a b : ℕ) → ((a ≡ b) × (same a b ≡ 1)) ⊎ ((a ≢ b) × (same a b ≡ 0))
same_cases a b = grind (arith, nat_tests)

pub times_snoc : (e : ℕ) (xs : List ℕ) (x : ℕ) → times e (xs ++ x ∷ []) ≡ times e xs + same e x
times_snoc e xs x = omega (arith, total-append (same e) xs (x ∷ []))

pub total_some : {X : Type 0} (f : X → ℕ) (xs : List X) → 0 < total f xs → (i : ℕ) × (v : X) × (get_elem? xs i ≡ some v) × (0 < f v)
total_some f [] pos = absurd (omega arith)
total_some f (x ∷ xs) pos = ⊎_elim (λ (t : 0 < f x). (0, x, refl, t)) (λ (t : f x ≡ 0). let more = total_some f xs (omega arith) in
    (suc more.0, more.1, more.2, more.3)) (grind arith)

pub next_first : (h x : ℕ) (xs : List ℕ) → next h h (x ∷ xs) ≡ suc x
next_first h x xs = grind (arith, nat_tests)

-- after the first entry comes none, or the next
pub row_end : (h : ℕ) (rest : List ℕ) → next h h rest ≡ 0 → rest ≡ []
row_end h [] none = refl
row_end h (x ∷ xs) none = let a = next_first h x xs in absurd (omega arith)

pub row_goes_on : (h q : ℕ) (rest : List ℕ) → next h h rest ≡ suc q → (xs : List ℕ) × (rest ≡ q ∷ xs)
row_goes_on h q [] is = absurd (omega arith)
row_goes_on h q (x ∷ xs) is = let a : x ≡ q = let b = next_first h x xs in omega arith in (xs, ap (λ (y : ℕ). y ∷ xs) a)

pub not_last : (p h q : ℕ) (rest : List ℕ) → next p h rest ≡ suc q → 0 < length rest
not_last p h q [] is = absurd (omega arith)
not_last p h q (x ∷ xs) is = omega arith

pub next_later : (p h x : ℕ) (xs : List ℕ) → p ≢ h → next p h (x ∷ xs) ≡ next p x xs
next_later p h x xs ne = grind (arith, nat_tests)

pub next_absent : (p h : ℕ) (rest : List ℕ) → times p (h ∷ rest) ≡ 0 → next p h rest ≡ 0
next_absent p h [] none = refl
next_absent p h (x ∷ xs) none = grind (arith, nat_tests, next_absent p x xs)

pub last_in : (h : ℕ) (rest : List ℕ) → 0 < times (last_entry h rest) (h ∷ rest)
last_in h [] = omega (arith, same_here h)
last_in h (x ∷ xs) = omega (arith, last_in x xs)

pub last_snoc : (h : ℕ) (rest : List ℕ) (e : ℕ) → last_entry h (rest ++ e ∷ []) ≡ e
last_snoc h [] e = refl
last_snoc h (x ∷ xs) e = last_snoc x xs e

-- behind the last entry stands none, where it stands once
pub next_last : (p h : ℕ) (rest : List ℕ) → p ≡ last_entry h rest → times p (h ∷ rest) ≤ 1 → next p h rest ≡ 0
next_last p h [] is once = refl
next_last p h (x ∷ xs) is once = grind (arith, nat_tests, last_in x xs, next_last p x xs)

-- an entry that is put in at the end comes behind the last, and nothing else changes
pub next_put : (p h : ℕ) (rest : List ℕ) (e : ℕ) → p ≡ last_entry h rest → times p (h ∷ rest) ≤ 1 → next p h (rest ++ e ∷ []) ≡ suc e
next_put p h [] e is once = grind (arith, nat_tests)
next_put p h (x ∷ xs) e is once = grind (arith, nat_tests, last_in x xs, next_put p x xs e)

pub next_kept : (p h : ℕ) (rest : List ℕ) (e : ℕ) → p ≢ last_entry h rest → next p h (rest ++ e ∷ []) ≡ next p h rest
next_kept p h [] e ne = grind (arith, nat_tests)
next_kept p h (x ∷ xs) e ne = grind (arith, nat_tests, next_kept p x xs e)

-- what stands behind an entry still does
pub next_stays : (p h : ℕ) (rest : List ℕ) (e q : ℕ) → next p h rest ≡ suc q → next p h (rest ++ e ∷ []) ≡ suc q
next_stays p h [] e q is = absurd (omega arith)
next_stays p h (x ∷ xs) e q is = grind (arith, nat_tests, next_stays p x xs e q)

pub alone : (h : ℕ) (rest : List ℕ) → h ≡ last_entry h rest → times h (h ∷ rest) ≤ 1 → rest ≡ []
alone h rest is once = row_end h rest (next_last h h rest is once)

-- the row without the stub
abbrev pub row_slots : ℕ → List ℕ → List ℕ
row_slots n [] = []
row_slots n (x ∷ xs) = if ltb x n then x ∷ row_slots n xs else row_slots n xs

-- the slot that a wake's step in this role puts into the row
abbrev pub put_by : Role → List ℕ
put_by (Cleared e) = e ∷ []
put_by _ = []

-- the slot that the poller took out of the row: the step in this role returns it
abbrev pub in_hand : Role → List ℕ
in_hand (Polls h (InHand i)) = i ∷ []
in_hand _ = []

-- a step from the role `old` to the role `new`, and from one row to another: what was put in comes at the end, and what is taken in hand was
-- the first
abbrev pub Flows : ℕ → Role → Role → List ℕ → List ℕ → Type 0
Flows n old new row now = row_slots n row ++ put_by old ≡ in_hand new ++ row_slots n now

pub slots_slot : (n x : ℕ) (xs : List ℕ) → x < n → row_slots n (x ∷ xs) ≡ x ∷ row_slots n xs
slots_slot n x xs lt = grind (arith, nat_tests)

pub slots_stub : (n x : ℕ) (xs : List ℕ) → x ≡ n → row_slots n (x ∷ xs) ≡ row_slots n xs
slots_stub n x xs is = grind (arith, nat_tests)

pub slots-append : (n : ℕ) (xs ys : List ℕ) → row_slots n xs ++ row_slots n ys ≡ row_slots n (xs ++ ys)
slots-append n [] ys = refl
slots-append n (x ∷ xs) ys = grind (arith, slots-append n xs ys)

pub slots_put : (n : ℕ) (xs : List ℕ) (e : ℕ) → e < n → row_slots n xs ++ e ∷ [] ≡ row_slots n (xs ++ e ∷ [])
slots_put n xs e lt = ap (λ (l : List ℕ). row_slots n xs ++ l) (sym (slots_slot n e [] lt)) ∙ slots-append n xs (e ∷ [])

pub slots_put_stub : (n : ℕ) (xs : List ℕ) → row_slots n xs ++ [] ≡ row_slots n (xs ++ n ∷ [])
slots_put_stub n xs = ap (λ (l : List ℕ). row_slots n xs ++ l) (sym (slots_stub n n [] refl)) ∙ slots-append n xs (n ∷ [])
