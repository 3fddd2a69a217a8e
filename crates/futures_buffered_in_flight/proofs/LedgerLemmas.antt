-- Keys, and lists of keys from which one is taken.
use Rattle.std.proofs.Common.{◌≡◌, ◌+◌, ◌<◌, ℕ, Bool, true, false, cond, ◌&&◌, List, [], ◌∷◌, length, refl, sym, ap, ◌∙◌, arith, eqb, eq-eqb, count_by}
use Rattle.std.proofs.lemmas.Bool.{eqb-true, false≢true}
use Rattle.std.proofs.lemmas.List.Sums.{sum_by-cons}
use Rattle.futures_buffered_in_flight.specs.Ledger.{same_key, without}
use Rattle.futures_buffered_in_flight.specs.declared.run.Key.{Key}

pub same_key_refl : (k : Key) → same_key k k ≡ true
same_key_refl k = ap (λ b. b && eqb k.push k.push) (eq-eqb k.slot k.slot refl) ∙ eq-eqb k.push k.push refl

both_true : (a b : Bool) → (a && b) ≡ true → (a ≡ true) × (b ≡ true)
both_true true b e = (refl, e)
both_true false b e = absurd (false≢true e)

pub same_key_eq : (a b : Key) → same_key a b ≡ true → a ≡ b
same_key_eq a b e =
    let both = both_true (eqb a.slot b.slot) (eqb a.push b.push) e in
    λ i. record { push = eqb-true a.push b.push both.1 i; slot = eqb-true a.slot b.slot both.0 i }

counts : (p : Key → Bool) (x : Key) (xs : List Key) → count_by p (x ∷ xs) ≡ cond (p x) 1 0 + count_by p xs
counts p x xs = sum_by-cons (λ y. cond (p y) 1 0) x xs

pub counted_without : (k j : Key) (ks : List Key) → 0 < count_by (same_key k) ks → count_by (same_key j) (without k ks) + cond (same_key j k) 1 0 ≡ count_by (same_key j) ks
counted_without k j [] some = absurd (omega arith)
counted_without k j (x ∷ xs) some = at_head (same_key k x) refl (counted_without k j xs)
  where
    at_head : (b : Bool) → same_key k x ≡ b → (0 < count_by (same_key k) xs → count_by (same_key j) (without k xs) + cond (same_key j k) 1 0 ≡ count_by (same_key j) xs)
        → count_by (same_key j) (without k (x ∷ xs)) + cond (same_key j k) 1 0 ≡ count_by (same_key j) (x ∷ xs)
    at_head true e below =
        let one : cond {A = ℕ} (same_key j x) 1 0 ≡ cond {A = ℕ} (same_key j k) 1 0 = ap {B = ℕ} (λ (y : Key). cond (same_key j y) 1 0) (sym (same_key_eq k x e)) in
        let left : count_by (same_key j) (without k (x ∷ xs)) ≡ count_by (same_key j) xs = ap (λ b. count_by (same_key j) (cond b xs (x ∷ without k xs))) e in
        omega (arith, counts (same_key j) x xs)
    at_head false e below =
        let none_here : cond {A = ℕ} (same_key k x) 1 0 ≡ 0 = ap {B = ℕ} (λ b. cond b 1 0) e in
        let left : count_by (same_key j) (without k (x ∷ xs)) ≡ count_by (same_key j) (x ∷ without k xs) = ap (λ b. count_by (same_key j) (cond b xs (x ∷ without k xs))) e in
        let rest = below (omega (arith, counts (same_key k) x xs)) in
        omega (arith, counts (same_key j) x xs, counts (same_key j) x (without k xs))

pub length_without : (k : Key) (ks : List Key) → 0 < count_by (same_key k) ks → length (without k ks) + 1 ≡ length ks
length_without k [] some = absurd (omega arith)
length_without k (x ∷ xs) some = at_head (same_key k x) refl (length_without k xs)
  where
    at_head : (b : Bool) → same_key k x ≡ b → (0 < count_by (same_key k) xs → length (without k xs) + 1 ≡ length xs) → length (without k (x ∷ xs)) + 1 ≡ length (x ∷ xs)
    at_head true e below =
        let left : length (without k (x ∷ xs)) ≡ length xs = ap (λ b. length (cond b xs (x ∷ without k xs))) e in omega arith
    at_head false e below =
        let none_here : cond {A = ℕ} (same_key k x) 1 0 ≡ 0 = ap {B = ℕ} (λ b. cond b 1 0) e in
        let left : length (without k (x ∷ xs)) ≡ length (x ∷ without k xs) = ap (λ b. length (cond b xs (x ∷ without k xs))) e in
        let rest = below (omega (arith, counts (same_key k) x xs)) in
        omega arith
