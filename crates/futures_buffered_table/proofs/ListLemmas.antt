-- Lists, read by place, and a choice by a test.
use Rattle.futures_buffered_table.proofs.Common.{◌≡◌, ◌⊎◌, ℕ, zero, suc, ◌+◌, ◌<◌, List, [], ◌∷◌, ◌++◌, length, get_or, replicate, Bool, true, false, refl, sym, ap, inl, inr, ⊎_elim, arith, if◌then◌else◌, at_last, get_or_default, length-replicate, some, some-injective, some-ne-none, get_elem?, length-append, at_index}

pub elem_at : {X : Type 0} (xs : List X) (k : ℕ) (d : X) → k < length xs → get_elem? xs k ≡ some (get_or xs k d)
elem_at xs k d lt = at_index xs k (get_or xs k d) lt (get_or_default xs k d (get_or xs k d) lt)

pub place_low : {X : Type 0} (xs : List X) (j : ℕ) (x : X) → get_elem? xs j ≡ some x → j < length xs
place_low [] j x e = absurd (some-ne-none x (sym e))
place_low (y ∷ ys) zero x e = omega arith
place_low (y ∷ ys) (suc j) x e = omega (arith, place_low ys j x e)

-- in a list of k times a and one b
pub length_and_last : {X : Type 0} (k : ℕ) (a b : X) → length (replicate k a ++ b ∷ []) ≡ k + 1
length_and_last k a b = let one = length-append (replicate k a) (b ∷ []) in let two = length-replicate k a in omega arith

pub last_at : {X : Type 0} (k : ℕ) (a b : X) → get_elem? (replicate k a ++ b ∷ []) k ≡ some b
last_at k a b = at_last (replicate k a) b k (length-replicate k a)

pub earlier_or_last : {X : Type 0} (k : ℕ) (a b : X) (j : ℕ) (x : X) → get_elem? (replicate k a ++ b ∷ []) j ≡ some x → ((j < k) × (a ≡ x))
    ⊎ ((j ≡ k) × (b ≡ x))
earlier_or_last zero a b zero x e = inr (refl, some-injective b x e)
earlier_or_last zero a b (suc j) x e = absurd (some-ne-none x (sym e))
earlier_or_last (suc k) a b zero x e = inl (omega arith, some-injective a x e)
earlier_or_last (suc k) a b (suc j) x e = ⊎_elim (λ (t : (j < k) × (a ≡ x)). inl (omega (arith, t.0), t.1)) (λ (t : (j ≡ k)
    × (b ≡ x)). inr (ap suc t.0, t.1)) (earlier_or_last k a b j x e)

pub by_test : {X : Type 0} (P : X → Type 0) (b : Bool) (x y : X) → (b ≡ true → P x) → (b ≡ false → P y) → P (if b then x else y)
by_test P b x y yes_case no_case = grind arith
