-- The wakes of threads that are still to be joined.
use Rattle.fbuf_program.proofs.Common.{◌≡◌, ℕ, ◌+◌, List, [], ◌∷◌, ◌++◌, length, refl, ap, ◌∙◌, arith, sum, sum_by_push}

-- one number more at the end
pub sum_pushed : (before after : List ℕ) (last : ℕ) → after ≡ before ++ last ∷ []
    → sum after ≡ sum before + last
sum_pushed before after last is =
    ap {B = ℕ} (λ (xs : List ℕ). sum xs) is ∙ sum_by_push (λ x. x) before last

-- no number
pub sum_of_none : (xs : List ℕ) → length xs ≡ 0 → sum xs ≡ 0
sum_of_none [] none = refl
sum_of_none (x ∷ xs) none = absurd (omega (arith, none))
