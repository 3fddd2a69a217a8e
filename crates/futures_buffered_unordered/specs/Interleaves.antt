-- Two lists merged into one.
use Rattle.std.specs.Prelude.{◌≡◌, ◌⊎◌, List, [], ◌∷◌}

-- the third list has the items of the other two, and keeps the order of each
abbrev pub Interleaves : {A : Type 0} → List A → List A → List A → Type 0
Interleaves xs ys [] = (xs ≡ []) × (ys ≡ [])
Interleaves {A} xs ys (z ∷ zs) =
    ((rest : List A) × (xs ≡ z ∷ rest) × Interleaves rest ys zs)
    ⊎ ((rest : List A) × (ys ≡ z ∷ rest) × Interleaves xs rest zs)
