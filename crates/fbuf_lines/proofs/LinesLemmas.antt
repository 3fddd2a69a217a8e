-- The first line of a text, by the place of its line feed.
use Rattle.std.proofs.Common.{◌≡◌, ℕ, zero, suc, ◌<◌, true, eqb, List, [], ◌∷◌, length, take, drop}
use Rattle.std.proofs.Common.{get_or, refl, ap, arith, inl, inr}
use Rattle.std.proofs.lemmas.Bool.Decides.{eqb_tells}
use Rattle.std.specs.Str.TwoWay.{Nowhere}
use Rattle.fbuf_lines.specs.Lines.{lines_of, onto_first}

-- no byte before place k is this byte
abbrev pub IsAbsentBefore : ℕ → List ℕ → ℕ → Type 0
IsAbsentBefore byte text k = Nowhere (λ j. eqb (get_or text j 0) byte ≡ true) 0 k

pub IsAbsentBefore-rest : (byte b k : ℕ) (text : List ℕ)
    → IsAbsentBefore byte (b ∷ text) (suc k) → IsAbsentBefore byte text k
IsAbsentBefore-rest byte b k text none j low below = none (suc j) (omega arith) (omega arith)

pub lines_of-feed : (text : List ℕ) (k : ℕ) → k < length text → IsAbsentBefore 10 text k
    → eqb (get_or text k 0) 10 ≡ true → lines_of text ≡ take k text ∷ lines_of (drop (suc k) text)
lines_of-feed [] k within none feed = absurd (omega arith)
lines_of-feed (b ∷ text) zero within none feed = rw feed refl
lines_of-feed (b ∷ text) (suc k) within none feed =
    elim (eqb_tells b 10) [
      | inl same ↦ absurd (none 0 (omega arith) (omega arith) same.0)
      | inr other ↦ rw (other.0) (ap (onto_first b) (lines_of-feed text k (omega arith) (IsAbsentBefore-rest 10 b k text none) feed))
    ]

pub lines_of-last : (text : List ℕ) → 0 < length text → IsAbsentBefore 10 text (length text)
    → lines_of text ≡ text ∷ []
lines_of-last [] some none = absurd (omega arith)
lines_of-last (b ∷ []) some none =
    elim (eqb_tells b 10) [
      | inl same ↦ absurd (none 0 (omega arith) (omega arith) same.0)
      | inr other ↦ rw (other.0) refl
    ]
lines_of-last (b ∷ c ∷ text) some none =
    elim (eqb_tells b 10) [
      | inl same ↦ absurd (none 0 (omega arith) (omega arith) same.0)
      | inr other ↦ rw (other.0) (ap (onto_first b) (lines_of-last (c ∷ text) (omega arith) (IsAbsentBefore-rest 10 b (length (c ∷ text)) (c ∷ text) none)))
    ]
