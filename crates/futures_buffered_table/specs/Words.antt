-- The words of a list for n slots: n marks, n + 1 links and the tail.
use Rattle.std.specs.Prelude.{ℕ, ◌+◌, List, [], ◌∷◌, ◌++◌, replicate, slice_index}

-- the position of the tail word
abbrev pub tail_at : ℕ → ℕ
tail_at n = n + n + 1

-- no mark, no link, and the stub as the tail
abbrev pub empty_words : ℕ → List ℕ
empty_words n = replicate (tail_at n) 0 ++ n ∷ []

-- the mark of a slot, the link of an entry, and the tail
abbrev pub mark : List ℕ → ℕ → ℕ
mark words e = slice_index words e

abbrev pub link : ℕ → List ℕ → ℕ → ℕ
link n words e = slice_index words (n + e)

abbrev pub tail : ℕ → List ℕ → ℕ
tail n words = slice_index words (tail_at n)
