-- The lines of a text.
use Rattle.std.specs.Prelude.{ℕ, List, [], ◌∷◌, ◌==◌, if◌then◌else◌}

-- a byte goes onto the first line of the rest
abbrev pub onto_first : ℕ → List (List ℕ) → List (List ℕ)
onto_first byte [] = (byte ∷ []) ∷ []
onto_first byte (line ∷ lines) = (byte ∷ line) ∷ lines

-- a line ends at a line feed or at the end of the text; a last line with no line feed counts if it has a byte
abbrev pub lines_of : List ℕ → List (List ℕ)
lines_of [] = []
lines_of (byte ∷ text) = if byte == 10 then [] ∷ lines_of text else onto_first byte (lines_of text)
