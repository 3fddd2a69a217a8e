-- The shapes of a wake: which steps it makes, with what was found, for each result. There is no other shape.
use Rattle.std.specs.Prelude.{◌≡◌, ℕ, List, [], ◌∷◌}
use Rattle.futures_buffered_table.specs.Types.{Woke, Fresh, Already, AtomicStep, MarkSwap, LinkClear, TailSwap}
use Rattle.futures_buffered_table.specs.Types.{LinkWrite}

-- a wake of the slot `i`: one step if its mark was set, four if it was clear
abbrev pub IsWake : ℕ → List AtomicStep → Woke → Type 0
IsWake i shape Already = shape ≡ MarkSwap i 1 ∷ []
IsWake i shape Fresh = (p : ℕ) × (shape ≡ MarkSwap i 0 ∷ LinkClear i ∷ TailSwap i p ∷ LinkWrite p i ∷ [])
