-- A list that was closed, and the steps of the seats that the call got.
use Rattle.std.specs.Prelude.{ℕ, List, [], ◌∷◌, ◌++◌}
use Rattle.futures_buffered_table.specs.declared.view.AtomicStep.{AtomicStep}
use Rattle.futures_buffered_table.specs.ReadyList.{Waker}

-- the words that were left, of a list for `capacity` slots
pub record ClosedWords : Type 0 where
  pub capacity : ℕ
  pub words : List ℕ

-- the lists of steps of these seats, one after another
abbrev pub steps_of : List Waker → List AtomicStep
steps_of [] = []
steps_of (s ∷ ss) = s.steps ++ steps_of ss
