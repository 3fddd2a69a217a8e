-- A source that returns the results of a list.
use Rattle.std.specs.Prelude.{◌≡◌, ℕ, List, [], ◌∷◌}
use Rattle.futures_buffered_core.specs.ReadyCore.{IsNameBelow}
use Rattle.futures_buffered_table.specs.declared.answer.Woke.{Woke}
use Rattle.futures_buffered_table.specs.declared.answer.Woke.TheVariants.{Fresh}
use Rattle.futures_buffered_table.specs.declared.answer.Taken.{Taken}
use Rattle.futures_buffered_table.specs.declared.answer.Taken.TheVariants.{Empty}

-- the capacity, and the results that are left
pub record Script : Type 0 where
  pub capacity : ℕ
  pub left : List Taken

-- the first result is returned, or `Empty` if none is left
abbrev pub AnswersNext : List Taken → Taken → List Taken → Type 0
AnswersNext [] given rest = (given ≡ Empty) × (rest ≡ [])
AnswersNext (first ∷ others) given rest = (given ≡ first) × (rest ≡ others)

-- one dequeue: it returns the next result, whose slot, if any, is below the capacity, which stays
abbrev pub TakesNext : Script → Taken → Script → Type 0
TakesNext old given new = AnswersNext old.left given new.left
    × IsNameBelow old.capacity given
    × (new.capacity ≡ old.capacity)

-- one mark, of any slot: it returns `Fresh`, and changes nothing
abbrev pub MarksNothing : Script → ℕ → Woke → Script → Type 0
MarksNothing old i woke new = (woke ≡ Fresh) × (new ≡ old)
