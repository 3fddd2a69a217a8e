-- How often a slot was won, and how often unmarked, by the lists of steps.
use Rattle.std.specs.Prelude.{◌≡◌, ℕ, zero, ◌+◌, ◌<◌, List, slice_index_or, take}
use Rattle.futures_buffered_table.specs.Types.{AtomicStep, MarkSwap, Unmark, View, WAKE_SEATS}
use Rattle.futures_buffered_table.specs.Row.{same, total}
use Rattle.futures_buffered_table.specs.Words.{mark}
use Rattle.futures_buffered_table.specs.View.{spent_view}

-- 1 if this step is a mark swap that found `e` clear, otherwise 0
abbrev pub is_win : ℕ → AtomicStep → ℕ
is_win e (MarkSwap i zero) = same e i
is_win e _ = 0

-- 1 if this step unmarked `e`, otherwise 0
abbrev pub is_unmark : ℕ → AtomicStep → ℕ
is_unmark e (Unmark i) = same e i
is_unmark e _ = 0

-- the number of mark swaps among these steps that found `e` clear
abbrev pub wins : ℕ → List AtomicStep → ℕ
wins e steps = total (is_win e) steps

-- the number of unmarks of `e` among these steps
abbrev pub unmarks : ℕ → List AtomicStep → ℕ
unmarks e steps = total (is_unmark e) steps

-- For each slot, count the mark swaps of the wake seats that found it clear, and the unmarks of the poll seat. The
-- first number is the second, and one more if the slot is marked.
abbrev pub LosesNoMark : ℕ → List ℕ → List View → Type 0
LosesNoMark n words views = (e : ℕ) → e < n →
    total (λ v. wins e v.steps) (take WAKE_SEATS views)
    ≡ unmarks e (slice_index_or views WAKE_SEATS spent_view).steps + mark words e
