-- A schedule: which steps of the wake seats and the poll seat are made in which order. The poll seat is the one after
-- the wake seats. A schedule determines every word, every view and every reply.
use Rattle.std.specs.Prelude.{◌≡◌, ℕ, List, [], ◌∷◌, map, slice_index, slice_index_or, slice_set, take}
use mathlib.Core.Option.{some}
use lib.ListN.{get_elem?}
use Rattle.futures_buffered_table.specs.Types.{View, Step, StepReply, WAKE_SEATS}
use Rattle.futures_buffered_table.specs.View.{role_of, spent_view, first_views}
use Rattle.futures_buffered_table.specs.Step.{CanStep, seat_of, slot_of}
use Rattle.futures_buffered_table.specs.Effect.{next_view, put_by_role, reply_of_role, word_of_role}
use Rattle.futures_buffered_table.specs.Words.{empty_words}

-- all words and all views between two steps
pub record Moment : Type 0 where
  pub words : List ℕ
  pub views : List View

-- no mark, no link, and the stub as the tail; idle wake seats, and a poll seat whose head is the stub
abbrev pub at_start : ℕ → Moment
at_start n = record { words = empty_words n; views = first_views WAKE_SEATS n }

-- the view of the step's seat
abbrev pub view_at : Moment → Step → View
view_at c step = slice_index_or c.views (seat_of step) spent_view

-- the word that the step reads or writes
abbrev pub word_of : ℕ → Moment → Step → ℕ
word_of n c step = word_of_role n (slot_of step) (view_at c step).role

-- what the step finds there
abbrev pub found_at : ℕ → Moment → Step → ℕ
found_at n c step = slice_index c.words (word_of n c step)

-- one step: one word and one view change
abbrev pub after_step : ℕ → Moment → Step → Moment
after_step n c step = record {
  words = slice_set c.words (word_of n c step)
      (put_by_role n (view_at c step).role (found_at n c step));
  views = slice_set c.views (seat_of step)
      (next_view (slot_of step) (view_at c step) (found_at n c step));
}

-- all the steps, in order
abbrev pub run : ℕ → Moment → List Step → Moment
run n c [] = c
run n c (s ∷ ss) = run n (after_step n c s) ss

-- each step can be made when its turn comes
abbrev pub Legal : ℕ → Moment → List Step → Type 0
Legal n c [] = Unit {0}
Legal n c (s ∷ ss) = CanStep n (map role_of c.views) s × Legal n (after_step n c s) ss

-- the replies of these steps, in order
abbrev pub replies_of : ℕ → Moment → List Step → List StepReply
replies_of n c [] = []
replies_of n c (s ∷ ss) = reply_of_role n (view_at c s).role (found_at n c s) ∷ replies_of n (after_step n c s) ss

-- the steps before the `k`-th can be made, and the `k`-th cannot
abbrev pub IsStuckAt : ℕ → List Step → ℕ → Type 0
IsStuckAt n steps k = let before = take k steps in Legal n (at_start n) before
    × ((s : Step) × (get_elem? steps k ≡ some s)
    × (CanStep n (map role_of (run n (at_start n) before).views) s → ⊥))
