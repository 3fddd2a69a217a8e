-- What the rule of the atomic table promises of every state, and thus of the state between any two steps of any
-- threads.
use Rattle.std.specs.Prelude.{◌≡◌, ℕ, ◌+◌, ◌<◌, []}
use mathlib.Core.Option.{some}
use lib.ListN.{get_elem?}
use Rattle.atomic_table.specs.Table.{State}
use Rattle.futures_buffered_table.specs.Types.{AtStub, Polls, View}
use Rattle.futures_buffered_table.specs.Rule.{HoldsRow}
use Rattle.futures_buffered_table.specs.Whereabouts.{Whereabouts}
use Rattle.futures_buffered_table.specs.Words.{mark, tail}
use Rattle.futures_buffered_table.specs.Row.{total}
use Rattle.futures_buffered_table.specs.Tally.{unmarks, wins}

-- each slot is in its one place, in a row from the poller's head to the tail
abbrev pub RulePlacesSlots : Type 0
RulePlacesSlots = (n : ℕ) (s : State ℕ View) → HoldsRow n s → Whereabouts n s.words s.views

-- If the poller found no link at the stub, and the tail word is the stub, the row is the stub alone. It has no slot.
abbrev pub RuleEmptiesRow : Type 0
RuleEmptiesRow = (n : ℕ) (s : State ℕ View) → HoldsRow n s → (j : ℕ) (v : View) (h : ℕ) →
    get_elem? s.views j ≡ some v → v.role ≡ Polls h AtStub → tail n s.words ≡ n
    → (at : Whereabouts n s.words s.views) × (at.head ≡ n) × (at.rest ≡ [])

-- For each slot, count the mark swaps of all seats that found it clear, and the unmarks of all seats. The first number
-- is the second, and one more if the slot is marked.
abbrev pub RuleLosesNoMark : Type 0
RuleLosesNoMark = (n : ℕ) (s : State ℕ View) → HoldsRow n s → (e : ℕ) → e < n →
    total (λ v. wins e v.steps) s.views ≡ total (λ v. unmarks e v.steps) s.views + mark s.words e
