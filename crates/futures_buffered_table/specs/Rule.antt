-- The rule of the atomic table (`HoldsRow`), which holds between any two steps of any threads. A step also says
-- something to the seat that makes it (`PlaysRole`) or that is made with it (`PlaysNewWaker`).
use Rattle.std.specs.Prelude.{◌≡◌, ℕ, suc, ◌≤◌, List, []}
use Rattle.atomic_table.specs.Table.{State, Me, Step as TableStep}
use Rattle.futures_buffered_table.specs.Types.{Start, Moved, StubCleared, StubLinked, Role, Idle, Cleared, Polls, View}
use Rattle.futures_buffered_table.specs.RowInvariant.{KeepsRow}
use Rattle.futures_buffered_table.specs.Effect.{next_view}
use Rattle.futures_buffered_table.specs.View.{new_waker_beside}

-- the words and all views, of a list for `n` slots, have a row that keeps itself, from the head of one poller to the
-- tail
abbrev pub HoldsRow : ℕ → State ℕ View → Type 0
HoldsRow n s = (h : ℕ) × (rest : List ℕ) × (poller : ℕ) × KeepsRow n h rest poller s.words s.views

-- what the rule says of a word that was found
abbrev pub MayFind : ℕ → Role → ℕ → Type 0
MayFind n Idle found = found ≤ 1
MayFind n (Cleared e) found = found ≤ n
MayFind n (Polls h Start) found = (found ≤ suc n) × (h ≡ n → found ≤ n)
MayFind n (Polls h Moved) found = found ≤ suc n
MayFind n (Polls h StubCleared) found = found ≤ n
MayFind n (Polls h StubLinked) found = found ≤ suc n
MayFind n _ found = Unit {0}

-- a seat's step is the step of its role, and is added to the seat's list of steps
abbrev pub PlaysRole : TableStep ℕ → Me ℕ View → ℕ → Me ℕ View → Type 0
PlaysRole s before found after = (after.0 ≡ next_view s.word before.0 found) × (after.1 ≡ before.1)
    × MayFind before.0.stub before.0.role found

-- The step of a wake seat that is made with it. It is the step of a new seat next to this one, which has no slot of the
-- table.
abbrev pub PlaysNewWaker : TableStep ℕ → Me ℕ View → ℕ → Me ℕ View → Type 0
PlaysNewWaker s beside found after = PlaysRole s (new_waker_beside beside.0, []) found after
