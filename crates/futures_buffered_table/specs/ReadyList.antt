-- A list and its seats, as callers see them, and a seat of the table in the middle of a call.
use Rattle.std.specs.Prelude.{ℕ, List, [], ◌∷◌, ◌++◌, ◌≡◌}
use Rattle.atomic_table.specs.Seated.{TableId}
use Rattle.futures_buffered_table.specs.Types.{AtomicStep, LinkClear, TailSwap, LinkWrite, Role, View}
use Rattle.atomic_table.specs.declared.shared.Seat.{Seat}

-- which list it is, and how many slots it has
pub record ListIdentity : Type 0 where
  pub list : TableId
  pub capacity : ℕ

-- a wake seat between two wakes: its list, and the steps that it made
pub record Waker : Type 0 where
  pub list : TableId
  pub steps : List AtomicStep

-- the poll seat between two dequeues: its list, its head, and the steps that it made
pub record Poller : Type 0 where
  pub list : TableId
  pub head : ℕ
  pub steps : List AtomicStep

-- the poll seat in the middle of a dequeue: the steps that it made
pub record Midway : Type 0 where
  pub steps : List AtomicStep

-- the seat is one of this list, in this role, and holds no slot of the table
abbrev pub IsInRole : ListIdentity → Role → Seat ℕ View → Type 0
IsInRole list role seat = (seat.table_id ≡ list.list) × (seat.me.0.stub ≡ list.capacity)
    × (seat.me.0.role ≡ role) × (seat.me.1 ≡ [])

-- from `before` to `now`, the seat made the steps `shape`
abbrev pub AddsSteps : Seat ℕ View → Seat ℕ View → List AtomicStep → Type 0
AddsSteps before now shape = now.me.0.steps ≡ before.me.0.steps ++ shape

-- the seat made the steps that enqueue a slot as the last entry of the row
abbrev pub PutsInRow : ℕ → Seat ℕ View → Seat ℕ View → Type 0
PutsInRow slot before now = (p : ℕ) × AddsSteps before now (LinkClear slot ∷ TailSwap slot p ∷ LinkWrite p slot ∷ [])
