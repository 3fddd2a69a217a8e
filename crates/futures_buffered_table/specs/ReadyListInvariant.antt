-- How a list and its seats keep themselves.
use Rattle.std.specs.Prelude.{◌≡◌, ℕ, ◌+◌, ◌<◌, ◌≤◌, ◌^◌, []}
use Rattle.atomic_table.specs.Seated.{TableId}
use Rattle.atomic_table.specs.Table.{Me}
use Rattle.futures_buffered_table.specs.Types.{Start, Role, Idle, Polls, View}
use Rattle.futures_buffered_table.specs.Tally.{unmarks}

-- the table has 2n + 2 words and no slot of its own
pub record KeepsList (table : TableId) (key capacity : ℕ) : Type 0 where
  pub words : table.words ≡ capacity + capacity + 2
  pub slots : table.slots ≡ 0
  pub keyed : key ≡ capacity
  pub sized : capacity < 2 ^ 62

-- a seat of a table of this many words is in this role, and holds no slot of the table
pub record KeepsSeat (table : TableId) (me : Me ℕ View) (role : Role) : Type 0 where
  pub rests : me.0.role ≡ role
  pub empty : me.1 ≡ []
  pub sized : me.0.stub + me.0.stub + 2 ≡ table.words

-- a wake seat is idle between two wakes, and never unmarks
pub record KeepsWaker (table : TableId) (me : Me ℕ View) : Type 0 where
  pub seat : KeepsSeat table me Idle
  pub wakes : (e : ℕ) → unmarks e me.0.steps ≡ 0

-- the poll seat begins a dequeue next, and its head is an entry
pub record KeepsPoller (table : TableId) (me : Me ℕ View) (head : ℕ) : Type 0 where
  pub seat : KeepsSeat table me (Polls head Start)
  pub low : head ≤ me.0.stub
