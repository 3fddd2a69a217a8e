-- How a closed list keeps itself.
use Rattle.std.specs.Prelude.{◌≡◌, ℕ, ◌+◌, ◌<◌, ◌≤◌, List}
use Rattle.futures_buffered_table.specs.Words.{mark}

-- the number of words fits the capacity, the table has no slot, and each mark is clear or set
pub record KeepsClosed (words : List ℕ) (count slots capacity : ℕ) : Type 0 where
  pub wide : count ≡ capacity + capacity + 2
  pub no_slots : slots ≡ 0
  pub marks : (e : ℕ) → e < capacity → mark words e ≤ 1
