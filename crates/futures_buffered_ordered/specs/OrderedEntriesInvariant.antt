-- The invariant by which an ordered queue finds the entry of a future: what its numbers are, and what its calls require
-- and keep of them. The contracts of `OrderedEntries` cite it, and the contracts of the queues do not.
use Rattle.std.specs.Prelude.{◌≡◌, ℕ, ◌+◌, ◌^◌, ◌%◌, ◌<◌, ◌≤◌, List, [], ◌∷◌, Option, Some, None, count_by}
use Rattle.futures_buffered_ordered.specs.OrderedEntries.{Entry, Kept, Ordered, Running, is_running, runs_with}

module _ {A : Type 0} where
  -- the entry of this number: it keeps an output, or is in progress
  abbrev pub entry_of : ℕ → Option A → Entry A
  entry_of number (Some output) = Kept output
  entry_of number None = Running (number % 2 ^ 64)

  -- the entries, of which the front has the number `outgoing`; numbers rise by one from entry to entry, and wrap
  abbrev pub numbered_from : ℕ → List (Option A) → List (Entry A)
  numbered_from outgoing [] = []
  numbered_from outgoing (kept ∷ more) = entry_of outgoing kept ∷ numbered_from (outgoing + 1) more

-- The set holds as many futures as entries are in progress, and of each number as many as such entries have it.
pub record IsNumbered {Q A : Type 0} (with_number : ℕ → Q → ℕ) (count : Q → ℕ) (q : Ordered Q A) : Type 0 where
  pub as_many : (i : ℕ) → with_number i q.set ≡ count_by (runs_with i) q.entries
  pub counted : count q.set ≡ count_by is_running q.entries

-- What additions, from `old` to `new`, keep of a queue, whether or not they succeed.
pub record AddingKeeps {Q A : Type 0} (with_number : ℕ → Q → ℕ) (count : Q → ℕ) (keeps : Q → Q → Type 0)
    (old new : Ordered Q A) : Type 0 where
  -- `keeps` holds of the set before and after
  pub set : keeps old.set new.set
  -- `room` does not change
  pub room : new.room ≡ old.room
  -- the set holds the futures of the entries in progress
  pub numbered : IsNumbered with_number count new

-- The invariant of a queue: the set holds the futures of the entries in progress. The list was made with the places of
-- the set, of which there are fewer than 2^62.
pub record KeepsQueue {Q A : Type 0} (with_number : ℕ → Q → ℕ) (count places : Q → ℕ) (q : Ordered Q A) : Type 0 where
  pub numbered : IsNumbered with_number count q
  pub fits : places q.set ≤ q.room
  pub small : places q.set < 2 ^ 62
