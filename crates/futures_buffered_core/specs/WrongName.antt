-- Entries that have slots, and the first of them whose slot is out of range.
use Rattle.std.specs.Prelude.{◌≡◌, ℕ, ◌<◌, ◌≤◌, List, Some, slice_get, length}

module _ {X : Type 0} (naming : ℕ → X) (cap : ℕ) (entries : List X) where
  -- each slot of the first `n` entries is below the capacity
  abbrev pub NamesAllBelow : ℕ → Type 0
  NamesAllBelow n = (p i : ℕ) → p < n → slice_get entries p ≡ Some (naming i) → i < cap

  -- each slot of an entry is below the capacity
  abbrev pub AllNamesBelow : Type 0
  AllNamesBelow = NamesAllBelow (length entries)

  -- the entry at `p` has a slot that is not below the capacity, and no entry before it has
  pub record IsFirstWrong (p : ℕ) : Type 0 where
    pub wrong : (i : ℕ) × (slice_get entries p ≡ Some (naming i)) × (cap ≤ i)
    pub least : NamesAllBelow p
