-- The items that an iterator returned.
use Rattle.std.specs.Prelude.{◌≡◌, ℕ, List, Some, Result, Err, length}
use Rattle.std.specs.Iterator.{Drains, IsFiniteIterable, YieldsThen}
use Rattle.std.specs.Iterator.SizeHint.{IsWithinCount}
pub use Rattle.std.specs.declared.iter.IntoIterator.{Ghosts as SourceOf}
pub use Rattle.std.specs.declared.iter.Iterator.{Ghosts as IteratorOf}
use Rattle.futures_buffered_table.specs.declared.answer.NewFault.{NewFault}
use Rattle.futures_buffered_table.specs.declared.answer.NewFault.TheVariants.{TooLarge}
use Rattle.futures_buffered_table.specs.declared.answer.TheConstants.{MAX_CAPACITY}

-- a value that is iterated over: what its type says of it, what its iterator's type says, and the value
pub record Items (U F I : Type 0) : Type 1 where
  pub by : SourceOf U F I
  pub gives : IteratorOf I F
  pub source : U

-- the items of a value, as a clause writes them: `items_of I.IntoIterator I.IntoIter.Iterator iter`
abbrev pub items_of : {U F I : Type 0} → SourceOf U F I → IteratorOf I F → U → Items U F I
items_of by gives source = record { by = by; gives = gives; source = source }

module _ {U F I : Type 0} (from : Items U F I) where
  -- the iterator of the value ends
  abbrev pub IsFiniteSource : Type 0
  IsFiniteSource = IsFiniteIterable from.by.into_iter_gives from.gives.can_next from.gives.remaining from.source

  -- the iterator returned these items, in order, and then `None`
  abbrev pub Draws : List F → Type 0
  Draws items = (it : I) × from.by.into_iter_gives from.source it × Drains from.gives.next_gives it items

  -- the iterator returned these items, in order, and one more
  abbrev pub DrawsAndOne : List F → Type 0
  DrawsAndOne items = (it : I) × (more : F) × (rest : I) × from.by.into_iter_gives from.source it
      × YieldsThen from.gives.next_gives it items (Some more) rest

  -- the iterator returned `n` items, and one more
  abbrev pub DrawsMoreThan : ℕ → Type 0
  DrawsMoreThan n = (it : I) × (items : List F) × (more : F) × (rest : I)
      × from.by.into_iter_gives from.source it
      × YieldsThen from.gives.next_gives it items (Some more) rest × (length items ≡ n)

  -- the iterator of the value has at least `n` items left, if their number is finite
  abbrev pub SaysAtLeast : ℕ → Type 0
  SaysAtLeast n = (it : I) × from.by.into_iter_gives from.source it × IsWithinCount n (from.gives.remaining it)

  -- the result is `TooLarge` only if the iterator returned more than `MAX_CAPACITY` items
  abbrev pub RefusesTooMany : {X : Type 0} → Result X NewFault → Type 0
  RefusesTooMany result = result ≡ Err TooLarge → DrawsMoreThan MAX_CAPACITY
