-- What the items of an iterator make of the value that they are added to, one after another.
use Rattle.std.specs.Prelude.{◌≡◌, ◌<◌, ◌≤◌, ◌⊎◌, ℕ, List, Some, Result, Err, IfOk, IfErr, OnOk, max}
use Rattle.std.specs.Iterator.{YieldsThen}
use Rattle.std.specs.List.{FoldsTo}
use Rattle.futures_buffered_core.specs.Drawn.{Items, Draws, DrawsAndOne, SaysAtLeast, RefusesTooMany}
use Rattle.futures_buffered_table.specs.declared.answer.NewFault.{NewFault}
use Rattle.futures_buffered_table.specs.declared.answer.NewFault.TheVariants.{TooLarge}
use Rattle.futures_buffered_table.specs.declared.answer.TheConstants.{MAX_CAPACITY}

-- P holds of each item that the iterator may give
abbrev pub EachDrawn : {U F I : Type 0} → Items U F I → (F → Type 0) → Type 0
EachDrawn {F = F} {I = I} from P = (it : I) → from.by.into_iter_gives from.source it
    → (items : List F) (more : F) (rest : I)
    → YieldsThen from.gives.next_gives it items (Some more) rest → P more

module _ {U F I X : Type 0} (from : Items U F I) where
  -- `holds` relates all items that the iterator gave to the new value
  abbrev pub HoldsAllOf : (List F → X → Type 0) → X → Type 0
  HoldsAllOf holds new = (items : List F) × Draws from items × holds items new

  -- The result of a constructor that gives each item a slot.
  pub record MakesFull
      (slots : X → ℕ)
      (is_full_of : List F → X → Type 0)
      (result : Result X NewFault)
      : Type 0 where
    -- if it succeeds, the value holds all items
    pub holds : IfOk result (HoldsAllOf is_full_of)
    -- if it succeeds, the value has at most `MAX_CAPACITY` slots
    pub fits : IfOk result (λ made. slots made ≤ MAX_CAPACITY)
    -- it fails with `TooLarge` only if more than `MAX_CAPACITY` items came
    pub large : RefusesTooMany from result

  -- These items were added, in order, and the next item, `back`, was refused.
  pub record ExtendsUntil
      (adds : X → F → X → Type 0)
      (refuses : X → X → Type 0)
      (old : X)
      (back : F)
      (new : X)
      : Type 0 where
    pub items : List F
    pub it : I
    pub rest : I
    pub begins : from.by.into_iter_gives from.source it
    pub came : YieldsThen from.gives.next_gives it items (Some back) rest
    pub stopped : X
    pub added : FoldsTo adds old items stopped
    pub refused : refuses stopped new

  -- These items were added to `start`, in order. One more item came, at the bound.
  abbrev pub StopsAtBound : (X → F → X → Type 0) → (X → Type 0) → X → Type 0
  StopsAtBound adds is_at_bound start = (items : List F) × (stopped : X)
      × DrawsAndOne from items
      × FoldsTo adds start items stopped
      × is_at_bound stopped

  -- What a call that adds each item makes of `old`, up to the first item that is refused.
  pub record Extends
      (adds : X → F → X → Type 0)
      (refuses : X → X → Type 0)
      (old : X)
      (result : Result (Unit {0}) F)
      (new : X)
      : Type 0 where
    -- if the call succeeds, all items were added, in order
    pub all : OnOk result (HoldsAllOf (FoldsTo adds old) new)
    -- if it fails, it returns the first item that is refused; the items before it were added
    pub stops : IfErr result (λ back. ExtendsUntil adds refuses old back new)

  -- The result of a constructor that adds each item to `start`.
  pub record MakesExtended
      (adds : X → F → X → Type 0)
      (is_at_bound : X → Type 0)
      (start : X)
      (result : Result X NewFault)
      : Type 0 where
    -- if it succeeds, all items were added, in order
    pub holds : IfOk result (HoldsAllOf (FoldsTo adds start))
    -- it fails with `TooLarge` only if one more item came at the bound
    pub large : result ≡ Err TooLarge → StopsAtBound adds is_at_bound start

  module _ (first : ℕ) (starts : ℕ → X → Type 0) (adds : X → F → X → Type 0) where
    -- All items were added, in order, to a start. The start has room for the `least` items that the iterator promises,
    -- and for at least `first`.
    abbrev pub GrowsByAllOf : X → Type 0
    GrowsByAllOf new = (items : List F) × (least : ℕ) × ((start : X)
        × Draws from items
        × SaysAtLeast from least
        × starts (max least first) start
        × FoldsTo adds start items new)

    -- the start would be larger than `MAX_CAPACITY`, or one more item came at the bound
    abbrev pub Outgrows : (X → Type 0) → Type 0
    Outgrows is_at_bound = (least : ℕ)
        × SaysAtLeast from least
        × ((MAX_CAPACITY < max least first) ⊎ ((start : X)
        × starts (max least first) start
        × StopsAtBound adds is_at_bound start))

    -- The result of a constructor that adds each item to such a start.
    pub record MakesGrown (is_at_bound : X → Type 0) (result : Result X NewFault) : Type 0 where
      -- if it succeeds, all items were added, in order
      pub holds : IfOk result GrowsByAllOf
      -- it fails with `TooLarge` only if the start would be too large, or if one more item came at the bound
      pub large : result ≡ Err TooLarge → Outgrows is_at_bound
