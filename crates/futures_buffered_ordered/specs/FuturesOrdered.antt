-- What a contract sees of a growing ordered queue: the words on ordered queues, for a growing set.
use Rattle.futures_buffered_ordered.specs.Below.{sum_by, Poll, NewFault, Woke, Items, MakesGrown}
use Rattle.std.specs.Prelude.{◌≡◌, ℕ, Result}
use Rattle.futures_buffered_core.specs.ReadyShared.{Shared, IsNewShared, MarksShared}
use Rattle.futures_buffered_unordered.specs.FuturesUnordered.{AnyGroupMayGive, Growing, EachHeld, GrowingPushes}
use Rattle.futures_buffered_unordered.specs.FuturesUnordered.{IsNewGrowing, SetRefuses, held_in_all}
use Rattle.futures_buffered_unordered.specs.declared.futures_unordered.TheConstants.{FIRST_GROUP}
use Rattle.futures_buffered_unordered.specs.declared.futures_unordered_bounded.TheConstants.{POLL_LIMIT}
use Rattle.futures_buffered_ordered.specs.Numbered.{CanPollFuture, PollsNumbered, held_with}
use Rattle.futures_buffered_ordered.specs.OrderedEntries.{AddsBack, Ordered, IsNewQueue, QueueIsAtBound}
use Rattle.futures_buffered_ordered.specs.declared.numbered.Numbered.{Numbered}

-- the growing set of numbered futures, the entries, and how many entries had a place when the queue was made
abbrev pub OrderedGrowing : Type 0 → Type 0 → Type 0 → Type 0
OrderedGrowing F A S = Ordered (Growing (Numbered F) S) A

module _ {F S : Type 0} where
  -- how many futures the set holds
  abbrev pub held_in_groups : Growing (Numbered F) S → ℕ
  held_in_groups set = held_in_all set.groups.listed

  -- how many futures of the set have number i
  abbrev pub held_in_groups_with : ℕ → Growing (Numbered F) S → ℕ
  held_in_groups_with i set = sum_by (held_with i) set.groups.listed

  -- a future was pushed into the set, with number i
  abbrev pub GrowingPushesNumber : (S → ℕ → Woke → S → Type 0) → (ℕ → S → Type 0)
      → Growing (Numbered F) S → F → ℕ → Growing (Numbered F) S → Type 0
  GrowingPushesNumber marks made old future i new =
      GrowingPushes marks made FIRST_GROUP old (record { future = future; number = i }) new

  -- the set is new, with one group of `n` slots, or with none if `n` is 0; there is no entry, and at least `n` entries
  -- have a place
  abbrev pub IsNewGrowingQueue : {A : Type 0} → (ℕ → S → Type 0) → ℕ → ℕ → OrderedGrowing F A S → Type 0
  IsNewGrowingQueue made n limit = IsNewQueue (IsNewGrowing made n limit) n

  -- the limit does not change
  abbrev pub SameLimit : Growing (Numbered F) S → Growing (Numbered F) S → Type 0
  SameLimit old new = new.limit ≡ old.limit

  -- P holds of each future in progress
  abbrev pub EachInProgress : (F → Type 0) → Growing (Numbered F) S → Type 0
  EachInProgress P set = EachHeld (CanPollFuture P) set.groups.listed

-- the result of a constructor that makes a queue over shared sources from items
abbrev pub MakesSharedQueue : {U F I A : Type 0} → Items U F I → Result (OrderedGrowing F A Shared) NewFault → Type 0
MakesSharedQueue from = MakesGrown from FIRST_GROUP (λ n. IsNewGrowingQueue IsNewShared n POLL_LIMIT)
    (AddsBack (GrowingPushesNumber MarksShared IsNewShared)) (QueueIsAtBound SetRefuses)

module _ {F A S : Type 0} (polled : ℕ → F → Poll A → F → Type 0) where
  -- some future may give this output, with this number
  abbrev pub GrowingMayGive : Growing (Numbered F) S → ℕ × A → Type 0
  GrowingMayGive set = AnyGroupMayGive (PollsNumbered polled) set.groups.listed
