-- The invariant of growing groups, and what a poll keeps of the group that it polls. Of the public clauses only a
-- group's poll cites it.
use Rattle.std.specs.Prelude.{◌≡◌, ◌≢◌, ℕ, ◌+◌, ◌<◌, ◌≤◌, List, [], ◌∷◌, ◌++◌, length, Option, IfNone, slice_index_or}
use Rattle.std.specs.List.{All}
use Rattle.futures.specs.Poll.{IfReady, OnPending}
use Rattle.futures.specs.declared.task.Poll.{Poll}
use Rattle.futures_buffered_core.specs.ReadySource.{WaitsAlike}
use Rattle.futures_buffered_core.specs.SlotMap.{slot_count}
use Rattle.futures_buffered_table.specs.declared.answer.TheConstants.{MAX_CAPACITY}
use Rattle.futures_buffered_unordered.specs.FuturesUnorderedBounded.{Bounded, IsNewSet, held_in}
use Rattle.futures_buffered_unordered.specs.Groups.{Groups}
use Rattle.futures_buffered_unordered.specs.FuturesUnordered.{Growing, held_in_all}
use Rattle.futures_buffered_unordered.specs.declared.futures_unordered.TheConstants.{MAX_HELD}

module _ {F S : Type 0} where
  -- the group has a slot, at most `MAX_CAPACITY` slots, and the set's limit
  pub record IsGroup (limit : ℕ) (group : Bounded F S) : Type 0 where
    pub has_a_slot : 0 < slot_count group.slots
    pub fits : slot_count group.slots ≤ MAX_CAPACITY
    pub same_limit : group.limit ≡ limit

  -- all groups wait at the same places of a task's wakes, so one registration covers all
  abbrev pub AllWaitAlike : (S → ℕ → Type 0) → List (Bounded F S) → Type 0
  AllWaitAlike needs groups =
      All
      (λ (a : Bounded F S). All (λ (b : Bounded F S). WaitsAlike needs a.source b.source) groups)
      groups

  -- each group holds a future, except the last one and the one at the place
  abbrev pub OthersHold : Groups (Bounded F S) → Type 0
  OthersHold g = (k : ℕ) (d : Bounded F S) → k + 1 < length g.listed → k ≢ g.place
      → 0 < held_in (slice_index_or g.listed k d)

  -- the groups fit a set with this limit, and hold `held` futures together
  pub record KeepsGroups
      (needs : S → ℕ → Type 0)
      (groups : Groups (Bounded F S))
      (limit held : ℕ)
      : Type 0 where
    pub place_within : groups.place ≤ length groups.listed
    pub some_names : 1 ≤ limit
    pub each : All (IsGroup limit) groups.listed
    pub alike : AllWaitAlike needs groups.listed
    pub others : OthersHold groups
    pub counted : held ≡ held_in_all groups.listed
    pub few : held ≤ MAX_HELD

  -- what every call keeps of a group: its number of slots, its limit, and the places where its source waits
  pub record SameKind (needs : S → ℕ → Type 0) (group left : Bounded F S) : Type 0 where
    pub same_slots : slot_count left.slots ≡ slot_count group.slots
    pub same_limit : left.limit ≡ group.limit
    pub waits : WaitsAlike needs group.source left.source

  -- what a poll keeps of its group: no value is added, a pending group holds a value, and a group that returned `None`
  -- holds none
  pub record KeepsGroup
      {A : Type 0}
      (needs : S → ℕ → Type 0)
      (group : Bounded F S)
      (answer : Poll (Option A))
      (left : Bounded F S)
      : Type 0 where
    pub fewer : held_in left ≤ held_in group
    pub pending_holds : OnPending answer (0 < held_in left)
    pub ended_is_empty : IfReady answer (λ o. IfNone o (held_in left ≡ 0))
    pub same_kind : SameKind needs group left

  -- an empty group of `cap` slots was added after all others; the place and the limit do not change
  pub record AddsGroup
      (made : ℕ → S → Type 0)
      (cap : ℕ)
      (old new : Growing F S)
      : Type 0 where
    pub group : Bounded F S
    pub is_new : IsNewSet made cap old.limit group
    pub listed : new.groups.listed ≡ old.groups.listed ++ group ∷ []
    pub same_place : new.groups.place ≡ old.groups.place
    pub same_limit : new.limit ≡ old.limit
