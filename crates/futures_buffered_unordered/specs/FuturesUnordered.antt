-- What a contract sees of a growing set, and what its calls make of it.
use Rattle.std.specs.Prelude.{◌≡◌, ℕ, ◌+◌, ◌-◌, ◌*◌, ◌<◌, List, [], ◌∷◌, ◌++◌, ◌⊎◌, refl, Result, OnOk, OnErr}
use Rattle.std.specs.List.{sum_by, All, FoldsTo}
use Rattle.std.specs.Coded.{Coded, code_by, coded×, coded_ℕ}
use Rattle.futures.specs.Task.{Covers}
use Rattle.futures.specs.Queued.{Gathers}
use Rattle.futures.specs.Runs.{Runs}
use Rattle.futures.specs.declared.task.context.Context.{Context}
use Rattle.futures.specs.declared.task.Poll.{Poll}
use Rattle.futures_buffered_core.specs.SlotMap.{slot_count}
use Rattle.futures_buffered_table.specs.declared.answer.TheConstants.{MAX_CAPACITY}
use Rattle.futures_buffered_table.specs.declared.answer.NewFault.{NewFault}
use Rattle.futures_buffered_table.specs.declared.answer.Woke.{Woke}
use Rattle.futures_buffered_core.specs.Drawn.{Items}
use Rattle.futures_buffered_core.specs.ReadyShared.{Shared, IsNewShared, MarksShared}
use Rattle.futures_buffered_unordered.specs.Extended.{MakesExtended, MakesGrown}
use Rattle.futures_buffered_unordered.specs.Held.{AllHeld, AnyMayGive}
use Rattle.futures_buffered_unordered.specs.FuturesUnorderedBounded.{Bounded, bounded_code, IsNewSet, PushesAt, held_in}
use Rattle.futures_buffered_unordered.specs.Groups.{Groups, groups_code, AnyOf}
use Rattle.futures_buffered_unordered.specs.declared.futures_unordered.TheConstants.{FIRST_GROUP, MAX_HELD}
use Rattle.futures_buffered_unordered.specs.declared.futures_unordered_bounded.TheConstants.{POLL_LIMIT}

-- the groups, the place at which the next poll begins, and how many ready slots one poll takes from each group at most
pub record Growing (F S : Type 0) : Type 0 where
  pub groups : Groups (Bounded F S)
  pub limit : ℕ

-- the code of a growing set, made of the codes of its parts
abbrev pub growing_code : {F S : Type 0} → Coded F → Coded S → Coded (Growing F S)
growing_code {F} {S} code source_code =
    code_by
    (Groups (Bounded F S) × ℕ)
    (coded× (groups_code (bounded_code code source_code)) coded_ℕ)
    (λ g. (g.groups, g.limit))
    (λ p. record { groups = p.0; limit = p.1 })
    (λ _. refl)

-- a set without groups, with this limit
abbrev pub no_groups : {F S : Type 0} → ℕ → Growing F S
no_groups limit = record { groups = record { listed = []; place = 0 }; limit = limit }

module _ {F S : Type 0} where
  -- how many futures all groups hold
  abbrev pub held_in_all : List (Bounded F S) → ℕ
  held_in_all groups = sum_by held_in groups

  -- P holds of each future in each group
  abbrev pub EachHeld : (F → Type 0) → List (Bounded F S) → Type 0
  EachHeld P groups = All (λ (group : Bounded F S). AllHeld P group.slots) groups

  -- the task is registered where each group waits, or is woken
  abbrev pub EachCovered : (S → ℕ → Type 0) → Context → List (Bounded F S) → Type 0
  EachCovered needs cx groups = All (λ (group : Bounded F S). Covers cx (needs group.source)) groups

  -- some group that holds a future waits at place n of a task's wakes
  abbrev pub AnyNeeds : (S → ℕ → Type 0) → List (Bounded F S) → ℕ → Type 0
  AnyNeeds needs groups n = AnyOf (λ (group : Bounded F S). (0 < held_in group) × needs group.source n) groups

  -- the number of free slots in the last group, into which a push goes; 0 without groups
  abbrev pub spare_places : List (Bounded F S) → ℕ
  spare_places [] = 0
  spare_places (group ∷ []) = slot_count group.slots - held_in group
  spare_places (group ∷ next ∷ groups) = spare_places (next ∷ groups)

  -- how many futures fit: 0 without groups; the slots of one group; of several, their futures and the last one's free
  -- slots
  abbrev pub capacity_of : List (Bounded F S) → ℕ
  capacity_of [] = 0
  capacity_of (group ∷ []) = slot_count group.slots
  capacity_of (group ∷ next ∷ groups) = held_in_all (group ∷ next ∷ groups) + spare_places (next ∷ groups)

  -- how many slots a new group after these has: twice as many as the last one, or `first` if there is none
  abbrev pub next_capacity : ℕ → List (Bounded F S) → ℕ
  next_capacity first [] = first
  next_capacity first (group ∷ []) = 2 * slot_count group.slots
  next_capacity first (group ∷ next ∷ groups) = next_capacity first (next ∷ groups)

  -- One push of a value.
  pub record GrowingPushes
      (marks : S → ℕ → Woke → S → Type 0)
      (made : ℕ → S → Type 0)
      (first : ℕ)
      (old : Growing F S)
      (value : F)
      (new : Growing F S)
      : Type 0 where
    -- the value goes into the last group if that has a free slot, and otherwise into a new group after all others
    pub before : List (Bounded F S)
    pub into : Bounded F S
    pub goes_into : ((old.groups.listed ≡ before ++ into ∷ [])
        × (held_in into < slot_count into.slots))
        ⊎ ((old.groups.listed ≡ before)
        × (spare_places before ≡ 0)
        × IsNewSet made (next_capacity first before) old.limit into)
    -- the value is put into the first free slot of that group, which is then marked
    pub pushed_into : Bounded F S
    pub pushed : (i : ℕ) × PushesAt marks into i value pushed_into
    -- the other groups, the place and the limit do not change
    pub now_listed : new.groups.listed ≡ before ++ pushed_into ∷ []
    pub same_place : new.groups.place ≡ old.groups.place
    pub same_limit : new.limit ≡ old.limit

  -- the groups take no more futures: they hold `MAX_HELD`, or the last one has no free slot and a new one would have
  -- more than `MAX_CAPACITY` slots
  abbrev pub IsAtBound : List (Bounded F S) → Type 0
  IsAtBound groups = (held_in_all groups ≡ MAX_HELD)
      ⊎ ((spare_places groups ≡ 0) × (MAX_CAPACITY < next_capacity FIRST_GROUP groups))

  -- these values were pushed, in order
  abbrev pub PushesEach : (S → ℕ → Woke → S → Type 0) → (ℕ → S → Type 0) → Growing F S → List F → Growing F S → Type 0
  PushesEach marks made = FoldsTo (GrowingPushes marks made FIRST_GROUP)

  -- the set takes no more futures
  abbrev pub SetRefuses : Growing F S → Type 0
  SetRefuses set = IsAtBound set.groups.listed

  -- a push may fail: the set holds `MAX_HELD` futures, or it has no free slot in its last group, so that the push
  -- allocates
  abbrev pub SetMayRefuse : Growing F S → Type 0
  SetMayRefuse set = (held_in_all set.groups.listed ≡ MAX_HELD) ⊎ (spare_places set.groups.listed ≡ 0)

  -- What a push makes of a growing set, by its result.
  pub record PushesOrStays
      {E : Type 0}
      (marks : S → ℕ → Woke → S → Type 0)
      (made : ℕ → S → Type 0)
      (old : Growing F S)
      (value : F)
      (result : Result (Unit {0}) E)
      (new : Growing F S)
      : Type 0 where
    -- if the push succeeds, the value is in the last group, which may be a new one
    pub pushed : OnOk result (GrowingPushes marks made FIRST_GROUP old value new)
    -- if the push succeeds, the set holds one value more
    pub count : OnOk result (held_in_all new.groups.listed ≡ held_in_all old.groups.listed + 1)
    -- if the push fails, the set does not change
    pub same : OnErr result (new ≡ old)
    -- if the push fails, the set held `MAX_HELD` values, or needed a new group
    pub may_refuse : OnErr result ((held_in_all old.groups.listed ≡ MAX_HELD) ⊎ (spare_places old.groups.listed ≡ 0))

  -- the set has one group of `n` slots, or none if `n` is 0
  abbrev pub IsNewGrowing : (ℕ → S → Type 0) → ℕ → ℕ → Growing F S → Type 0
  IsNewGrowing made n limit new = ((n ≡ 0) × (new ≡ no_groups limit))
      ⊎ ((0 < n)
      × ((group : Bounded F S)
      × IsNewSet made n limit group
      × (new ≡ record { groups = record { listed = group ∷ []; place = 0 }; limit = limit })))

-- the result of a constructor that pushes each item into a set without groups
abbrev pub MakesPushed : {U F I S : Type 0} → Items U F I → (Growing F S → F → Growing F S → Type 0)
    → ℕ → Result (Growing F S) NewFault → Type 0
MakesPushed from pushes limit = MakesExtended from pushes SetRefuses (no_groups limit)

-- the result of a constructor that makes a set over shared sources from items
abbrev pub MakesSharedSet : {U F I : Type 0} → Items U F I → Result (Growing F Shared) NewFault → Type 0
MakesSharedSet from = MakesGrown from FIRST_GROUP (λ n. IsNewGrowing IsNewShared n POLL_LIMIT)
    (GrowingPushes MarksShared IsNewShared FIRST_GROUP) SetRefuses

module _ {F A S : Type 0} (polled : ℕ → F → Poll A → F → Type 0) where
  -- some future in these groups may give x
  abbrev pub AnyGroupMayGive : List (Bounded F S) → A → Type 0
  AnyGroupMayGive groups x = AnyOf (λ (group : Bounded F S). AnyMayGive polled group.slots x) groups

  -- what the set yields: as many outputs as it holds futures, each from one of them, and then `None`
  abbrev pub ComesFromGroups : List (Bounded F S) → Runs A
  ComesFromGroups groups = Gathers (AnyGroupMayGive groups) (held_in_all groups)
