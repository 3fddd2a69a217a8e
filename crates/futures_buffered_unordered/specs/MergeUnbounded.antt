-- One poll of a growing merge, what may come from it, and what its streams return over many polls. `Merging` has the
-- poll of a bounded merge.
use Rattle.std.specs.Prelude.{◌≡◌, ◌↔◌, ℕ, List, [], ◌∷◌, ◌++◌, map, Option, Some, None, ◌⊎◌}
use Rattle.std.specs.List.{FoldsTo, AllByRecursion}
use Rattle.futures.specs.declared.task.context.Context.{Context}
use Rattle.futures.specs.declared.task.Poll.{Poll}
use Rattle.futures.specs.declared.task.Poll.TheVariants.{Ready}
use Rattle.futures.specs.Poll.{OnPending}
use Rattle.futures.specs.Task.{Covers}
use Rattle.futures.specs.Runs.{Runs, ItemsWhere}
use Rattle.futures_buffered_core.specs.SlotMap.{Slots, value_in}
use Rattle.futures_buffered_core.specs.declared.ready_source.ReadySource.{Ghosts as ReadySourceOf}
use Rattle.futures_buffered_unordered.specs.FuturesUnorderedBounded.{Bounded}
use Rattle.futures_buffered_unordered.specs.Interleaves.{Interleaves}
use Rattle.futures_buffered_unordered.specs.Groups.{AnyOf}
use Rattle.futures_buffered_unordered.specs.FuturesUnordered.{AnyNeeds, Growing, GrowingPushes, held_in_all}
use Rattle.futures_buffered_unordered.specs.PollsBounded.{unless_registered}
use Rattle.futures_buffered_unordered.specs.PollsGrowing.{PollsGroups}
use Rattle.futures_buffered_unordered.specs.declared.futures_unordered.TheConstants.{FIRST_GROUP}
use Rattle.futures_buffered_unordered.specs.SlotStream.{items_in}
use Rattle.futures_buffered_unordered.specs.StreamAnswers.{OfSomeTask}
use Rattle.futures_buffered_unordered.specs.declared.slot_stream.SlotStream.{Ghosts as SlotStreamOf}
use Rattle.futures_buffered_unordered.specs.Merging.{PollsMergeBounded}
use Rattle.futures_buffered_unordered.specs.MergeBounded.{ComesFromStreams, Happens, SlotsGaveInTurn, MergeEvent}
use Rattle.futures_buffered_unordered.specs.MergeBounded.{answers_of, streams_of}

-- no slot holds a stream
abbrev pub HoldsNone : {F : Type 0} → Slots F → Type 0
HoldsNone m = (j : ℕ) → value_in m j ≡ None

module _ {F A S : Type 0} (polled : ℕ → F → Poll (Option A) → F → Type 0) where
  -- `x` may come from the streams that a group holds, at once or after other items
  abbrev pub GroupMayGive : Bounded F S → A → Type 0
  GroupMayGive group x = (items : List A) × ComesFromStreams polled group.slots items (Some x)

  -- what may come from the groups: items that each may come from one of the groups
  abbrev pub ItemsComeFromGroups : List (Bounded F S) → Runs A
  ItemsComeFromGroups groups = ItemsWhere (λ x. AnyOf (λ group. GroupMayGive group x) groups)

-- what the slots of each group hold
abbrev pub slots_of_each : {F S : Type 0} → List (Bounded F S) → List (Slots F)
slots_of_each {F} {S} groups = map (λ (group : Bounded F S). group.slots) groups

-- The items are all that the streams held at first and the pushed streams returned: the items of the first group,
-- interleaved with the items of the other groups. The pushed streams are interleaved in the same way. A group that is
-- no longer listed holds no stream.
abbrev pub GroupsGaveInTurn : {F A : Type 0} → (ℕ → F → Poll (Option A) → F → Type 0)
    → List (Slots F) → List A → List F → List (Slots F) → Type 0
GroupsGaveInTurn polled [] items streams new = (items ≡ []) × (streams ≡ []) × (new ≡ [])
GroupsGaveInTurn {F} {A} polled (group ∷ groups) items streams new = (left : Slots F)
    × (given : List A) × (into : List F)
    × SlotsGaveInTurn polled group given into left
    × (others : List A) × (elsewhere : List F) × (listed : List (Slots F))
    × GroupsGaveInTurn polled groups others elsewhere listed
    × Interleaves given others items
    × Interleaves into elsewhere streams
    × ((new ≡ left ∷ listed) ⊎ ((new ≡ listed) × HoldsNone left))

module _
    {St W A S : Type 0}
    (stream : SlotStreamOf St W A)
    (source : ReadySourceOf S W)
  where
    -- One poll of a growing merge, which takes the merge from `old` to `new` and the task from `cx` to `left`.
    pub record PollsMergeUnbounded
        (old : Growing St S)
        (answer : Poll (Option A))
        (new : Growing St S)
        (cx left : Context)
        : Type 0 where
      -- the poll of the merge is a poll of its groups, each polled as a bounded merge is
      pub groups : PollsGroups stream.can_poll
          (λ is_registered. PollsMergeBounded stream (unless_registered is_registered source)) source.needs
          old answer new cx left
      -- the poll returns `None` if and only if no stream is held after it
      pub ends : (answer ≡ Ready None) ↔ (held_in_all new.groups.listed ≡ 0)
      -- the task of a pending merge is registered for each group that holds a stream, or is woken
      pub registered : OnPending answer (Covers left (AnyNeeds source.needs new.groups.listed))

    -- after any polls, the items that they returned are all that the streams returned
    abbrev pub KeepsOrderInGroups : Type 0
    KeepsOrderInGroups = (old new : Growing St S) (answers : List (Poll (Option A)))
        → FoldsTo (OfSomeTask PollsMergeUnbounded) old answers new
        → GroupsGaveInTurn stream.polled
        (slots_of_each old.groups.listed) (items_in answers) [] (slots_of_each new.groups.listed)

    -- After any polls and pushes, the items that the polls returned are all that the streams held at first and the
    -- pushed streams returned. The groups that pushes made held no stream at first, and come after the other groups.
    abbrev pub KeepsOrderInGroupsWithPushes : (ℕ → S → Type 0) → Type 0
    KeepsOrderInGroupsWithPushes made = (old new : Growing St S) (events : List (MergeEvent St A))
        → FoldsTo (Happens PollsMergeUnbounded (GrowingPushes source.marks made FIRST_GROUP)) old events new
        → (added : List (Slots St)) × AllByRecursion HoldsNone added
        × GroupsGaveInTurn stream.polled (slots_of_each old.groups.listed ++ added)
        (items_in (answers_of events)) (streams_of events) (slots_of_each new.groups.listed)
