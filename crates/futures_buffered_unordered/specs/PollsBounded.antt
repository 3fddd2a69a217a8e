-- What one poll of a bounded set makes of the set and of the task that polls it. A clause names the rule and the source
-- by the ghost members of their types: `R.PollOne S.ReadySource`, or `(itself F.SlotFuture) S.ReadySource` if each
-- future is polled itself.
use Rattle.std.specs.Prelude.{◌≡◌, ◌≢◌, ℕ, ◌+◌, ◌<◌, Bool, cond, List, ◌++◌, map, length, Option, Some, None}
use Rattle.std.specs.Prelude.{IfSome, OnSome, is_some}
use Rattle.std.specs.List.{FoldsTo}
use Rattle.std.specs.Option.{option_to_list}
use Rattle.futures.specs.Task.{Covers, Keeps}
use Rattle.futures.specs.Poll.{IfReady, OnPending}
use Rattle.futures.specs.declared.task.context.Context.{Context}
use Rattle.futures.specs.declared.task.Poll.{Poll}
use Rattle.futures.specs.declared.task.Poll.TheVariants.{Ready, Pending}
use Rattle.futures_buffered_table.specs.declared.answer.Taken.{Taken}
use Rattle.futures_buffered_table.specs.declared.answer.Taken.TheVariants.{Slot, Empty, Pause}
pub use Rattle.futures_buffered_core.specs.declared.ready_source.ReadySource.{Ghosts as ReadySourceOf}
use Rattle.futures_buffered_core.specs.SlotMap.{Slots, slot_count, value_in, with_slot_freed}
use Rattle.futures_buffered_unordered.specs.declared.poll_one.PollFuture.{PollFuture}
pub use Rattle.futures_buffered_unordered.specs.declared.poll_one.PollOne.{Ghosts as PollOneOf}
pub use Rattle.futures_buffered_unordered.specs.declared.slot_future.SlotFuture.{Ghosts as SlotFutureOf}
use Rattle.futures_buffered_unordered.specs.Held.{AllHeld, Passes, Yields}
use Rattle.futures_buffered_unordered.specs.FuturesUnorderedBounded.{Bounded, IsWoken, held_in}

-- the rule that polls each future itself
abbrev pub itself : {F W A : Type 0} → SlotFutureOf F W A → PollOneOf PollFuture F W A
itself future = record {
  can_poll = future.can_poll;
  polled = future.polled;
  goes_on = λ _. ⊥;
}

-- the source, for a poll that registers nothing if the task is registered already
abbrev pub unless_registered : {S W : Type 0} → Bool → ReadySourceOf S W → ReadySourceOf S W
unless_registered is_registered source = record source {
  steps = record {
    registers = λ old new. cond is_registered (new ≡ old) (source.steps.registers old new);
    takes = source.steps.takes;
  };
  registers_poll = λ s cx left. cond is_registered (left ≡ cx) (source.registers_poll s cx left);
}

-- How a poll without an output ends, after `count` ready slots. At Empty: no ready slot is left, and the task is as the
-- registration left it. At Pause or at the limit: a ready slot may be left, and the task is woken.
abbrev pub EndsPending : ℕ → ℕ → Option Taken → Context → Context → Type 0
EndsPending limit count (Some Empty) cx left = (count < limit) × (left ≡ cx)
EndsPending limit count (Some Pause) cx left = (count < limit) × IsWoken left
EndsPending limit count (Some (Slot i)) cx left = ⊥
EndsPending limit count None cx left = (count ≡ limit) × IsWoken left

module _
    {R F W A S : Type 0}
    (rule : PollOneOf R F W A)
    (source : ReadySourceOf S W)
  where
    -- each value may be polled, and the task is registered where the source waits, or is woken
    pub record CanPollRegistered (old : Bounded F S) (cx : Context) : Type 0 where
      pub held : AllHeld rule.can_poll old.slots
      pub registered : Covers cx (source.needs old.source)

    -- How one round ends, by its result, after `count` ready slots. `Ready`: the value of one more slot gave an output,
    -- and the task is as the registration left it. `Pending`: no value gave one, and `EndsPending` says what holds of
    -- the task.
    abbrev pub NamesEnd : ℕ → ℕ → Option Taken → Slots F → Poll (ℕ × A) → Slots F → Context → Context → Type 0
    NamesEnd limit count last passed (Ready (i, x)) new cx left = (count < limit)
        × (last ≡ Some (Slot i)) × Yields rule.polled passed i x new × (left ≡ cx)
    NamesEnd limit count last passed Pending new cx left = (new ≡ passed) × EndsPending limit count last cx left

    -- One round, of a set whose task is registered. The set takes ready slots and polls their values, until one is
    -- ready, the source returns no further slot, or the limit is reached. The round takes the set from `old` to `new`
    -- and the task from `cx` to `left`. No slot is emptied.
    pub record TakesNames
        (old : Bounded F S)
        (answer : Poll (ℕ × A))
        (new : Bounded F S)
        (cx left : Context)
        : Type 0 where
      -- the source returned these ready slots, and one last result if it was called once more
      pub names : List ℕ
      pub last : Option Taken
      pub came : FoldsTo source.steps.takes old.source (map Slot names ++ option_to_list last) new.source
      -- these slots were passed, in order, which left `passed`
      pub passed : Slots F
      pub passes : FoldsTo (Passes rule.polled) old.slots names passed
      -- what the last result makes of `passed` and of the task
      pub ends : NamesEnd old.limit (length names) last passed answer new.slots cx left
      -- each slot holds a value if and only if it held one before; the number of slots and the limit do not change
      pub count : held_in new ≡ held_in old
      pub same_slots : (j : ℕ) → is_some (value_in new.slots j) ≡ is_some (value_in old.slots j)
      pub capacity : slot_count new.slots ≡ slot_count old.slots
      pub limit : new.limit ≡ old.limit
      -- the task is registered where the source waits, or is woken
      pub covered : Covers left (source.needs new.source)
      -- the task keeps each earlier registration and wake
      pub kept : Keeps cx left
      -- after Pending each value may be polled again; after an output, each except the value that gave it
      pub pollable : OnPending answer (AllHeld rule.can_poll new.slots)
      pub others : IfReady answer (λ p. (j : ℕ) → j ≢ p.0 → IfSome (value_in new.slots j) rule.can_poll)
      -- that value may also be polled again, if `goes_on` holds of the output
      pub continues : IfReady answer (λ p. rule.goes_on p.1 → AllHeld rule.can_poll new.slots)

    -- The task registers, and then one round follows.
    pub record RegistersAndTakes
        (old : Bounded F S)
        (answer : Poll (ℕ × A))
        (new : Bounded F S)
        (cx left : Context)
        : Type 0 where
      -- what the registration makes of the source and of the task
      pub source_then : S
      pub task_then : Context
      pub registers : source.steps.registers old.source source_then
      pub registers_task : source.registers_poll old.source cx task_then
      -- the round begins with this source and this task
      pub takes : TakesNames (record old { source = source_then }) answer new task_then left
      -- the task keeps each earlier registration and wake
      pub kept : Keeps cx left

    -- How a poll ends, by its result. `None`: the set is empty, and neither the set nor the task changes. In the other
    -- cases the task registers, and one round follows. `Some`: the slot of the output is emptied. `Pending`: no polled
    -- value was ready.
    abbrev pub Gives : Bounded F S → Poll (Option A) → Bounded F S → Context → Context → Type 0
    Gives old (Ready None) new cx left = (held_in old ≡ 0) × (new ≡ old) × (left ≡ cx)
    Gives old (Ready (Some x)) new cx left = (0 < held_in old)
        × ((i : ℕ) × (before : Bounded F S)
        × RegistersAndTakes old (Ready (i, x)) before cx left
        × (new ≡ record before { slots = with_slot_freed before.slots i }))
    Gives old Pending new cx left = (0 < held_in old) × RegistersAndTakes old Pending new cx left

    -- One poll, which takes the set from `old` to `new` and the task from `cx` to `left`.
    pub record PollsBounded
        (old : Bounded F S)
        (answer : Poll (Option A))
        (new : Bounded F S)
        (cx left : Context)
        : Type 0 where
      -- the result, and whether the task is woken
      pub gave : Gives old answer new cx left
      -- an output leaves one value fewer, and a pending poll leaves as many
      pub fewer : IfReady answer (λ o. OnSome o (held_in new + 1 ≡ held_in old))
      pub same : OnPending answer (held_in new ≡ held_in old)
      -- the number of slots and the limit do not change
      pub capacity : slot_count new.slots ≡ slot_count old.slots
      pub limit : new.limit ≡ old.limit
      -- the task of a pending set is registered where its source waits, or is woken
      pub covered : OnPending answer (Covers left (source.needs new.source))
      -- the task keeps each earlier registration and wake
      pub kept : Keeps cx left
      -- each value in the set may be polled again
      pub pollable : AllHeld rule.can_poll new.slots
