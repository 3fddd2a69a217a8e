-- One poll of the streams that a set holds, of which a merge is made.
use Rattle.std.specs.Prelude.{◌≡◌, ℕ, ◌<◌, ◌≤◌, Bool, IsTrue, List, Option, Some, None, IsSome, IfNone, OnSome}
use Rattle.std.specs.List.{FoldsTo}
use Rattle.futures.specs.Poll.{IfReady, OnPending}
use Rattle.futures.specs.Task.{Covers, Keeps}
use Rattle.futures.specs.declared.task.context.Context.{Context}
use Rattle.futures.specs.declared.task.Poll.{Poll}
use Rattle.futures.specs.declared.task.Poll.TheVariants.{Ready, Pending}
use Rattle.futures_buffered_core.specs.SlotMap.{slot_count, with_slot_freed}
use Rattle.futures_buffered_table.specs.declared.answer.Woke.{Woke}
pub use Rattle.futures_buffered_unordered.specs.declared.slot_stream.SlotStream.{Ghosts as SlotStreamOf}
use Rattle.futures_buffered_unordered.specs.declared.slot_stream.PollStream.{PollStream}
use Rattle.futures_buffered_unordered.specs.FuturesUnorderedBounded.{Bounded, held_in}
use Rattle.futures_buffered_unordered.specs.Held.{AllHeld}
use Rattle.futures_buffered_unordered.specs.PollsBounded.{PollOneOf, ReadySourceOf, RegistersAndTakes}

-- the rule that polls each stream itself, which continues after an item
abbrev pub each_stream : {St W A : Type 0} → SlotStreamOf St W A → PollOneOf PollStream St W (Option A)
each_stream stream = record {
  can_poll = stream.can_poll;
  polled = stream.polled;
  goes_on = λ o. IsSome o;
}

module _
    {St W A S : Type 0}
    (stream : SlotStreamOf St W A)
    (source : ReadySourceOf S W)
  where
    -- What a call that polls the streams of a set requires of them and of its task. `is_registered` says that the task
    -- is registered already.
    pub record CanAsk (set : Bounded St S) (cx : Context) (is_registered : Bool) : Type 0 where
      -- each stream that is held may be polled
      pub held : AllHeld stream.can_poll set.slots
      -- if the task is registered already, it is registered for the source
      pub registered : IsTrue is_registered → Covers cx (source.needs set.source)

    -- One round, in which the stream of slot `i` returns `None`: that stream is dropped, and slot `i` is the first free
    -- one. The round takes the merge from `old` to `new` and the task from `cx` to `left`.
    abbrev pub RoundEnds : Bounded St S × Context → ℕ → Bounded St S × Context → Type 0
    RoundEnds (old, cx) i (new, left) = (0 < held_in old)
        × ((before : Bounded St S)
        × RegistersAndTakes (each_stream stream) source old (Ready (i, None)) before cx left
        × (new ≡ record before { slots = with_slot_freed before.slots i }))

    -- The last round, by the result of the poll. An item: its stream stays as the poll left it, and its slot is marked.
    -- Pending: no polled stream returned an item or `None`. `None`: no stream is held, and neither the merge nor the
    -- task changes.
    abbrev pub LastRound : Bounded St S → Poll (Option A) → Bounded St S → Context → Context → Type 0
    LastRound old (Ready (Some x)) new cx left = (0 < held_in old)
        × ((i : ℕ) × (before : Bounded St S)
        × RegistersAndTakes (each_stream stream) source old (Ready (i, Some x)) before cx left
        × ((woke : Woke) × source.marks before.source i woke new.source)
        × (new ≡ record before { source = new.source }))
    LastRound old Pending new cx left =
        (0 < held_in old) × RegistersAndTakes (each_stream stream) source old Pending new cx left
    LastRound old (Ready None) new cx left = (held_in old ≡ 0) × (new ≡ old) × (left ≡ cx)

    -- One poll of a merge, which takes the merge from `old` to `new` and the task from `cx` to `left`. A clause gives
    -- streams and source by the ghost members of their types: `St.SlotStream S.ReadySource`.
    pub record PollsMergeBounded
        (old : Bounded St S)
        (answer : Poll (Option A))
        (new : Bounded St S)
        (cx left : Context)
        : Type 0 where
      -- the poll makes rounds that each end the stream of one of these slots, and then the last round
      pub ended : List ℕ
      pub before : Bounded St S
      pub task_then : Context
      pub rounds : FoldsTo RoundEnds (old, cx) ended (before, task_then)
      pub last_round : LastRound before answer new task_then left
      -- no stream is added; after an item and if the poll is pending, at least one is held; after `None`, none is held
      pub fewer : held_in new ≤ held_in old
      pub item : IfReady answer (λ o. OnSome o (0 < held_in new))
      pub pending : OnPending answer (0 < held_in new)
      pub ends : IfReady answer (λ o. IfNone o (held_in new ≡ 0))
      -- the number of slots and the limit do not change
      pub capacity : slot_count new.slots ≡ slot_count old.slots
      pub limit : new.limit ≡ old.limit
      -- the task of a pending merge is registered where its source waits, or is woken
      pub covered : OnPending answer (Covers left (source.needs new.source))
      -- the task keeps each earlier registration and wake
      pub kept : Keeps cx left
      -- each stream that is held may be polled again
      pub pollable : AllHeld stream.can_poll new.slots
