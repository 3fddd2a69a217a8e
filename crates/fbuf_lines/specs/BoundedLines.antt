-- The reply to a command to a bounded set, and what the command makes of the set.
use Rattle.std.specs.Prelude.{◌≡◌, ℕ, ◌<◌, ◌≤◌, [], Option, ◌⊎◌, ⊤}
use Rattle.futures.specs.Task.{IsArmed, Keeps}
use Rattle.futures.specs.declared.task.Poll.{Poll as PollAnswer}
use Rattle.futures_buffered_table.specs.declared.answer.Woke.{Woke}
use Rattle.futures_buffered_core.specs.ReadyCore.{Standing, Marks, Takes}
use Rattle.futures_buffered_core.specs.ReadySource.{WaitsNowhere, only_takes}
use Rattle.futures_buffered_core.specs.declared.core_source.NoopWaker.{NoopWaker}
use Rattle.futures_buffered_core.specs.SlotMap.{no_slots, slot_count, held_count}
use Rattle.futures_buffered_unordered.specs.FuturesUnorderedBounded.{Bounded, Pushes}
use Rattle.futures_buffered_core.specs.declared.ready_source.ReadySource.{Ghosts as ReadySourceOf}
use Rattle.futures_buffered_unordered.specs.declared.poll_one.PollOne.{Ghosts as PollOneOf}
use Rattle.futures_buffered_unordered.specs.PollsBounded.{PollsBounded}
use Rattle.futures_buffered_unordered.specs.StreamAnswers.{OfSomeTask}
use Rattle.fbuf_lines.specs.ReadyAfter.{PollsReadyAfter}
use Rattle.fbuf_lines.specs.Reply.{woke_reply, poll_reply}
use Rattle.fbuf_lines.specs.declared.ready_after.PollReadyAfter.{PollReadyAfter}
use Rattle.fbuf_lines.specs.declared.ready_after.ReadyAfter.{ReadyAfter}
use Rattle.fbuf_lines.specs.declared.command.Command.{Command}
use Rattle.fbuf_lines.specs.declared.command.Command.TheVariants.{Push, Wake, Poll, Len}
use Rattle.fbuf_lines.specs.declared.reply.Reply.{Reply}
use Rattle.fbuf_lines.specs.declared.reply.Reply.TheVariants.{Done, Full, Count, Bad}

-- the bounded set of a script: the futures held, and the standing of a ready core
abbrev pub ScriptBounded : Type 0
ScriptBounded = Bounded ReadyAfter Standing

-- no slot is marked
abbrev pub new_standing : ℕ → Standing
new_standing capacity = record { capacity = capacity; marked = [] }

-- no future is held, each slot is free, and no slot is marked
abbrev pub new_bounded : ℕ → ℕ → ScriptBounded
new_bounded capacity limit = record { slots = no_slots capacity; source = new_standing capacity; limit = limit }

-- a ready core that was just made
abbrev pub IsNewStanding : ℕ → Standing → Type 0
IsNewStanding capacity standing = standing ≡ new_standing capacity

-- the rule that polls the futures of a script
abbrev pub script_rule : PollOneOf PollReadyAfter ReadyAfter NoopWaker ℕ
script_rule = record { can_poll = λ _. ⊤; polled = λ _. PollsReadyAfter; goes_on = λ _. ⊥ }

-- the ready core of a script as a source; a registration does not change its standing
abbrev pub script_source : ReadySourceOf Standing NoopWaker
script_source = record {
  slots = λ standing. standing.capacity;
  marks = Marks;
  steps = only_takes Takes;
  registers_poll = λ _ cx left. IsArmed left × Keeps cx left;
  needs = WaitsNowhere;
}

-- one poll of the set, of some task
abbrev pub PollsSet : ScriptBounded → PollAnswer (Option ℕ) → ScriptBounded → Type 0
PollsSet = OfSomeTask (PollsBounded script_rule script_source)

-- one mark of a slot of the set
pub record MarksSlotThere
    {F : Type 0}
    (old : Bounded F Standing)
    (slot : ℕ)
    (woke : Woke)
    (new : Bounded F Standing)
    : Type 0 where
  pub there : slot < slot_count old.slots
  pub marked : Marks old.source slot woke new.source
  pub slots : new.slots ≡ old.slots
  pub limit : new.limit ≡ old.limit

-- what each command makes of the set; any other command is `bad`
abbrev pub BoundedGives : ScriptBounded → Command → Reply → ScriptBounded → Type 0
BoundedGives old (Push future) reply new =
    ((reply ≡ Done) × Pushes Marks old future new)
    ⊎ ((reply ≡ Full) × (old.slots.free ≡ []) × (new ≡ old))
BoundedGives old (Wake slot) reply new =
    ((woke : Woke) × (reply ≡ woke_reply woke) × MarksSlotThere old slot woke new)
    ⊎ ((reply ≡ Bad) × (slot_count old.slots ≤ slot) × (new ≡ old))
BoundedGives old Poll reply new =
    (answer : PollAnswer (Option ℕ)) × (reply ≡ poll_reply answer) × PollsSet old answer new
BoundedGives old Len reply new = (reply ≡ Count (held_count old.slots)) × (new ≡ old)
BoundedGives old command reply new = (reply ≡ Bad) × (new ≡ old)
