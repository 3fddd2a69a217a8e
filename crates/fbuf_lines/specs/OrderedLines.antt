-- The reply to a command to an ordered queue, and what the command makes of the queue.
use Rattle.std.specs.Prelude.{◌≡◌, ℕ, ◌≤◌, length, Option, ◌⊎◌}
use Rattle.futures.specs.declared.task.Poll.{Poll as PollAnswer}
use Rattle.futures_buffered_table.specs.declared.answer.Woke.{Woke}
use Rattle.futures_buffered_core.specs.ReadyCore.{Standing, Marks}
use Rattle.futures_buffered_core.specs.SlotMap.{slot_count}
use Rattle.futures_buffered_unordered.specs.StreamAnswers.{OfSomeTask}
use Rattle.futures_buffered_ordered.specs.OrderedEntries.{AddsBack, AddsFront}
use Rattle.futures_buffered_ordered.specs.FuturesOrderedBounded.{OrderedBounded, PollsOrderedBounded}
use Rattle.futures_buffered_ordered.specs.FuturesOrderedBounded.{PushesNumber, QueueIsFull}
use Rattle.fbuf_lines.specs.Reply.{woke_reply, poll_reply}
use Rattle.fbuf_lines.specs.BoundedLines.{MarksSlotThere, script_rule, script_source}
use Rattle.fbuf_lines.specs.declared.ready_after.ReadyAfter.{ReadyAfter}
use Rattle.fbuf_lines.specs.declared.command.Command.{Command}
use Rattle.fbuf_lines.specs.declared.command.Command.TheVariants.{Back, Front, Wake, Poll, Len}
use Rattle.fbuf_lines.specs.declared.reply.Reply.{Reply}
use Rattle.fbuf_lines.specs.declared.reply.Reply.TheVariants.{Done, Full, Count, Bad}

-- the ordered queue of a script, over a bounded set of the script's futures; an output is a number
abbrev pub ScriptOrdered : Type 0
ScriptOrdered = OrderedBounded ReadyAfter ℕ Standing

-- a push into an ordered queue: the future was added, as `adds` says, or no slot is free
abbrev pub QueuePushGives : (ScriptOrdered → ReadyAfter → ScriptOrdered → Type 0)
    → ScriptOrdered → ReadyAfter → Reply → ScriptOrdered → Type 0
QueuePushGives adds old future reply new =
    ((reply ≡ Done) × (QueueIsFull old → ⊥) × adds old future new)
    ⊎ ((reply ≡ Full) × QueueIsFull old × (new ≡ old))

-- one poll of the queue, of some task
abbrev pub PollsOrderedLine : ScriptOrdered → PollAnswer (Option ℕ) → ScriptOrdered → Type 0
PollsOrderedLine = OfSomeTask (PollsOrderedBounded script_rule script_source)

-- one mark of a slot of the queue's set
abbrev pub MarksQueue : ScriptOrdered → ℕ → Woke → ScriptOrdered → Type 0
MarksQueue old slot woke new =
    MarksSlotThere old.set slot woke new.set × (new.entries ≡ old.entries) × (new.room ≡ old.room)

-- what each command makes of the queue; any other command is `bad`
abbrev pub QueueGives : ScriptOrdered → Command → Reply → ScriptOrdered → Type 0
QueueGives old (Back future) reply new = QueuePushGives (AddsBack (PushesNumber Marks)) old future reply new
QueueGives old (Front future) reply new = QueuePushGives (AddsFront (PushesNumber Marks)) old future reply new
QueueGives old (Wake slot) reply new =
    ((woke : Woke) × (reply ≡ woke_reply woke) × MarksQueue old slot woke new)
    ⊎ ((reply ≡ Bad) × (slot_count old.set.slots ≤ slot) × (new ≡ old))
QueueGives old Poll reply new =
    (answer : PollAnswer (Option ℕ)) × (reply ≡ poll_reply answer) × PollsOrderedLine old answer new
QueueGives old Len reply new = (reply ≡ Count (length old.entries)) × (new ≡ old)
QueueGives old command reply new = (reply ≡ Bad) × (new ≡ old)

-- an allocation may fail for a push if a slot is free, and there are at least as many entries as slots
abbrev pub PushMayLack : ScriptOrdered → Type 0
PushMayLack old = (QueueIsFull old → ⊥) × (slot_count old.set.slots ≤ length old.entries)

-- an allocation may fail for such a push alone
abbrev pub QueueMayLack : ScriptOrdered → Command → Type 0
QueueMayLack old (Back future) = PushMayLack old
QueueMayLack old (Front future) = PushMayLack old
QueueMayLack old command = ⊥
