-- The reply to a command to a growing set, and what the command makes of the set.
use Rattle.std.specs.Prelude.{◌≡◌, ◌⊎◌, ℕ, Option}
use Rattle.futures.specs.declared.task.Poll.{Poll as PollAnswer}
use Rattle.futures_buffered_core.specs.ReadyCore.{Standing, Marks}
use Rattle.futures_buffered_unordered.specs.FuturesUnordered.{Growing, GrowingPushes, IsAtBound, held_in_all}
use Rattle.futures_buffered_unordered.specs.FuturesUnordered.{spare_places}
use Rattle.futures_buffered_unordered.specs.PollsGrowing.{PollsGrowing}
use Rattle.futures_buffered_unordered.specs.StreamAnswers.{OfSomeTask}
use Rattle.futures_buffered_unordered.specs.declared.futures_unordered.TheConstants.{FIRST_GROUP, MAX_HELD}
use Rattle.fbuf_lines.specs.Reply.{poll_reply}
use Rattle.fbuf_lines.specs.BoundedLines.{IsNewStanding, script_rule, script_source}
use Rattle.fbuf_lines.specs.declared.ready_after.ReadyAfter.{ReadyAfter}
use Rattle.fbuf_lines.specs.declared.command.Command.{Command}
use Rattle.fbuf_lines.specs.declared.command.Command.TheVariants.{Push, Poll, Len}
use Rattle.fbuf_lines.specs.declared.reply.Reply.{Reply}
use Rattle.fbuf_lines.specs.declared.reply.Reply.TheVariants.{Done, Count, Bad}

-- the growing set of a script: its groups are bounded sets
abbrev pub ScriptGrowing : Type 0
ScriptGrowing = Growing ReadyAfter Standing

-- one poll of the set, of some task
abbrev pub PollsGrowingLine : ScriptGrowing → PollAnswer (Option ℕ) → ScriptGrowing → Type 0
PollsGrowingLine = OfSomeTask (PollsGrowing script_rule script_source)

-- one push into a growing set that is not at its bound
abbrev pub PushesGrowing : ScriptGrowing → ReadyAfter → ScriptGrowing → Type 0
PushesGrowing old future new = (IsAtBound old.groups.listed → ⊥)
    × GrowingPushes Marks IsNewStanding FIRST_GROUP old future new

-- what each command makes of the set; any other command is `bad`
abbrev pub GrowingGives : ScriptGrowing → Command → Reply → ScriptGrowing → Type 0
GrowingGives old (Push future) reply new = (reply ≡ Done) × PushesGrowing old future new
GrowingGives old Poll reply new =
    (answer : PollAnswer (Option ℕ)) × (reply ≡ poll_reply answer) × PollsGrowingLine old answer new
GrowingGives old Len reply new = (reply ≡ Count (held_in_all old.groups.listed)) × (new ≡ old)
GrowingGives old command reply new = (reply ≡ Bad) × (new ≡ old)

-- an allocation may fail for a push, if the set holds as many futures as a set may hold, or if its last group is full
abbrev pub GrowingMayLack : ScriptGrowing → Command → Type 0
GrowingMayLack old (Push future) = (held_in_all old.groups.listed ≡ MAX_HELD) ⊎ (spare_places old.groups.listed ≡ 0)
GrowingMayLack old command = ⊥
