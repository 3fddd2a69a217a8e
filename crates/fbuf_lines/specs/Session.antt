-- The reply to a line of a script, and what the line makes of the target that was begun last.
use Rattle.std.specs.Prelude.{◌≡◌, ℕ, ◌<◌, ◌≤◌, List, Option, Some, MatchOption, ◌⊎◌}
use Rattle.futures_buffered_table.specs.declared.answer.TheConstants.{MAX_CAPACITY}
use Rattle.futures_buffered_table.specs.StepMachine.{Machine, IsNew}
use Rattle.futures_buffered_unordered.specs.declared.futures_unordered_bounded.TheConstants.{POLL_LIMIT}
use Rattle.futures_buffered_ordered.specs.FuturesOrderedBounded.{IsNewBoundedQueue}
use Rattle.futures_buffered_unordered.specs.FuturesUnordered.{IsNewGrowing}
use Rattle.fbuf_lines.specs.Command.{LineAsksFor}
use Rattle.fbuf_lines.specs.BoundedLines.{ScriptBounded, IsNewStanding, BoundedGives, new_bounded}
use Rattle.fbuf_lines.specs.OrderedLines.{ScriptOrdered, QueueGives, QueueMayLack}
use Rattle.fbuf_lines.specs.GrowingLines.{ScriptGrowing, GrowingGives, GrowingMayLack}
use Rattle.fbuf_lines.specs.MachineLines.{MachineGives}
use Rattle.fbuf_lines.specs.declared.command.Command.{Command}
use Rattle.fbuf_lines.specs.declared.command.Command.TheVariants.{Unordered, Ordered, Growing, Steps, Limit}
use Rattle.fbuf_lines.specs.declared.reply.Reply.{Reply}
use Rattle.fbuf_lines.specs.declared.reply.Reply.TheVariants.{Done, TooLarge, Bad}
use Rattle.fbuf_lines.specs.declared.session.Target.{Target}
use Rattle.fbuf_lines.specs.declared.session.Target.TheVariants as target

-- how far a script has come: the target that was begun last, and how many ready slots one poll takes at most, in sets
-- that are begun later
pub record ScriptSession : Type 0 where
  pub target : Target
  pub limit : ℕ

-- no target was begun yet, and no limit was chosen
abbrev pub first_session : ScriptSession
first_session = record { target = target.Nothing; limit = POLL_LIMIT }

-- A line begins a target: `is_new` says what a new target of a capacity and a limit is. If the capacity is too large,
-- nothing changes.
abbrev pub Begins : (ℕ → ℕ → Target → Type 0) → ScriptSession → ℕ → Reply → ScriptSession → Type 0
Begins is_new old capacity reply new =
    ((reply ≡ Done) × (capacity ≤ MAX_CAPACITY)
    × is_new capacity old.limit new.target × (new.limit ≡ old.limit))
    ⊎ ((reply ≡ TooLarge) × (MAX_CAPACITY < capacity) × (new ≡ old))

-- an empty bounded set
abbrev pub IsNewSet : ℕ → ℕ → Target → Type 0
IsNewSet capacity limit new = new ≡ target.Unordered (new_bounded capacity limit)

-- an empty ordered queue
abbrev pub IsNewQueue : ℕ → ℕ → Target → Type 0
IsNewQueue capacity limit new = (queue : ScriptOrdered)
    × IsNewBoundedQueue IsNewStanding capacity limit queue × (new ≡ target.Ordered queue)

-- an empty growing set, with one group of this capacity, or without a group if the capacity is 0
abbrev pub IsNewGrowingSet : ℕ → ℕ → Target → Type 0
IsNewGrowingSet capacity limit new = (set : ScriptGrowing)
    × IsNewGrowing IsNewStanding capacity limit set × (new ≡ target.Growing set)

-- a machine that has made no step; it has no limit
abbrev pub IsNewMachine : ℕ → ℕ → Target → Type 0
IsNewMachine capacity _ new = (machine : Machine) × IsNew capacity machine × (new ≡ target.Steps machine)

-- a line sets the limit, and does not change the target; 0 is no limit
abbrev pub SetsLimit : ScriptSession → ℕ → Reply → ScriptSession → Type 0
SetsLimit old limit reply new =
    ((reply ≡ Done) × (1 ≤ limit) × (new ≡ record old { limit = limit }))
    ⊎ ((reply ≡ Bad) × (limit ≡ 0) × (new ≡ old))

-- what a command makes of the target that was begun last; without a target each command is `bad`
abbrev pub TargetGives : Target → Command → Reply → Target → Type 0
TargetGives target.Nothing command reply new = (reply ≡ Bad) × (new ≡ target.Nothing)
TargetGives (target.Unordered old) command reply new =
    (set : ScriptBounded) × BoundedGives old command reply set × (new ≡ target.Unordered set)
TargetGives (target.Ordered old) command reply new =
    (queue : ScriptOrdered) × QueueGives old command reply queue × (new ≡ target.Ordered queue)
TargetGives (target.Growing old) command reply new =
    (set : ScriptGrowing) × GrowingGives old command reply set × (new ≡ target.Growing set)
TargetGives (target.Steps old) command reply new =
    (machine : Machine) × MachineGives old command reply machine × (new ≡ target.Steps machine)

-- what a command makes of a session: a target can be begun and a limit set at any time
abbrev pub CommandGives : ScriptSession → Command → Reply → ScriptSession → Type 0
CommandGives old (Unordered capacity) reply new = Begins IsNewSet old capacity reply new
CommandGives old (Ordered capacity) reply new = Begins IsNewQueue old capacity reply new
CommandGives old (Growing capacity) reply new = Begins IsNewGrowingSet old capacity reply new
CommandGives old (Steps capacity) reply new = Begins IsNewMachine old capacity reply new
CommandGives old (Limit limit) reply new = SetsLimit old limit reply new
CommandGives old command reply new = TargetGives old.target command reply new.target × (new.limit ≡ old.limit)

-- what one line makes of a session: the command that it asks for, or `bad`
abbrev pub LineGives : ScriptSession → List ℕ → Reply → ScriptSession → Type 0
LineGives old line reply new =
    (asked : Option Command)
    × LineAsksFor line asked
    × MatchOption asked ((reply ≡ Bad) × (new ≡ old))
    (λ command. CommandGives old command reply new)

-- an allocation may fail for a command that begins a target which is not too large, and for some pushes into a growing
-- set or an ordered queue
abbrev pub MayLackMemory : Target → Command → Type 0
MayLackMemory old (Unordered capacity) = capacity ≤ MAX_CAPACITY
MayLackMemory old (Ordered capacity) = capacity ≤ MAX_CAPACITY
MayLackMemory old (Growing capacity) = capacity ≤ MAX_CAPACITY
MayLackMemory old (Steps capacity) = capacity ≤ MAX_CAPACITY
MayLackMemory (target.Growing old) command = GrowingMayLack old command
MayLackMemory (target.Ordered old) command = QueueMayLack old command
MayLackMemory old command = ⊥

-- an allocation may fail for a line that asks for such a command
abbrev pub LineMayLackMemory : ScriptSession → List ℕ → Type 0
LineMayLackMemory old line = (command : Command) × LineAsksFor line (Some command) × MayLackMemory old.target command
