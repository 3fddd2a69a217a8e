-- The reply to a command to a machine of single steps, and what the command makes of the machine.
use Rattle.std.specs.Prelude.{◌≡◌, ◌⊎◌}
use Rattle.futures_buffered_table.specs.declared.step.Step.{Step as StepOf}
use Rattle.futures_buffered_table.specs.declared.step.Step.TheVariants as step
use Rattle.futures_buffered_table.specs.declared.step.StepReply.{StepReply}
use Rattle.futures_buffered_table.specs.StepMachine.{Machine, CanMake, MakesStep}
use Rattle.fbuf_lines.specs.Reply.{step_reply}
use Rattle.fbuf_lines.specs.declared.command.Command.{Command}
use Rattle.fbuf_lines.specs.declared.command.Command.TheVariants.{Mark, Go, Step}
use Rattle.fbuf_lines.specs.declared.reply.Reply.{Reply}
use Rattle.fbuf_lines.specs.declared.reply.Reply.TheVariants.{Stuck, Bad}

-- one step that the machine can make
abbrev pub RepliesToStep : Machine → StepOf → Reply → Machine → Type 0
RepliesToStep old step reply new = (answer : StepReply) × (reply ≡ step_reply answer) × MakesStep old step new answer

-- the machine made the step; or the step cannot be made, and nothing changed
abbrev pub StepGives : Machine → StepOf → Reply → Machine → Type 0
StepGives old step reply new =
    (CanMake old step × RepliesToStep old step reply new)
    ⊎ ((CanMake old step → ⊥) × (reply ≡ Stuck) × (new ≡ old))

-- what each command makes of the machine; any other command is `bad`
abbrev pub MachineGives : Machine → Command → Reply → Machine → Type 0
MachineGives old (Mark seat slot) reply new = StepGives old (step.Mark seat slot) reply new
MachineGives old (Go seat) reply new = StepGives old (step.Go seat) reply new
MachineGives old Step reply new = StepGives old step.Poll reply new
MachineGives old command reply new = (reply ≡ Bad) × (new ≡ old)
