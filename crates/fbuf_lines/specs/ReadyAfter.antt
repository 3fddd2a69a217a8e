-- One poll of the future of a script.
use Rattle.std.specs.Prelude.{◌≡◌, ℕ, ◌-◌, ◌<◌}
use Rattle.futures.specs.declared.task.Poll.{Poll}
use Rattle.futures.specs.declared.task.Poll.TheVariants.{Ready, Pending}
use Rattle.fbuf_lines.specs.declared.ready_after.ReadyAfter.{ReadyAfter}

-- a pending poll leaves one pending poll less; once none is left, a poll is ready with the value
abbrev pub PollsReadyAfter : ReadyAfter → Poll ℕ → ReadyAfter → Type 0
PollsReadyAfter old Pending new = (0 < old.pending) × (new ≡ record { value = old.value; pending = old.pending - 1 })
PollsReadyAfter old (Ready x) new = (old.pending ≡ 0) × (x ≡ old.value) × (new ≡ old)
