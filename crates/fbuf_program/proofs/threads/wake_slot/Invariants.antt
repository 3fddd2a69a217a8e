use Rattle.fbuf_program.proofs.Common.{◌≡◌}
use Rattle.fbuf_program.proofs.threads.wake_slot.Given as goal

abbrev pub invariant-loop-wake : goal.invariant-loop-wake
invariant-loop-wake g l = l.waker ≡ l.wake
