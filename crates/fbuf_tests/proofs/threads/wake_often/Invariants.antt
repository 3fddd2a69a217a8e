use Rattle.std.proofs.Common.{◌≡◌}
use Rattle.fbuf_tests.proofs.threads.wake_often.Given as goal

abbrev pub invariant-loop-count : goal.invariant-loop-count
invariant-loop-count l = l.waker ≡ l._count
