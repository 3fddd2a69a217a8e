use Rattle.std.proofs.Common.{◌≡◌}
use Rattle.futures_buffered_core_tests.proofs.list.takes_often.Given as goal

abbrev pub invariant-loop : goal.invariant-loop
invariant-loop l = (l.poll.list ≡ l.list.list) × (l.poll.list ≡ l.fn.poll.list)
