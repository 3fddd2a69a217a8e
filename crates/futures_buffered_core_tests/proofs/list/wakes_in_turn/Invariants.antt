use Rattle.std.proofs.Common.{◌≡◌}
use Rattle.futures_buffered_core_tests.proofs.list.wakes_in_turn.Given as goal

abbrev pub invariant-loop-wake : goal.invariant-loop-wake
invariant-loop-wake l = (l.seat.list ≡ l.list.list) × (l.seat.list ≡ l.fn.seat.list)
