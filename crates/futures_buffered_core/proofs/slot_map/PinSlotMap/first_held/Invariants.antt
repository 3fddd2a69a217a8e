use Rattle.futures_buffered_core.proofs.Common.{◌≡◌, ◌<◌, ◌≤◌, ℕ, None, value_in}
use Rattle.futures_buffered_core.proofs.slot_map.PinSlotMap.first_held.Given as goal

abbrev pub invariant-loop-i : goal.invariant-loop-i
invariant-loop-i g l = (q : ℕ) → l.fn.from ≤ q → q < l.i → value_in l.self q ≡ None
