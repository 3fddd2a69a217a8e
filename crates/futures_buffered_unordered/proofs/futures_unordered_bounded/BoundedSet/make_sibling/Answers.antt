use Rattle.futures_buffered_unordered.proofs.Common.{arith, common_steps}
use Rattle.futures_buffered_unordered.proofs.futures_unordered_bounded.BoundedSet.make_sibling.Goals as goal

pub invariant_of-result : goal.invariant_of-result
invariant_of-result g c = grind (arith, common_steps)
