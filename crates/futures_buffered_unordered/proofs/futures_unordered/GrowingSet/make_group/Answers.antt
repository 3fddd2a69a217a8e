use Rattle.futures_buffered_unordered.proofs.Common.{arith, common_steps}
use Rattle.futures_buffered_unordered.proofs.futures_unordered.GrowingSet.make_group.Goals as goal

pub invariant_of-self : goal.invariant_of-self
invariant_of-self g c = grind (arith, common_steps)

pub returns-clause-group : goal.returns-clause-group
returns-clause-group g c = grind (arith, common_steps)

pub returns-clause-same : goal.returns-clause-same
returns-clause-same g c = grind (arith, common_steps)
