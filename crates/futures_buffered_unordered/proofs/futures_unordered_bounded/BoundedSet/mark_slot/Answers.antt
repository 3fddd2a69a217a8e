use Rattle.futures_buffered_unordered.proofs.Common.{rules}
use Rattle.futures_buffered_unordered.proofs.futures_unordered_bounded.BoundedSet.mark_slot.Goals as goal

pub returns-clause-marked : goal.returns-clause-marked
returns-clause-marked g c = search rules steps 200000
