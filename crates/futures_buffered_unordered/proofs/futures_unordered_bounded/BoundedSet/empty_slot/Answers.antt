use Rattle.futures_buffered_unordered.proofs.Common.{rules}
use Rattle.futures_buffered_unordered.proofs.futures_unordered_bounded.BoundedSet.empty_slot.Goals as goal

pub returns-clause-emptied : goal.returns-clause-emptied
returns-clause-emptied g c = search rules
