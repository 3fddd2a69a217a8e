use Rattle.futures_buffered_unordered.proofs.Common.{rules}
use Rattle.futures_buffered_unordered.proofs.futures_unordered_bounded.BoundedSet.over.Goals as goal

pub returns : goal.returns
returns g c = search rules steps 200000
