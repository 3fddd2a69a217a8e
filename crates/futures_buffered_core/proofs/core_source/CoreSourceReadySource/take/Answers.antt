use Rattle.futures_buffered_core.proofs.Common.{rules}
use Rattle.futures_buffered_core.proofs.core_source.CoreSourceReadySource.take.Goals as goal

pub returns : goal.returns
returns c = search rules steps 200000
