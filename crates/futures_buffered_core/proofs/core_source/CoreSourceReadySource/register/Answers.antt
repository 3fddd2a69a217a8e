use Rattle.futures_buffered_core.proofs.Common.{rules}
use Rattle.futures_buffered_core.proofs.core_source.CoreSourceReadySource.register.Goals as goal

pub returns-clause-covered : goal.returns-clause-covered
returns-clause-covered c = search rules steps 200000
