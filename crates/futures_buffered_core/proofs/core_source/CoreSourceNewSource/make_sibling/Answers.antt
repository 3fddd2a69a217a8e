use Rattle.futures_buffered_core.proofs.Common.{rules}
use Rattle.futures_buffered_core.proofs.core_source.CoreSourceNewSource.make_sibling.Goals as goal

pub returns-clause-source : goal.returns-clause-source
returns-clause-source c = search rules steps 200000
