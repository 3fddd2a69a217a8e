use Rattle.futures_buffered_core.proofs.ScriptSourceLemmas.{NamesAllBelow-rest}
use Rattle.futures_buffered_core.proofs.script_source.ScriptSourceReadySource.take.Goals as goal

pub invariant_of-self : goal.invariant_of-self
invariant_of-self c = NamesAllBelow-rest c.self.inside.capacity _ _ c.next.result c.self.invariant c.next.ensures.items
