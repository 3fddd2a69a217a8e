use Rattle.futures_buffered.proofs.BufferUnorderedLemmas.{push_adds}
use Rattle.futures_buffered.proofs.buffer_unordered.CompletionQueueFutureQueue.push.Goals as goal

pub returns-clause-adds : goal.returns-clause-adds
returns-clause-adds g c = rw (← c.self.view_is) (push_adds g.S.ReadySource.marks _ _ _ c.push.ensures.pushed g.F.SlotFuture.polled)
