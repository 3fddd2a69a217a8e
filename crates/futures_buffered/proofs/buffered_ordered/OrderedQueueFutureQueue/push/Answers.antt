use Rattle.futures_buffered.proofs.BufferedOrderedLemmas.{push_adds}
use Rattle.futures_buffered.proofs.buffered_ordered.OrderedQueueFutureQueue.push.Goals as goal

pub returns-clause-adds : goal.returns-clause-adds
returns-clause-adds g c =
    rw (← c.self.view_is) (push_adds g.F.SlotFuture.polled g.S.ReadySource.marks _ _ _ c.len.ensures.each c.push_back.ensures.pushed)
