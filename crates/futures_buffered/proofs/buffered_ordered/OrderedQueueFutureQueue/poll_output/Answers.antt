use Rattle.futures_buffered.proofs.Common.{itself}
use Rattle.futures_buffered.proofs.BufferedOrderedLemmas.{polls_queue, still_fits}
use Rattle.futures_buffered.proofs.buffered_ordered.OrderedQueueFutureQueue.poll_output.Goals as goal

pub invariant_of-self : goal.invariant_of-self
invariant_of-self g c = still_fits (itself g.F.SlotFuture) g.S.ReadySource _ _ _ _ _ c.self.invariant c.poll_next.ensures

pub returns : goal.returns
returns g c = rw (← c.self.view_is) (polls_queue (itself g.F.SlotFuture) g.S.ReadySource _ _ _ _ _ c.self.invariant c.poll_next.ensures)
