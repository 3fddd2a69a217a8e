use Rattle.futures_buffered.proofs.Common.{◌-◌}
use Rattle.futures_buffered.proofs.BufferLemmas.{Filling}
use Rattle.futures_buffered.proofs.buffer.fill.Given as goal

abbrev pub invariant-draws : goal.invariant-draws
invariant-draws g l = Filling g.St.Stream g.Q.FutureQueue (record { stream = l.fn.stream; queue = l.fn.queue }) (record { stream = l.stream; queue = l.queue }) l.fn.cx l.cx

abbrev pub decreases-draws : goal.decreases-draws
decreases-draws g l = g.Q.FutureQueue.room l.queue - g.Q.FutureQueue.count l.queue
