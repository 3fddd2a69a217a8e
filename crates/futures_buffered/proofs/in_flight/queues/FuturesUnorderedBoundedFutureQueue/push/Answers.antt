use Rattle.futures_buffered.proofs.InFlightLemmas.{push_adds}
use Rattle.futures_buffered.proofs.in_flight.queues.FuturesUnorderedBoundedFutureQueue.push.Goals as goal

pub returns-clause-adds : goal.returns-clause-adds
returns-clause-adds g c = push_adds g.F.Future c.args.self.now c.push_queued.new.self c.args.future tt c.push_queued.ensures
