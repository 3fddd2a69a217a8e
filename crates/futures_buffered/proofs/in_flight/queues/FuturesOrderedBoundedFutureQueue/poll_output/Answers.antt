use Rattle.futures_buffered.proofs.InFlightLemmas.{polls_queue_ordered}
use Rattle.futures_buffered.proofs.in_flight.queues.FuturesOrderedBoundedFutureQueue.poll_output.Goals as goal

pub returns : goal.returns
returns g c = polls_queue_ordered g.F.Future c.args.self.now c.poll_output.new.self c.poll_output.result c.args.cx.now c.poll_output.new.cx c.poll_output.ensures
