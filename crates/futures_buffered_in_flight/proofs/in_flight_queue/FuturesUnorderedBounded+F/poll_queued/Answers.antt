use Rattle.futures_buffered_in_flight.proofs.InFlightQueueLemmas.{polled_without_key}
use Rattle.futures_buffered_in_flight.proofs.in_flight_queue.FuturesUnorderedBounded+F.poll_queued.Goals as goal

pub returns : goal.returns
returns g c = rw c.without_keys.ensures (polled_without_key g.F.Future c.args.self.now c.poll_next_keyed.new.self c.poll_next_keyed.result c.args.cx.now c.poll_next_keyed.new.cx c.requires c.poll_next_keyed.ensures)
