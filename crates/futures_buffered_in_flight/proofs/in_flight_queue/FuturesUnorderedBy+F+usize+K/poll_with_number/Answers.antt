use Rattle.futures_buffered_in_flight.proofs.Common.{ℕ, Came}
use Rattle.futures_buffered_in_flight.proofs.InFlightQueueLemmas.{polled_part}
use Rattle.futures_buffered_in_flight.proofs.in_flight_queue.FuturesUnorderedBy+F+usize+K.poll_with_number.Goals as goal

pub returns-in-Ready-Some : goal.returns-in-Ready-Some
returns-in-Ready-Some g c = polled_part g.F.Future (λ (came : Came g.row.F-Output.Denot ℕ). (came.tag, came.output)) c.args.self.now c.poll_next_keyed.new.self c.in-Ready-Some.came c.args.cx.now c.poll_next_keyed.new.cx c.requires (rw c.in-Ready-Some.field-0-is at c.in-Ready-Some.ensures)
