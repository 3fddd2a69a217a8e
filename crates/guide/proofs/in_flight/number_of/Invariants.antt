use Rattle.futures_buffered.specs.InFlightOrdered.{CanPollOrdered}
use Rattle.guide.proofs.in_flight.number_of.Given as goal

abbrev pub invariant-digits : goal.invariant-digits
invariant-digits g l = CanPollOrdered g.F.Future l.queue
