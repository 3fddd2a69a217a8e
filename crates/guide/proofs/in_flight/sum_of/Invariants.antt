use Rattle.futures_buffered.specs.InFlight.{CanPollAll}
use Rattle.guide.proofs.in_flight.sum_of.Given as goal

abbrev pub invariant-outputs : goal.invariant-outputs
invariant-outputs g l = CanPollAll g.F.Future l.set
