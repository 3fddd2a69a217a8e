use Rattle.futures_buffered_in_flight.proofs.Common.{Starts}
use Rattle.futures_buffered_in_flight.proofs.in_flight.FuturesUnorderedBy.start_all.Given as goal

abbrev pub invariant-starts : goal.invariant-starts
invariant-starts g l = Starts g.F.Future l.fn.self l.self
