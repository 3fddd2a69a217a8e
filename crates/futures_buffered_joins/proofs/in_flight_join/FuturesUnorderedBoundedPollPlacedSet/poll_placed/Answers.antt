use Rattle.futures_buffered_joins.proofs.InFlightJoinLemmas.{output_came}
use Rattle.futures_buffered_joins.proofs.in_flight_join.FuturesUnorderedBoundedPollPlacedSet.poll_placed.Goals as goal

pub returns-in-Ready-Some : goal.returns-in-Ready-Some
returns-in-Ready-Some g c = output_came g.F.Future c.args.self.now _ c.in-Ready-Some.came _ _ (rw c.in-Ready-Some.field-0-is at c.in-Ready-Some.ensures)
