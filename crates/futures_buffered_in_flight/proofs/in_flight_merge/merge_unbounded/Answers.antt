use Rattle.futures_buffered_in_flight.proofs.InFlightMergeLemmas.{holds_all}
use Rattle.futures_buffered_in_flight.proofs.in_flight_merge.merge_unbounded.Goals as goal

pub returns-in-Ok-clause-holds : goal.returns-in-Ok-clause-holds
returns-in-Ok-clause-holds g c =
    let all = c.in-Ok.ensures.extends.all in
    (all.0, all.1, holds_all g.St.Stream _ _ _ all.0 c.growing-merge.ensures.new c.growing-merge.ensures.can_poll all.2)
