use Rattle.futures_buffered_in_flight.proofs.Common.{rules, Leads, AddsFront}
use Rattle.futures_buffered_in_flight.proofs.InFlightOrderedLemmas.{enters_front, pushed}
use Rattle.futures_buffered_in_flight.proofs.in_flight_ordered.FuturesOrderedBy.add_front.Goals as goal

pub returns : goal.returns
returns g c =
    let old = c.self.inside.queue in
    let free = rw (← c.self.view_is) at c.is_at_bound.ensures.room in
    let fewer = free (search rules) in
    let push = c.add_front.ensures.push in
    rw (← c.self.view_is)
    (pushed g.F.Future g.K.Kind.GROWS AddsFront Leads old c.args.future c.self.invariant c.add_front.new.self c.add_front.result fewer
    (enters_front g.F.Future g.K.Kind.GROWS old c.add_front.new.self c.args.future c.self.invariant.numbered) push.pushed push.back push.large c.add_front.ensures.again)
