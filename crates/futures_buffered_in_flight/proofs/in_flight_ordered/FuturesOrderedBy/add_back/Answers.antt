use Rattle.futures_buffered_in_flight.proofs.Common.{rules, AddsBack, Chains, Leads, Ends}
use Rattle.futures_buffered_in_flight.proofs.InFlightOrderedLemmas.{enters_back, pushed}
use Rattle.futures_buffered_in_flight.proofs.in_flight_ordered.FuturesOrderedBy.add_back.Goals as goal

pub returns : goal.returns
returns g c =
    let old = c.self.inside.queue in
    let free = rw (← c.self.view_is) at c.is_at_bound.ensures.room in
    let fewer = free (search rules) in
    let push = c.add_back.ensures.push in
    rw (← c.self.view_is)
    (pushed g.F.Future g.K.Kind.GROWS AddsBack (λ gives runs. Chains runs (Leads gives Ends)) old c.args.future c.self.invariant c.add_back.new.self c.add_back.result fewer
    (enters_back g.F.Future g.K.Kind.GROWS old c.add_back.new.self c.args.future c.self.invariant.numbered) push.pushed push.back push.large c.add_back.ensures.again)
