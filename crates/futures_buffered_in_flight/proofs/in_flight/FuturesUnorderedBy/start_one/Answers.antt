use Rattle.futures_buffered_in_flight.proofs.Common.{rules, refl}
use Rattle.futures_buffered_in_flight.proofs.InFlightLemmas.{dropped}
use Rattle.futures_buffered_in_flight.proofs.in_flight.FuturesUnorderedBy.start_one.Goals as goal

pub returns-else-contains : goal.returns-else-contains
returns-else-contains g c =
    let ended = c.end_cancelled.ensures in
    rw (← c.self.view_is) (dropped g.F.Future _
    (record { slots = c.self.inside.slots; running = c.self.inside.running; waiting = c.end_cancelled.new.self.waiting; cancelled = c.self.inside.cancelled; next = c.self.inside.next; ledger = c.self.inside.ledger })
    c.end_cancelled.new.self c.in-Some.value (rw (← c.self.view_is) at c.requires) (search rules) refl refl refl refl refl ended.rest.3 ended.rest.0 ended.rest.1 ended.fewer)
