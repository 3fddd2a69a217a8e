use Rattle.futures_buffered_in_flight.proofs.InFlightOrderedLemmas.{answers, polled_keeps}
use Rattle.futures_buffered_in_flight.proofs.in_flight_ordered.FuturesOrderedBy.poll_output.Goals as goal

pub invariant_of-self : goal.invariant_of-self
invariant_of-self g c =
    let poll = c.poll_entries.ensures in
    polled_keeps g.F.Future g.K.Kind.GROWS c.self.inside.queue c.poll_entries.new.self c.poll_entries.result c.self.invariant c.args.cx.now c.poll_entries.new.cx poll.polls poll.numbered

pub returns : goal.returns
returns g c =
    let poll = c.poll_entries.ensures.polls in
    rw (← c.self.view_is)
    (answers g.F.Future g.K.Kind.GROWS c.self.inside.queue c.poll_entries.new.self c.poll_entries.result c.self.invariant c.args.cx.now c.poll_entries.new.cx
    (record { gave = poll.gave; queue = record { set = poll.queue.set; room = poll.queue.room; holds = poll.queue.holds; covered = poll.queue.covered; kept = poll.queue.kept; pollable = poll.queue.pollable } }) c.poll_entries.ensures.numbered)
