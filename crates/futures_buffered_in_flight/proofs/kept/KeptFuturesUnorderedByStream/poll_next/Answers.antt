use Rattle.futures_buffered_in_flight.proofs.InFlightLemmas.{stream_answers}
use Rattle.futures_buffered_in_flight.proofs.kept.KeptFuturesUnorderedByStream.poll_next.Goals as goal

pub returns : goal.returns
returns g c =
    let a = stream_answers g.F.Future (λ _. Unit {0}) c.args.self.now c.poll_next_keyed.new.self c.poll_next_keyed.result c.args.cx.now c.poll_next_keyed.new.cx tt c.poll_next_keyed.ensures in
    rw c.without_keys.ensures (record { value = a.value; rest = a.rest; goes = a.goes; again = a.again; same = a.same; registered = a.registered; kept = a.kept })
