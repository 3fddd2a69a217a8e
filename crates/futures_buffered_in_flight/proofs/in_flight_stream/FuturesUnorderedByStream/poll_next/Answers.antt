use Rattle.futures_buffered_in_flight.proofs.Common.{CanPollAll}
use Rattle.futures_buffered_in_flight.proofs.InFlightLemmas.{stream_answers}
use Rattle.futures_buffered_in_flight.proofs.in_flight_stream.FuturesUnorderedByStream.poll_next.Goals as goal

pub returns : goal.returns
returns g c =
    let a = stream_answers g.F.Future (CanPollAll g.F.Future) c.args.self.now c.poll_next_keyed.new.self c.poll_next_keyed.result c.args.cx.now c.poll_next_keyed.new.cx c.poll_next_keyed.ensures.again c.poll_next_keyed.ensures in
    rw c.without_keys.ensures (record { value = a.value; rest = a.rest; goes = a.goes; again = a.again; same = a.same; registered = a.registered; kept = a.kept })
