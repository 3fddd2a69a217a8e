use Rattle.futures_buffered_in_flight.proofs.InFlightMergeLemmas.{polled_as}
use Rattle.futures_buffered_in_flight.proofs.in_flight_merge.MergeBoundedStream.TheImpl.Goals as goal

pub poll_next-tells : goal.poll_next-tells
poll_next-tells g x c =
    let answers = polled_as g.St.Stream _ _ _ _ _ c.ensures in
    record { value = answers.value; rest = answers.rest; goes = answers.goes; again = answers.again; same = answers.same; registered = answers.registered; kept = answers.kept }
