use Rattle.futures_buffered_in_flight.proofs.InFlightOrderedLemmas.{answers_in_turn}
use Rattle.futures_buffered_in_flight.proofs.in_flight_ordered_stream.FuturesOrderedByStream.TheImpl.Goals as goal

pub poll_next-tells : goal.poll_next-tells
poll_next-tells g x c =
    let answers = answers_in_turn g.F.Future _ _ _ _ _ c.ensures in
    record { value = answers.value; rest = answers.rest; goes = answers.goes; again = answers.again; same = answers.same; registered = answers.registered; kept = answers.kept }
