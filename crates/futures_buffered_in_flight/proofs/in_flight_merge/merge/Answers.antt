use Rattle.futures_buffered_in_flight.proofs.in_flight_merge.merge.Goals as goal

pub returns-clause-holds : goal.returns-clause-holds
returns-clause-holds g c =
    let all = c.in_ok-merge.ensures.holds in
    let held = rw (← c.merge.view_is) at all.2 in
    (all.0, all.1, record { count = held.count; answers = held.answers; again = held.again })
