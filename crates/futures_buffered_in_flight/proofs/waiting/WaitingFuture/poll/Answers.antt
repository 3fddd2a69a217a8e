use Rattle.futures_buffered_in_flight.proofs.Common.{◌≡◌, Some, rules}
use Rattle.futures_buffered_in_flight.proofs.waiting.WaitingFuture.poll.Goals as goal

pub returns-in_default-poll_next_output-clause-same : goal.returns-in_default-poll_next_output-clause-same
returns-in_default-poll_next_output-clause-same g c =
    let same : c.args.self.now.held ≡ Some c.in-Some.polled = search rules in
    λ given came. rw same (c.in_default-poll_next_output.ensures.until given.0 given.1 came)

pub returns-clause-value : goal.returns-clause-value
returns-clause-value g c =
    let same : c.args.self.now.held ≡ Some c.in-Some.polled = search rules in
    let back : c.unwrap.result ≡ c.poll_next_output.new.self = search rules in
    rw same (rw back c.in-Ready.ensures.until)
