use Rattle.futures_buffered.proofs.BufferLemmas.{gave_of, poll_of}
use Rattle.futures_buffered.proofs.buffer.BufferStream.poll_next.Goals as goal

pub returns : goal.returns
returns g c =
    rw (← c.self.view_is, rw c.is_some.ensures at c.after_poll.ensures) (poll_of g.St.Stream g.Q.FutureQueue _ _ _ _ _ _ _ _ c.in_default.ensures c.poll_output-polled.ensures)

pub returns-in-Some : goal.returns-in-Some
returns-in-Some g c = rw (← c.self.view_is) (gave_of g.St.Stream g.Q.FutureQueue _ _ _ _ _ c.in-Some.ensures)
