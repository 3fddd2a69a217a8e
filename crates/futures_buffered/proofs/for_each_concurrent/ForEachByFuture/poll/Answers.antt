use Rattle.futures_buffered.proofs.ForEachConcurrentLemmas.{polled_of}
use Rattle.futures_buffered.proofs.for_each_concurrent.ForEachByFuture.poll.Goals as goal

pub returns : goal.returns
returns g c = polled_of g.St.Stream g.F.FnMut g.Q.FutureQueue g.Q.LimitedQueue.limit _ _ _ _ _ c.poll_in_turns.ensures
