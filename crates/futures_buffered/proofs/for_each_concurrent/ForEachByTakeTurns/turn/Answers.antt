use Rattle.futures_buffered.proofs.Common.{sym}
use Rattle.futures_buffered.proofs.ForEachConcurrentLemmas.{turn_of}
use Rattle.futures_buffered.proofs.for_each_concurrent.ForEachByTakeTurns.turn.Goals as goal

pub returns : goal.returns
returns g c =
    let drew = c.draw-drew.ensures in
    let poll = c.poll_output-polled.ensures in
    turn_of g.St.Stream g.F.FnMut g.Q.FutureQueue g.Q.LimitedQueue.limit _ _ _ _ _ _ _ _ _ _ _ _ _ (sym c.self.view_is) drew.drew.1 drew.drew.2 drew.again drew.same drew.room drew.limit drew.task poll (g.met.Q.LimitedQueue.poll_keeps _ _ _ _ _ poll.polled) (rw c.is_some.ensures at c.after_turn.ensures)
