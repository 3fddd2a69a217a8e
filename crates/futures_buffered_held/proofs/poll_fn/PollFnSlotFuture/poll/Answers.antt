use Rattle.futures_buffered_held.proofs.Common.{refl}
use denote.Param.Members.{was_Called}
use Rattle.futures_buffered_held.proofs.poll_fn.PollFnSlotFuture.poll.Goals as goal

-- the waker of the slot is the one that the closure is given
pub returns-clause-polled : goal.returns-clause-polled
returns-clause-polled g c slot wakes =
    (c.args.waker, wakes, was_Called g.C.FnMut _ _ _ _ _ _ c.call_mut.ensures.met c.self.view_is refl)
