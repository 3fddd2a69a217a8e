use Rattle.futures_buffered_ordered.proofs.Common.{arith}
use Rattle.futures_buffered_ordered.proofs.OrderedStreamLemmas.{queue_stream}
use Rattle.futures_buffered_ordered.proofs.numbered_queue.NumberedQueueStream.TheImpl.Goals as goal

pub poll_next-tells : goal.poll_next-tells
poll_next-tells g x c =
    let set = g.Q.NumberedSet in
    let law = g.met.Q.StreamedSet in
    let answers = queue_stream set.count set.keeps g.Q.NumberedPolls g.Q.StreamedSet.may_give law.came law.narrows _ _ _ _ _ c.ensures in
    grind arith
