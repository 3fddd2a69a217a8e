use Rattle.futures_buffered_unordered.proofs.Common.{arith}
use Rattle.futures_buffered_unordered.proofs.MergeStreamLemmas.{growing_answers}
use Rattle.futures_buffered_unordered.proofs.merge_unbounded.MergeUnboundedStream.TheImpl.Goals as goal

pub poll_next-tells : goal.poll_next-tells
poll_next-tells g x c =
    let answers = growing_answers g.St.SlotStream g.S.ReadySource _ _ _ _ _ c.ensures in
    grind arith
