use Rattle.futures_buffered_unordered.proofs.Common.{arith}
use Rattle.futures_buffered_unordered.proofs.MergeStreamLemmas.{bounded_answers}
use Rattle.futures_buffered_unordered.proofs.merge_bounded.MergeBoundedStream.TheImpl.Goals as goal

pub poll_next-tells : goal.poll_next-tells
poll_next-tells g x c =
    let answers = bounded_answers g.St.SlotStream g.S.ReadySource _ _ _ _ _ c.ensures in
    grind arith
