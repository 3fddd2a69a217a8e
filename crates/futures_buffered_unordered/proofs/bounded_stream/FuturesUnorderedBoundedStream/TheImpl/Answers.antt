use Rattle.futures_buffered_unordered.proofs.Common.{arith}
use Rattle.futures_buffered_unordered.proofs.PollsBoundedLemmas.{answers_as_stream}
use Rattle.futures_buffered_unordered.proofs.bounded_stream.FuturesUnorderedBoundedStream.TheImpl.Goals as goal

pub poll_next-tells : goal.poll_next-tells
poll_next-tells g x c =
    let answers = answers_as_stream _ g.S.ReadySource _ _ _ _ _ c.ensures in
    grind arith
