use Rattle.futures_buffered_unordered.proofs.FuturesUnorderedStreamLemmas.{polls_growing}
use Rattle.futures_buffered_unordered.proofs.growing_stream.FuturesUnorderedStream.poll_next.Goals as goal

pub returns : goal.returns
returns g c = polls_growing _ g.S.ReadySource _ _ _ _ _ c.poll_groups.ensures
