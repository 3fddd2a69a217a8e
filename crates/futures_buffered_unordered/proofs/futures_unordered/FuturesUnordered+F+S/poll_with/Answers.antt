use Rattle.futures_buffered_unordered.proofs.FuturesUnorderedStreamLemmas.{polls_growing}
use Rattle.futures_buffered_unordered.proofs.futures_unordered.FuturesUnordered+F+S.poll_with.Goals as goal

pub returns : goal.returns
returns g c = polls_growing g.R.PollOne g.S.ReadySource _ _ _ _ _ c.poll_groups.ensures
