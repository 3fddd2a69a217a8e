use Rattle.futures_buffered_ordered.proofs.FuturesOrderedBoundedLemmas.{takes_few_names}
use Rattle.futures_buffered_ordered.proofs.futures_ordered_bounded.polls_take_few_names.Goals as goal

pub returns : goal.returns
returns g c = takes_few_names g.R.PollOne g.S.ReadySource
