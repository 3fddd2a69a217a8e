use Rattle.futures_buffered_unordered.proofs.GroupsLemmas.{asks_each_once}
use Rattle.futures_buffered_unordered.proofs.futures_unordered.polls_ask_each_group_once.Goals as goal

pub returns : goal.returns
returns g c = asks_each_once g.R.AskGroup.asks
