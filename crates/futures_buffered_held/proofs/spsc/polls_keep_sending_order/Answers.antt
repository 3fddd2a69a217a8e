use Rattle.futures_buffered_held.proofs.SpscLemmas.{keeps_sending_order}
use Rattle.futures_buffered_held.proofs.spsc.polls_keep_sending_order.Goals as goal

pub returns : goal.returns
returns g c = keeps_sending_order g.P.Protocol.allows
