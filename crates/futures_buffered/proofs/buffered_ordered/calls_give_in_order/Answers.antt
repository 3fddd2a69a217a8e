use Rattle.futures_buffered.proofs.BufferedOrderedAccountLemmas.{gives_in_order}
use Rattle.futures_buffered.proofs.buffered_ordered.calls_give_in_order.Goals as goal

pub returns : goal.returns
returns g c = gives_in_order g.St.Stream g.St.Item.SlotFuture g.S.ReadySource
