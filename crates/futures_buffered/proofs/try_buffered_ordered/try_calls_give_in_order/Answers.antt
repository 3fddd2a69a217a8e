use Rattle.futures_buffered.proofs.BufferedOrderedAccountLemmas.{try_gives_in_order}
use Rattle.futures_buffered.proofs.try_buffered_ordered.try_calls_give_in_order.Goals as goal

pub returns : goal.returns
returns g c = try_gives_in_order g.St.Stream g.F.SlotFuture g.S.ReadySource
