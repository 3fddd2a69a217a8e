use Rattle.futures_buffered_unordered.proofs.MergeBoundedPushesLemmas.{keeps_order_with_pushes}
use Rattle.futures_buffered_unordered.proofs.merge_bounded.polls_and_pushes_keep_order.Goals as goal

pub returns : goal.returns
returns g c = keeps_order_with_pushes g.St.SlotStream g.S.ReadySource
