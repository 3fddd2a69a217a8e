use Rattle.futures_buffered_unordered.proofs.MergeBoundedLemmas.{keeps_order}
use Rattle.futures_buffered_unordered.proofs.merge_bounded.polls_keep_order.Goals as goal

pub returns : goal.returns
returns g c = keeps_order g.St.SlotStream g.S.ReadySource
