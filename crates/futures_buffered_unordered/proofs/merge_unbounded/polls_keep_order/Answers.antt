use Rattle.futures_buffered_unordered.proofs.MergeUnboundedGaveLemmas.{keeps_order_in_groups}
use Rattle.futures_buffered_unordered.proofs.merge_unbounded.polls_keep_order.Goals as goal

pub returns : goal.returns
returns g c = keeps_order_in_groups g.St.SlotStream g.S.ReadySource
