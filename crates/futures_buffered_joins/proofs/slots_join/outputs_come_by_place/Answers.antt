use Rattle.futures_buffered_joins.proofs.Common.{ItemMayGive, slots_waiting, HoldsEach}
use Rattle.futures_buffered_joins.proofs.JoinLemmas.{joins_by_place}
use Rattle.futures_buffered_joins.proofs.SlotsJoinLemmas.{own_item}
use Rattle.futures_buffered_joins.proofs.slots_join.outputs_come_by_place.Goals as goal

pub returns : goal.returns
returns g c =
    let made = g.S.NewSource.made in
    let marks = g.S.ReadySource.marks in
    joins_by_place slots_waiting _ g.R.JoinRule (HoldsEach made marks 61) (ItemMayGive g.F.SlotFuture.polled) (own_item g.F.SlotFuture.polled made marks 61)
