use Rattle.futures_buffered_table.proofs.Common.{ap, arith, Poller}
use Rattle.futures_buffered_table.proofs.ReadyListLemmas.{in_role, seat_kept}
use Rattle.futures_buffered_table.proofs.ready_list.ReadyList.take_with.Goals as goal

pub take_from-head-requires : goal.take_from-head-requires
take_from-head-requires g c =
    let sits = in_role _ _ _ c.self.invariant _ c.self.view_is c.seat.inside.seat _ _ c.seat.invariant.seat
    (ap (λ (v : Poller). v.list) c.seat.view_is) c.requires in
    record { role = (sits, (let a = c.seat.invariant.low in let b = sits.1 in omega arith)) }

pub invariant_of-seat : goal.invariant_of-seat
invariant_of-seat g c =
    let did = c.take_from-head.ensures in let now = c.take_from-head.new.seat in
    record { seat = seat_kept _ _ _ c.self.invariant _ c.self.view_is now _ did.role.0; low = let a = did.role.0.1 in let b = did.role.1 in omega arith }
