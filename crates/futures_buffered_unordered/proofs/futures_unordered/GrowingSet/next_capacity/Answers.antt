use Rattle.futures_buffered_unordered.proofs.Common.{◌≡◌, ◌+◌, ◌-◌, length, ap, arith, slot_count, Bounded}
use Rattle.futures_buffered_unordered.proofs.FuturesUnorderedLemmas.{next_last}
use Rattle.futures_buffered_unordered.proofs.futures_unordered.GrowingSet.next_capacity.Goals as goal

pub returns-clause-value : goal.returns-clause-value
returns-clause-value g c =
    let last : c.len-groups.result - 1 + 1 ≡ length c.self.inside.groups.items = omega (arith, c.if-groups-eq0.false, c.len-groups.ensures) in
    let at_last = next_last 32 c.self.inside.groups.items (c.len-groups.result - 1) c.index.result.now last in
    let slots = ap (λ (b : Bounded g.row.F.Denot g.row.S.Denot). slot_count b.slots) c.index.ensures in
    rw (← c.self.view_is) (omega (arith, c.capacity.ensures.value, at_last, slots))
