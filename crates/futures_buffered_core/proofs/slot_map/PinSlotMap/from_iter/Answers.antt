use Rattle.futures_buffered_core.proofs.Common.{◌≡◌, length, map, ap, arith, Held}
use Rattle.futures_buffered_core.proofs.SlotMapLemmas.{KeepsPlaces-all, slots_of-all}
use Rattle.futures_buffered_core.proofs.slot_map.PinSlotMap.from_iter.Goals as goal

pub invariant_of-result : goal.invariant_of-result
invariant_of-result g c =
    let held = c.loop-item.invariant.2 in
    let all : c.len-len.result ≡ length (map Held c.loop-item.yielded) = omega (arith, ap length held) in
    rw (all, held) (KeepsPlaces-all c.loop-item.yielded)

pub returns-clause-full : goal.returns-clause-full
returns-clause-full g c =
    let held = c.loop-item.invariant.2 in
    let all : c.len-len.result ≡ length (map Held c.loop-item.yielded) = omega (arith, ap length held) in (
      c.loop-item.yielded,
      (c.into_iter-item-iterator.result, rw c.into_iter-item-iterator.ensures.into_iter_gives c.into_iter-iter.ensures.into_iter_gives, (_, (c.loop-item.item-iterator, c.loop-item.yielded_by, c.in-None.ensures.steps))),
      rw (all, held) (slots_of-all c.loop-item.yielded),
    )
