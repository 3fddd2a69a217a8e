use Rattle.futures_buffered_core.proofs.Common.{rules}
use Rattle.futures_buffered_core.proofs.SlotMapLemmas.{KeepsPlaces-new, slots_of-new}
use Rattle.futures_buffered_core.proofs.slot_map.PinSlotMap.new.Goals as goal

pub invariant_of-result : goal.invariant_of-result
invariant_of-result g c = rw c.in_ok-places.ensures (KeepsPlaces-new c.args.capacity)

pub returns : goal.returns
returns g c = record { made = rw c.in_ok-places.ensures (slots_of-new c.args.capacity); refuses = search rules }
