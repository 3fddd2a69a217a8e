use Rattle.futures_buffered_core.proofs.Common.{◌≡◌, length, arith}
use Rattle.futures_buffered_core.proofs.SlotMapLemmas.{KeepsPlaces_grow, slots_of_grow}
use Rattle.futures_buffered_core.proofs.slot_map.PinSlotMap.grow_by_one.Goals as goal

pub invariant_of-self-2 : goal.invariant_of-self-2
invariant_of-self-2 g c =
    let places = c.self.inside.places.items in
    let end : c.len-end.result ≡ length places = omega arith in
    rw (c.in_ok-push.ensures.items, end) (KeepsPlaces_grow places _ _ c.self.invariant)

pub returns-clause-grown : goal.returns-clause-grown
returns-clause-grown g c =
    let places = c.self.inside.places.items in
    let end : c.len-end.result ≡ length places = omega arith in
    rw (c.in_ok-push.ensures.items, end, ← c.self.view_is) (slots_of_grow places c.self.inside.first_free _ c.self.invariant)
