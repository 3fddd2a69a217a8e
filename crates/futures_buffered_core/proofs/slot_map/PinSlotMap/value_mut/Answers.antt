use Rattle.futures_buffered_core.proofs.Common.{None, refl, sym, ap, ◌∙◌, get_or-map, value_of}
use Rattle.futures_buffered_core.proofs.SlotMapLemmas.{held_within, KeepsPlaces-write, slots_of-write}
use Rattle.futures_buffered_core.proofs.slot_map.PinSlotMap.value_mut.Goals as goal

pub invariant_of-self-lent : goal.invariant_of-self-lent
invariant_of-self-lent g c w = KeepsPlaces-write c.self.inside.places.items _ _ c.args.key w c.self.invariant (rw (← c.self.view_is) at c.requires)

pub returns : goal.returns
returns g c =
    let places = c.self.inside.places.items in
    let some = rw (← c.self.view_is) at c.requires in
    let read = get_or-map value_of places c.args.key c.index_mut.result.now None (held_within places c.args.key some) in (
      (refl, λ w. rw (← c.self.view_is) (slots_of-write places _ _ c.args.key w c.self.invariant some)),
      record { writes_back = tt; value = rw (← c.self.view_is) (read ∙ ap value_of (sym c.index_mut.ensures.value) ∙ c.value_mut.ensures.value) },
    )
