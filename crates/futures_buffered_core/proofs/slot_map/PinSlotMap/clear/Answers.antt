use Rattle.futures_buffered_core.proofs.Common.{◌≡◌, ◌<◌, ◌+◌, ◌++◌, ◌∷◌, [], List, length, ap, sym, ◌∙◌, arith, length-set, take_more_set, take_all, length-map, Place, Free, slot_count, no_slots, value_of, slots_of}
use Rattle.futures_buffered_core.proofs.SlotMapLemmas.{KeepsPlaces-new, slots_of-new, new_places_push}
use Rattle.futures_buffered_core.proofs.slot_map.PinSlotMap.clear.Goals as goal

pub loop-i-preserved : goal.loop-i-preserved
loop-i-preserved g c =
    let i = c.loop-i.i in
    let places = c.loop-i.self-inside.places.items in
    let sized = ap slot_count c.self.view_is in
    let within : i < length places = omega (arith, sized, length-map c.self.inside.places.items value_of, c.loop-i.invariant.same_size) in
    record {
      cleared = take_more_set places i (Free (i + 1)) within ∙ (ap (λ (xs : List (Place g.row.F.Denot)). xs ++ Free (i + 1) ∷ []) c.loop-i.invariant.cleared ∙ sym (new_places_push i));
      same_size = length-set places i (Free (i + 1)) ∙ c.loop-i.invariant.same_size;
    }

pub invariant_of-self : goal.invariant_of-self
invariant_of-self g c =
    let places = c.loop-i.self-inside.places.items in
    let sized = ap slot_count c.self.view_is in
    let all = sym (take_all c.loop-i.i places (omega (arith, sized, length-map c.self.inside.places.items value_of, c.loop-i.invariant.same_size))) ∙ c.loop-i.invariant.cleared in
    rw all (KeepsPlaces-new c.loop-i.i)

pub returns : goal.returns
returns g c =
    let places = c.loop-i.self-inside.places.items in
    let sized = ap slot_count c.self.view_is in
    let end : c.loop-i.i ≡ slot_count c.args.self.now = omega (arith, sized, length-map c.self.inside.places.items value_of, c.loop-i.invariant.same_size) in
    let all = sym (take_all c.loop-i.i places (omega (arith, c.loop-i.invariant.same_size))) ∙ c.loop-i.invariant.cleared in
    ap (λ (xs : List (Place g.row.F.Denot)). slots_of xs 0 0) all ∙ (slots_of-new c.loop-i.i ∙ ap no_slots end)
