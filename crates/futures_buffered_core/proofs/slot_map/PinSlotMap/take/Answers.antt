use Rattle.futures_buffered_core.proofs.Common.{sym, ◌∙◌}
use Rattle.futures_buffered_core.proofs.SlotMapLemmas.{KeepsPlaces-remove, slots_of-remove, count-remove, at_some}
use Rattle.futures_buffered_core.proofs.slot_map.PinSlotMap.take.Goals as goal

pub invariant_of-self : goal.invariant_of-self
invariant_of-self g c =
    let some = rw (← c.self.view_is) at (sym c.holds.ensures ∙ c.if-not-holds.false) in
    rw c.replace-place.ensures.after (KeepsPlaces-remove c.self.inside.places.items _ _ c.args.key c.self.invariant some)

pub returns-clause-slots : goal.returns-clause-slots
returns-clause-slots g c =
    let some = rw (← c.self.view_is) at (sym c.holds.ensures ∙ c.if-not-holds.false) in
    rw (← c.self.view_is) (rw c.replace-place.ensures.after (at_some _ _ _ some (slots_of-remove c.self.inside.places.items _ _ c.args.key c.self.invariant some)))

pub returns-clause-count : goal.returns-clause-count
returns-clause-count g c some =
    rw (← c.self.view_is) (rw c.replace-place.ensures.after (count-remove c.self.inside.places.items c.self.inside.first_free c.args.key (rw (← c.self.view_is) at some)))
