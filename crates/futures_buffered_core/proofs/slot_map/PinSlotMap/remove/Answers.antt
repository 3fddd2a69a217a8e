use Rattle.futures_buffered_core.proofs.Common.{sym, ◌∙◌}
use Rattle.futures_buffered_core.proofs.SlotMapLemmas.{KeepsPlaces-remove, slots_of-remove, count-remove, at_some}
use Rattle.futures_buffered_core.proofs.slot_map.PinSlotMap.remove.Goals as goal

pub invariant_of-self : goal.invariant_of-self
invariant_of-self g c =
    let some = rw (← c.self.view_is) at (sym c.holds.ensures ∙ c.if-holds.true) in
    KeepsPlaces-remove c.self.inside.places.items _ _ c.args.key c.self.invariant some

pub returns-then-holds-clause-slots : goal.returns-then-holds-clause-slots
returns-then-holds-clause-slots g c =
    let some = rw (← c.self.view_is) at (sym c.holds.ensures ∙ c.if-holds.true) in
    rw (← c.self.view_is) (at_some _ _ _ some (slots_of-remove c.self.inside.places.items _ _ c.args.key c.self.invariant some))

pub returns-then-holds-clause-count : goal.returns-then-holds-clause-count
returns-then-holds-clause-count g c some =
    rw (← c.self.view_is) (count-remove c.self.inside.places.items c.self.inside.first_free c.args.key (rw (← c.self.view_is) at some))
