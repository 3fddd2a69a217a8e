use Rattle.futures_buffered_core.proofs.Common.{◌<◌, length, ap, ◌∙◌, arith, Slots}
use Rattle.futures_buffered_core.proofs.SlotMapLemmas.{held_at_most, some_free, first_is_empty, first_read, KeepsPlaces-insert, Inserts-first}
use Rattle.futures_buffered_core.proofs.slot_map.PinSlotMap.insert_with.Goals as goal

pub index-requires : goal.index-requires
index-requires g c =
    let room : c.self.inside.len < length c.self.inside.places.items = omega (arith, held_at_most c.self.inside.places.items _ _ c.self.invariant) in
    omega (arith, (first_is_empty c.self.inside.places.items _ _ c.self.invariant room).0)

pub next-self-inside-requires : goal.next-self-inside-requires
next-self-inside-requires g c =
    let room : c.self.inside.len < length c.self.inside.places.items = omega (arith, held_at_most c.self.inside.places.items _ _ c.self.invariant) in
    (first_read c.self.inside.places.items _ _ c.index.result.now c.self.invariant room c.index.ensures).0

pub f-requires : goal.f-requires
f-requires g c =
    let room : c.self.inside.len < length c.self.inside.places.items = omega (arith, held_at_most c.self.inside.places.items _ _ c.self.invariant) in
    c.requires (λ none. some_free c.self.inside.places.items c.self.inside.first_free c.self.inside.len room (ap (λ (m : Slots g.row.F.Denot). m.free) c.self.view_is ∙ none))

pub index_mut-requires : goal.index_mut-requires
index_mut-requires g c =
    let room : c.self.inside.len < length c.self.inside.places.items = omega (arith, held_at_most c.self.inside.places.items _ _ c.self.invariant) in
    omega (arith, (first_is_empty c.self.inside.places.items _ _ c.self.invariant room).0)

pub invariant_of-self : goal.invariant_of-self
invariant_of-self g c =
    let places = c.self.inside.places.items in
    let room : c.self.inside.len < length places = omega (arith, held_at_most places _ _ c.self.invariant) in
    let link = c.next-self-inside.ensures ∙ (first_read places _ _ c.index.result.now c.self.invariant room c.index.ensures).1 in
    rw link (KeepsPlaces-insert places _ _ c.f.result c.self.invariant room)

pub returns-clause-ok : goal.returns-clause-ok
returns-clause-ok g c =
    let places = c.self.inside.places.items in
    let room : c.self.inside.len < length places = omega (arith, held_at_most places _ _ c.self.invariant) in
    let link = c.next-self-inside.ensures ∙ (first_read places _ _ c.index.result.now c.self.invariant room c.index.ensures).1 in
    rw (← c.self.view_is, link) (c.f.result, c.f.ensures, Inserts-first places _ _ c.f.result c.self.invariant room)

pub returns-clause-count : goal.returns-clause-count
returns-clause-count g c =
    let places = c.self.inside.places.items in
    let room : c.self.inside.len < length places = omega (arith, held_at_most places _ _ c.self.invariant) in
    rw (← c.self.view_is) (omega (arith, c.self.invariant.counted, (KeepsPlaces-insert places _ _ c.f.result c.self.invariant room).counted))
