use Rattle.futures_buffered_unordered.proofs.Common.{◌≡◌, ◌+◌, ◌-◌, ◌<◌, length, sym, ap, subst, arith, common_steps, slot_count, Bounded, held_in, Growing, held_in_all, spare_places, SameKind}
use Rattle.futures_buffered_unordered.proofs.FuturesUnorderedLemmas.{spare_last, spare_some, keeps_grown, pushes_last}
use Rattle.futures_buffered_unordered.proofs.futures_unordered.GrowingSet.push_last.Goals as goal

pub push-requires : goal.push-requires
push-requires g c =
    let room = subst (λ (v : Growing g.row.F.Denot g.row.S.Denot). 0 < spare_places v.groups.listed) (sym c.self.view_is) c.requires.room in
    let last : c.len-last.result - 1 + 1 ≡ length c.self.inside.groups.items = omega (arith, spare_some c.self.inside.groups.items room, c.len-last.ensures) in
    let at_last = spare_last c.self.inside.groups.items (c.len-last.result - 1) c.index_mut.result.now last in
    let held = ap (λ (b : Bounded g.row.F.Denot g.row.S.Denot). held_in b) c.index_mut.ensures.value in
    let slots = ap (λ (b : Bounded g.row.F.Denot g.row.S.Denot). slot_count b.slots) c.index_mut.ensures.value in
    omega (arith, room, at_last, held, slots)

pub invariant_of-self : goal.invariant_of-self
invariant_of-self g c =
    let room = subst (λ (v : Growing g.row.F.Denot g.row.S.Denot). 0 < spare_places v.groups.listed) (sym c.self.view_is) c.requires.room in
    let last : c.len-last.result - 1 + 1 ≡ length c.self.inside.groups.items = omega (arith, spare_some c.self.inside.groups.items room, c.len-last.ensures) in
    let few = subst (λ (v : Growing g.row.F.Denot g.row.S.Denot). held_in_all v.groups.listed < 9223372036854775807) (sym c.self.view_is) c.requires.few in
    let kind : SameKind g.S.ReadySource.needs c.index_mut.result.now c.push.new.self = record { same_slots = c.push.ensures.capacity; same_limit = c.push.ensures.pushed.1.same_limit; waits = g.met.S.NewSource.waits.mark_waits _ _ _ _ c.push.ensures.pushed.1.marked } in
    keeps_grown g.S.ReadySource.needs _ _ _ _ _ _ c.self.invariant last c.index_mut.ensures.value kind c.push.ensures.count (omega (arith, few, c.self.invariant.counted))

pub returns-clause-pushed : goal.returns-clause-pushed
returns-clause-pushed g c =
    let room = subst (λ (v : Growing g.row.F.Denot g.row.S.Denot). 0 < spare_places v.groups.listed) (sym c.self.view_is) c.requires.room in
    let last : c.len-last.result - 1 + 1 ≡ length c.self.inside.groups.items = omega (arith, spare_some c.self.inside.groups.items room, c.len-last.ensures) in
    rw (← c.self.view_is) (pushes_last g.S.ReadySource.marks g.S.NewSource.made 32 _ (c.len-last.result - 1) _ _ _ last c.index_mut.ensures.value room c.push.ensures.pushed)

pub overflow_sub-last : goal.overflow_sub-last
overflow_sub-last g c = grind (arith, common_steps)

pub index_mut-requires : goal.index_mut-requires
index_mut-requires g c = grind (arith, common_steps)

pub returns-clause-count : goal.returns-clause-count
returns-clause-count g c = grind (arith, common_steps)
