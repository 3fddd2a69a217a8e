use Rattle.futures_buffered_ordered.proofs.Common.{◌∙◌, ap, sym, subst, held_in, held_with, slots_in, OrderedBounded, KeepsQueue}
use Rattle.futures_buffered_ordered.proofs.FuturesOrderedBoundedLemmas.{marked_keeps}
use Rattle.futures_buffered_ordered.proofs.futures_ordered_bounded.BoundedQueue+T+A+S.mark_slot.Goals as goal

pub invariant_of-self : goal.invariant_of-self
invariant_of-self g c =
    let marked = c.mark_slot.new.self in
    let is = ap (λ q. q.queue) c.self-inside.view_is in
    let same = c.mark_slot.ensures.slots ∙ ap (λ (q : OrderedBounded g.row.T.Denot g.row.A.Denot g.row.S.Denot). q.set.slots) is in
    subst (λ (q : OrderedBounded g.row.T.Denot g.row.A.Denot g.row.S.Denot). KeepsQueue held_with held_in slots_in (record { set = marked; entries = q.entries; room = q.room })) (sym is)
    (marked_keeps c.self.inside.queue marked same c.self.invariant)
