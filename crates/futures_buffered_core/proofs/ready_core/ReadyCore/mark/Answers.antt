use Rattle.futures_buffered_core.proofs.Common.{arith, ◌∙◌, sym}
use Rattle.futures_buffered_core.proofs.KeepsOnceLemmas.{clear_from_read}
use Rattle.futures_buffered_core.proofs.ReadyCoreLemmas.{KeepsLinks-tail, KeepsLinks-mark, KeepsLinks-found, slots_found}
use Rattle.futures_buffered_core.proofs.ready_core.ReadyCore.mark.Goals as goal

pub put_last-requires-clause-tail : goal.put_last-requires-clause-tail
put_last-requires-clause-tail c = omega (arith, KeepsLinks-tail _ _ _ _ _ _ c.self.invariant)

pub invariant_of-self : goal.invariant_of-self
invariant_of-self c =
    let within = rw (← c.self.view_is) at c.requires in
    let marks = c.self.inside.marks.items in
    rw (c.put_last.ensures.links, c.put_last.ensures.tail)
    (KeepsLinks-found _ _ _ _ _ _ (KeepsLinks-mark _ _ _ _ _ _ c.args.i c.self.invariant (omega arith) (clear_from_read marks c.args.i _ c.index.ensures c.if-not-index.true)))

pub returns-then-not-index-clause-marked : goal.returns-then-not-index-clause-marked
returns-then-not-index-clause-marked c =
    let within = rw (← c.self.view_is) at c.requires in
    let marks = c.self.inside.marks.items in
    let clear = clear_from_read marks c.args.i _ c.index.ensures c.if-not-index.true in
    rw (c.put_last.ensures.links, ← c.self.view_is) (
      sym (c.self.invariant.once.exact c.args.i) ∙ clear,
      slots_found _ _ _ _ _ _ (KeepsLinks-mark _ _ _ _ _ _ c.args.i c.self.invariant (omega arith) clear),
    )
