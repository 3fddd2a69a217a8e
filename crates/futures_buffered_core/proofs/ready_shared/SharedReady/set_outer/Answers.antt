use Rattle.futures_buffered_core.proofs.Common.{length, ap, ◌∙◌, subst, SharedOf, PutsOrMeets, publisher_of}
use Rattle.futures_buffered_core.proofs.ready_shared.SharedReady.set_outer.Goals as goal

pub returns : goal.returns
returns g c =
    let Seen : Type 0 = SharedOf g.row.O.Denot in
    let view = c.self.view_is in
    let side = c.put_in.ensures in
    let head = ap (λ p. p.head) side.poll ∙ ap (λ (v : Seen). v.head) view in
    let taken = ap (λ p. p.steps) side.poll ∙ ap (λ (v : Seen). v.taken) view in (
      (λ k. record { capacity = (view k).capacity; awaited = (view k).awaited; place = (view k).place; lent = (view k).lent; head = head k; taken = taken k; marked = (view k).marked; publisher = publisher_of c.put_in.new.self.task }),
      side.own ∙ ap (λ (v : Seen). v.publisher.own) view,
      (c.self.inside.side.task.alone, subst (λ (v : Seen). PutsOrMeets (length v.taken) c.self.inside.side.task.alone c.args.outer v.publisher.did c.put_in.new.self.task.did) view side.put),
    )
