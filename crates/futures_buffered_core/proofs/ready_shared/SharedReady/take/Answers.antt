use Rattle.futures_buffered_core.proofs.Common.{◌≡◌, ℕ, List, length, ◌++◌, ap, ◌∙◌, subst, SharedOf, lent_after, Publisher, PublishesOwn, publisher_of, AtomicStep, CallsAtStub, IsTaking}
use Rattle.futures_buffered_core.proofs.ReadySharedLemmas.{calls_shown, name_below}
use Rattle.futures_buffered_core.proofs.ready_shared.SharedReady.take.Goals as goal

pub returns : goal.returns
returns g c =
    let Seen : Type 0 = SharedOf g.row.O.Denot in
    let At : Type 0 = Publisher g.row.O.Denot in
    let view = c.self.view_is in
    let lent = c.lend.ensures in
    let size : c.deref.result.now.list.capacity ≡ c.args.self.now.capacity = ap (λ w. w.list.capacity) c.deref.ensures ∙ (ap (λ l. l.capacity) c.wakes-wakes.ensures.list ∙ ap (λ (v : Seen). v.capacity) view) in
    let head : c.self.inside.side.poll.head ≡ c.args.self.now.head = ap (λ (v : Seen). v.head) view in
    let did = c.take-taken.ensures.shape in
    let steps = did.1 ∙ ap (λ (v : Seen). v.taken ++ did.0) view in
    let taken : c.self.inside.side.poll.steps ≡ c.args.self.now.taken = ap (λ (v : Seen). v.taken) view in
    let before = ap (λ (v : Seen). v.publisher) view in
    let capacity = ap (λ l. l.capacity) lent.list ∙ ap (λ (v : Seen). v.capacity) view in
    let awaited = ap (λ o. o.source) lent.outer ∙ ap (λ (v : Seen). v.awaited) view in
    let place = ap (λ o. o.place) lent.outer ∙ ap (λ (v : Seen). v.place) view in
    let slot = lent.slot ∙ ap (λ (v : Seen). lent_after v.lent c.take-taken.result) view in (
      name_below _ _ _ c.take-taken.ensures.named size,
      (
        did.0,
        subst (λ (x : ℕ × ℕ). IsTaking x.0 x.1 did.0 c.take-taken.result c.take-taken.new.self.poll.head) (λ k. (size k, head k)) did.2,
        λ k. record { capacity = capacity k; awaited = awaited k; place = place k; lent = slot k; head = c.take-taken.new.self.poll.head; taken = steps k; marked = (view k).marked; publisher = publisher_of c.take-taken.new.self.task },
        subst (λ (x : ℕ × List AtomicStep × At). CallsAtStub (λ made. PublishesOwn (length made)) x.0 x.1 c.take-taken.result c.take-taken.new.self.poll.head x.2 (publisher_of c.take-taken.new.self.task))
            (λ k. (size k, taken k, before k))
            (calls_shown _ _ c.take-taken.result _ _ _ c.take-taken.ensures.calls),
      ),
    )
