use Rattle.futures_buffered_table.proofs.Common.{◌≡◌, ◌<◌, ◌≤◌, ◌+◌, List, ℕ, ap, sym, ◌∙◌, subst, slots_items, AtomicStep, View, mark, unmarks, wins, Whereabouts, ListIdentity, Poller}
use Rattle.futures_buffered_table.proofs.ClosingLemmas.{ends, ends_placed}
use Rattle.futures_buffered_table.proofs.ready_list.ReadyList.close_seat.Goals as goal

pub returns-clause-placed : goal.returns-clause-placed
returns-clause-placed c =
    let s = c.poll.inside.seat in
    let key = c.self.invariant.keyed ∙ ap (λ (l : ListIdentity). l.capacity) c.self.view_is in
    let head = ap (λ (v : Poller). v.head) c.poll.view_is in
    subst (λ (y : ℕ × ℕ). (views : List View) × (at : Whereabouts y.0 (slots_items c.close_with.result.words) views)
    × (at.head ≡ y.1)) (λ k. (key k, head k))
    (ends_placed c.self.inside.table.shared.key.capacity s.id s.me.0 c.poll.inside.head _ _ _ c.poll.invariant.seat.rests
    c.close_with.ensures.values.2)

pub returns-clause-none_lost : goal.returns-clause-none_lost
returns-clause-none_lost c = λ e lt.
    let s = c.poll.inside.seat in
    let key = c.self.invariant.keyed ∙ ap (λ (l : ListIdentity). l.capacity) c.self.view_is in
    let steps = ap (λ (v : Poller). v.steps) c.poll.view_is in
    subst (λ (l : List AtomicStep). wins e l ≤ unmarks e l + mark (slots_items c.close_with.result.words) e) steps
    (ends c.self.inside.table.shared.key.capacity s.id s.me.0 _ _ _ _ c.poll.invariant.seat.rests c.close_with.ensures.values.2 e
    (subst (λ (k : ℕ). e < k) (sym key) lt))
