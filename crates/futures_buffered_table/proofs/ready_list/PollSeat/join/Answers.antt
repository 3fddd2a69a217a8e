use Rattle.futures_buffered_table.proofs.Common.{sym, ap, ◌∙◌, arith, is_unmark, unmarks, ListIdentity, Poller, Waker}
use Rattle.futures_buffered_table.proofs.RuleLemmas.{joins}
use Rattle.futures_buffered_table.proofs.RowLemmas.{total-append}
use Rattle.futures_buffered_table.proofs.ready_list.PollSeat.join.Goals as goal

pub join_seat-requires : goal.join_seat-requires
join_seat-requires c =
    let s = c.self.inside.seat in let o = c.other.inside.seat in let list = sym (ap (λ (l : ListIdentity). l.list) c.list.view_is) in (
      ap (λ (v : Poller). v.list) c.self.view_is ∙ (c.requires.0 ∙ list),
      ap (λ (v : Waker). v.list) c.other.view_is ∙ (c.requires.1 ∙ list),
      c.other.invariant.seat.empty,
      (let a = c.list.invariant.words in omega arith),
      joins _ s.id o.id s.me.0 o.me.0 _ _ c.self.invariant.seat.rests c.other.invariant.seat.rests,
    )

pub returns-clause-unmarks : goal.returns-clause-unmarks
returns-clause-unmarks c = λ e.
    let s = c.self.inside.seat in let o = c.other.inside.seat in
    let joined = ap (λ m. unmarks e m.0.steps) c.join_seat.ensures.2 in
    let sum = total-append (is_unmark e) s.me.0.steps o.me.0.steps in
    let none = c.other.invariant.wakes e in
    let mine = ap (λ (v : Poller). unmarks e v.steps) c.self.view_is in
    omega arith
