use Rattle.futures_buffered_table.proofs.Common.{sym, ap, ◌∙◌, arith, ListIdentity, Waker}
use Rattle.futures_buffered_table.proofs.RuleLemmas.{splits}
use Rattle.futures_buffered_table.proofs.ready_list.WakeSeat.split.Goals as goal

pub split_seat-other-requires : goal.split_seat-other-requires
split_seat-other-requires c =
    let same = ap (λ (v : Waker). v.list) c.self.view_is ∙ (c.requires ∙ sym (ap (λ (l : ListIdentity). l.list) c.list.view_is)) in
    (same, (let a = c.list.invariant.words in omega arith), splits _ c.self.inside.seat.id c.self.inside.seat.me.0)
