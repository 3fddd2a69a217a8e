use Rattle.futures_buffered_table.proofs.Common.{ℕ, ◌<◌, arith, ap, ListIdentity}
use Rattle.futures_buffered_table.proofs.RuleLemmas.{arrives}
use Rattle.futures_buffered_table.proofs.ready_list.ReadyList.swap_mark_anew.Goals as goal

pub swap_new_seat-requires : goal.swap_new_seat-requires
swap_new_seat-requires c =
    let K = c.self.invariant in let table = c.self.inside.table.shared in let i : ℕ = c.args.slot in
    let cap = ap (λ (l : ListIdentity). l.capacity) c.self.view_is in
    let below : i < table.key.capacity = let a = c.requires in let b = K.keyed in omega arith in
    ((let a = K.words in let b = c.requires in omega arith), arrives table.key.capacity _ i below)
