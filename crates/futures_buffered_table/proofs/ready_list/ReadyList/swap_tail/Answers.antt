use Rattle.futures_buffered_table.proofs.Common.{refl, arith, Cleared}
use Rattle.futures_buffered_table.proofs.ReadyListLemmas.{may_step}
use Rattle.futures_buffered_table.proofs.ready_list.ReadyList.swap_tail.Goals as goal

pub swap-requires : goal.swap-requires
swap-requires c =
    may_step _ _ _ c.self.invariant _ c.self.view_is _ (Cleared c.args.slot) c.requires.role.0 _ (λ cap. tt) refl
    (λ cap. omega arith) c.args.slot 0 (λ _. c.args.slot) (λ _. refl)
