use Rattle.futures_buffered_table.proofs.Common.{refl, arith, Idle}
use Rattle.futures_buffered_table.proofs.ReadyListLemmas.{may_step}
use Rattle.futures_buffered_table.proofs.ready_list.ReadyList.swap_mark.Goals as goal

pub swap-requires : goal.swap-requires
swap-requires c =
    may_step _ _ _ c.self.invariant _ c.self.view_is _ Idle c.requires.role.0 _ (λ cap. let a = c.requires.role.1 in omega arith) refl
    (λ cap. let a = c.requires.role.1 in omega arith) 1 0 (λ _. 1) (λ _. refl)
