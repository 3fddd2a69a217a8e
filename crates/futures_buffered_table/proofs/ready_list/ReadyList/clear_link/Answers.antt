use Rattle.futures_buffered_table.proofs.Common.{refl, arith, Won}
use Rattle.futures_buffered_table.proofs.ReadyListLemmas.{may_store}
use Rattle.futures_buffered_table.proofs.ready_list.ReadyList.clear_link.Goals as goal

pub store-requires : goal.store-requires
store-requires c =
    may_store _ _ _ c.self.invariant _ c.self.view_is _ (Won c.args.slot) c.requires.role.0 _ (λ cap. tt) refl
    (λ cap. let a = c.requires.role.1 in omega arith) 0 (λ _. refl) (λ _. refl) tt
