use Rattle.futures_buffered_table.proofs.Common.{refl, arith, Last, Polls}
use Rattle.futures_buffered_table.proofs.ReadyListLemmas.{may_store}
use Rattle.futures_buffered_table.proofs.ready_list.ReadyList.clear_stub.Goals as goal

pub store-requires : goal.store-requires
store-requires c =
    may_store _ _ _ c.self.invariant _ c.self.view_is _ (Polls c.args.head Last) c.requires.role _ (λ cap. tt) refl
    (λ cap. omega arith) 0 (λ _. refl) (λ _. refl) tt
