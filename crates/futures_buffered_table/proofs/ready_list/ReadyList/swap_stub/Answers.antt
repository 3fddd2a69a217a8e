use Rattle.futures_buffered_table.proofs.Common.{refl, arith, StubCleared, Polls}
use Rattle.futures_buffered_table.proofs.ReadyListLemmas.{may_step}
use Rattle.futures_buffered_table.proofs.ready_list.ReadyList.swap_stub.Goals as goal

pub swap-requires : goal.swap-requires
swap-requires c =
    may_step _ _ _ c.self.invariant _ c.self.view_is _ (Polls c.args.head StubCleared) c.requires.role _ (λ cap. tt) refl
    (λ cap. omega arith) c.self.inside.capacity 0 (λ _. c.self.inside.capacity) (λ _. refl)
