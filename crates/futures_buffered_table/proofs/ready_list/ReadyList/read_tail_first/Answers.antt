use Rattle.futures_buffered_table.proofs.Common.{refl, arith, AtStub, Polls}
use Rattle.futures_buffered_table.proofs.ReadyListLemmas.{may_step}
use Rattle.futures_buffered_table.proofs.ready_list.ReadyList.read_tail_first.Goals as goal

pub load-requires : goal.load-requires
load-requires c =
    may_step _ _ _ c.self.invariant _ c.self.view_is _ (Polls c.args.head AtStub) c.requires.role _ (λ cap. tt) refl
    (λ cap. omega arith) 0 0 (λ found. found) (λ _. refl)
