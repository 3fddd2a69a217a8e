use Rattle.futures_buffered_table.proofs.Common.{refl, arith, Start, Polls}
use Rattle.futures_buffered_table.proofs.ReadyListLemmas.{may_step}
use Rattle.futures_buffered_table.proofs.ready_list.ReadyList.read_first.Goals as goal

pub load-requires : goal.load-requires
load-requires c =
    may_step _ _ _ c.self.invariant _ c.self.view_is _ (Polls c.args.head Start) c.requires.role.0 _ (λ cap. tt) refl
    (λ cap. let a = c.requires.role.1 in omega arith) 0 0 (λ found. found) (λ _. refl)
