use Rattle.futures_buffered_table.proofs.Common.{◌+◌, refl, arith, Swapped}
use Rattle.futures_buffered_table.proofs.ReadyListLemmas.{may_store}
use Rattle.futures_buffered_table.proofs.ready_list.ReadyList.write_link.Goals as goal

pub store-requires : goal.store-requires
store-requires c =
    may_store _ _ _ c.self.invariant _ c.self.view_is _ (Swapped c.args.slot c.args.before) c.requires.role.0 _ (λ cap. tt) refl
    (λ cap. let a = c.requires.role.2 in omega arith) (c.args.slot + 1) (λ _. omega arith) (λ _. refl) tt
