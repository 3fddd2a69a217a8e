use Rattle.futures_buffered_table.proofs.ReadyListLemmas.{may_read_slot}
use Rattle.futures_buffered_table.proofs.ready_list.ReadyList.read_slot.Goals as goal

pub load-requires : goal.load-requires
load-requires c = may_read_slot _ _ _ c.self.invariant _ c.self.view_is _ c.args.head c.requires.role.0 c.requires.role.1
