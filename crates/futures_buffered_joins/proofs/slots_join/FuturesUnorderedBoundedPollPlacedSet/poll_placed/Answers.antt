use Rattle.futures_buffered_joins.proofs.Common.{rules}
use Rattle.futures_buffered_joins.proofs.SlotsJoinLemmas.{output_came}
use Rattle.futures_buffered_joins.proofs.slots_join.FuturesUnorderedBoundedPollPlacedSet.poll_placed.Goals as goal

pub returns-in-Ready : goal.returns-in-Ready
returns-in-Ready g c = output_came g.F.SlotFuture g.S.ReadySource c.args.self.now c.poll_first.new.self _ c.in-Ready.slot c.in-Ready.output _ _ c.in-Ready.ensures (search rules)
