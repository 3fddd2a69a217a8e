use Rattle.futures_buffered_unordered.proofs.Common.{◌<◌, true, arith, common_steps, held_count, unless_registered}
use Rattle.futures_buffered_unordered.proofs.HeldLemmas.{some_from_end}
use Rattle.futures_buffered_unordered.proofs.PollsBoundedLemmas.{polls_output, polls_pending, takes_held, takes_registered}
use Rattle.futures_buffered_unordered.proofs.futures_unordered_bounded.FuturesUnorderedBounded+F+S.poll_registered.Goals as goal

pub empty_slot-requires : goal.empty_slot-requires
empty_slot-requires g c = some_from_end (g.R.PollOne.polled c.in-Ready.i) _ _ (takes_held g.R.PollOne g.S.ReadySource _ _ _ _ _ _ c.in-Ready.ensures)

pub returns-in-Ready : goal.returns-in-Ready
returns-in-Ready g c =
    let some : 0 < held_count c.args.self.now.slots = grind (arith, common_steps) in
    let emptied = c.empty_slot.ensures in
    polls_output g.R.PollOne (unless_registered true g.S.ReadySource) _ _ _ _ some c.in-Ready.i _ _ (takes_registered g.R.PollOne g.S.ReadySource _ _ _ _ _ c.in-Ready.ensures) emptied.emptied emptied.count emptied.capacity (grind (arith, common_steps))

pub returns-in-Pending : goal.returns-in-Pending
returns-in-Pending g c =
    let some : 0 < held_count c.args.self.now.slots = grind (arith, common_steps) in
    polls_pending g.R.PollOne (unless_registered true g.S.ReadySource) _ _ _ _ some (takes_registered g.R.PollOne g.S.ReadySource _ _ _ _ _ c.in-Pending.ensures)
