use Rattle.futures_buffered_unordered.proofs.Common.{◌<◌, arith, common_steps, Ready, Pending, held_count, RegistersAndTakes}
use Rattle.futures_buffered_unordered.proofs.HeldLemmas.{some_from_end}
use Rattle.futures_buffered_unordered.proofs.PollsBoundedLemmas.{polls_output, polls_pending, takes_after, takes_held}
use Rattle.futures_buffered_unordered.proofs.futures_unordered_bounded.FuturesUnorderedBounded+F+S.poll_with.Goals as goal

pub empty_slot-requires : goal.empty_slot-requires
empty_slot-requires g c = some_from_end (g.R.PollOne.polled c.in-Ready.slot) _ _ (takes_held g.R.PollOne g.S.ReadySource _ _ _ _ _ _ c.in-Ready.ensures)

pub returns-in-Ready : goal.returns-in-Ready
returns-in-Ready g c =
    let some : 0 < held_count c.args.self.now.slots = grind (arith, common_steps) in
    let registered = c.register.ensures in
    let first : RegistersAndTakes g.R.PollOne g.S.ReadySource c.args.self.now (Ready (c.in-Ready.slot, c.in-Ready.output)) _ c.args.cx.now _ = rw (← c.self.view_is) (takes_after g.R.PollOne g.S.ReadySource _ _ c.register.new.self _ _ _ _ registered.registered registered.poll registered.kept c.in-Ready.ensures) in
    let emptied = c.empty_slot.ensures in
    polls_output g.R.PollOne g.S.ReadySource _ _ _ _ some c.in-Ready.slot _ _ first emptied.emptied emptied.count emptied.capacity (grind (arith, common_steps))

pub returns-in-Pending : goal.returns-in-Pending
returns-in-Pending g c =
    let some : 0 < held_count c.args.self.now.slots = grind (arith, common_steps) in
    let registered = c.register.ensures in
    let first : RegistersAndTakes g.R.PollOne g.S.ReadySource c.args.self.now Pending _ c.args.cx.now _ = rw (← c.self.view_is) (takes_after g.R.PollOne g.S.ReadySource _ _ c.register.new.self _ _ _ _ registered.registered registered.poll registered.kept c.in-Pending.ensures) in
    polls_pending g.R.PollOne g.S.ReadySource _ _ _ _ some first
