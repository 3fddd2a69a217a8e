use Rattle.futures_buffered_in_flight.proofs.Common.{rules}
use Rattle.futures_buffered_in_flight.proofs.InFlightMergeLemmas.{all_ended, came_none, item, one_ended, rest_can_poll, stays_pending}
use Rattle.futures_buffered_in_flight.proofs.in_flight_merge.FuturesUnorderedBy+StreamFuture+St+u64+K.poll_streams.Goals as goal

pub returns-in-Pending : goal.returns-in-Pending
returns-in-Pending g c = stays_pending g.St.Stream c.args.self.now c.poll_next_keyed.new.self c.args.cx.now c.poll_next_keyed.new.cx c.in-Pending.ensures

pub returns-in-Ready-None : goal.returns-in-Ready-None
returns-in-Ready-None g c = came_none g.St.Stream c.args.self.now c.poll_next_keyed.new.self c.args.cx.now c.poll_next_keyed.new.cx (rw c.in-Ready-None.field-0-is at c.in-Ready-None.ensures)

pub returns-then-held-gt1 : goal.returns-then-held-gt1
returns-then-held-gt1 g c =
    let yields = c.yield_now.ensures in
    rw yields.pending (one_ended g.St.Stream c.args.self.now c.poll_next_keyed.new.self c.in-Ready-Some.came c.args.cx.now c.poll_next_keyed.new.cx (rw c.in-Ready-Some.field-0-is at c.in-Ready-Some.ensures) c.yield_now.new.self (search rules) (search rules) yields.kept yields.armed yields.heard)

pub returns-in_default : goal.returns-in_default
returns-in_default g c =
    let rest = c.end.ensures.rest in
    all_ended g.St.Stream c.args.self.now c.poll_next_keyed.new.self c.in-Ready-Some.came c.args.cx.now c.poll_next_keyed.new.cx (rw c.in-Ready-Some.field-0-is at c.in-Ready-Some.ensures) c.end.new.self (search rules) (search rules) c.end.ensures.none.0 rest.0 rest.1 c.end.ensures.less c.end.ensures.again

pub push_any-requires-clause-fit : goal.push_any-requires-clause-fit
push_any-requires-clause-fit g c = rest_can_poll g.St.Stream c.args.self.now c.poll_next_keyed.new.self c.in-Ready-Some.came c.args.cx.now c.poll_next_keyed.new.cx (rw c.in-Ready-Some.field-0-is at c.in-Ready-Some.ensures) c.into_future.result c.in-Some.output (search rules) c.into_future.ensures

pub returns : goal.returns
returns g c = item g.St.Stream c.args.self.now c.poll_next_keyed.new.self c.in-Ready-Some.came c.args.cx.now c.poll_next_keyed.new.cx (rw c.in-Ready-Some.field-0-is at c.in-Ready-Some.ensures) c.push_any.new.self c.into_future.result c.push_any.result c.in-Some.output (search rules) c.into_future.ensures c.push_any.ensures
