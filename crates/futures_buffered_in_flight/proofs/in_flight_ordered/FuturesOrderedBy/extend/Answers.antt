use Rattle.futures_buffered_in_flight.proofs.Common.{rules, FoldsTo-push, EntersBack}
use Rattle.futures_buffered_in_flight.proofs.InFlightQueueLemmas.{room_on}
use Rattle.futures_buffered_in_flight.proofs.in_flight_ordered.FuturesOrderedBy.extend.Goals as goal

pub add_back-requires-clause-fit : goal.add_back-requires-clause-fit
add_back-requires-clause-fit g c = c.requires.each c.into_iter-future-iterator.result (search rules) c.loop-future.yielded c.in-Some.future c.next.new.self (search rules)

pub loop-future-preserved : goal.loop-future-preserved
loop-future-preserved g c =
    let pushed = c.in_default.ensures in (
      search rules,
      search rules,
      FoldsTo-push (EntersBack g.F.Future g.K.Kind.GROWS) c.args.self.now c.loop-future.yielded c.loop-future.self c.in-Some.future c.add_back.new.self c.loop-future.invariant.2 pushed.went_in,
      pushed.again,
      room_on g.K.Kind.GROWS _ _ _ c.loop-future.invariant.4 pushed.went_in.same_room,
    )
