use Rattle.futures_buffered_in_flight.proofs.Common.{rules, arith, FoldsTo-push, common_steps, length_push, EntersBack}
use Rattle.futures_buffered_in_flight.proofs.InFlightQueueLemmas.{room_on}
use Rattle.futures_buffered_in_flight.proofs.from_iter.push_in_turn.Goals as goal

pub futures-preserved : goal.futures-preserved
futures-preserved g c =
    let pushed = c.in-Ok.ensures in (
      FoldsTo-push (EntersBack g.F.Future g.K.Kind.GROWS) c.args.queue.now c.futures.yielded c.futures.queue c.in-Some.future c.add_back.new.self c.futures.invariant.0 pushed.went_in,
      omega (arith, pushed.went_in.one_more, c.futures.invariant.1, length_push c.futures.yielded c.in-Some.future),
      room_on g.K.Kind.GROWS _ _ _ c.futures.invariant.2 pushed.went_in.same_room,
      pushed.again,
      first_of (search rules, grind (arith, common_steps)),
    )
