use Rattle.futures_buffered_in_flight.proofs.Common.{rules, FoldsTo-push, WentIn}
use Rattle.futures_buffered_in_flight.proofs.InFlightQueueLemmas.{kept_room, room_on}
use Rattle.futures_buffered_in_flight.proofs.in_flight_growing.FuturesUnorderedBy+F+unit+K.extend.Goals as goal

pub admit_untagged-requires-clause-fit : goal.admit_untagged-requires-clause-fit
admit_untagged-requires-clause-fit g c = c.requires.each c.into_iter-future-iterator.result (search rules) c.loop-future.yielded c.in-Some.future c.next.new.self (search rules)

pub loop-future-preserved : goal.loop-future-preserved
loop-future-preserved g c =
    let pushed = c.in_default.ensures.pushes.went_in in (
      search rules,
      search rules,
      FoldsTo-push (WentIn g.F.Future g.K.Kind.GROWS tt) c.args.self.now c.loop-future.yielded c.loop-future.self c.in-Some.future c.admit_untagged.new.self c.loop-future.invariant.2 (c.in_default.field-0, pushed),
      c.admit_untagged.ensures.again,
      room_on g.K.Kind.GROWS _ _ _ c.loop-future.invariant.4 (kept_room g.F.Future c.loop-future.self c.admit_untagged.new.self c.in-Some.future tt g.K.Kind.GROWS (c.in_default.field-0, pushed)),
    )
