use Rattle.futures_buffered_in_flight.proofs.Common.{rules, ◌∙◌, FoldsTo-push, StreamWentIn}
use Rattle.futures_buffered_in_flight.proofs.in_flight_merge.MergeBounded.extend.Goals as goal

pub try_push-requires-clause-new : goal.try_push-requires-clause-new
try_push-requires-clause-new g c = c.requires.each c.into_iter-stream-iterator.result (search rules) c.loop-stream.yielded c.in-Some.stream c.next.new.self (search rules)

pub loop-stream-preserved : goal.loop-stream-preserved
loop-stream-preserved g c =
    let pushed = c.in_default.ensures in (
      search rules,
      search rules,
      FoldsTo-push (StreamWentIn g.St.Stream) c.args.self.now c.loop-stream.yielded c.loop-stream.self c.in-Some.stream c.try_push.new.self c.loop-stream.invariant.2 (c.in_default.field-0, pushed),
      pushed.again,
      pushed.same_limit ∙ c.loop-stream.invariant.4,
    )
