use Rattle.futures_buffered_in_flight.proofs.Common.{rules}
use Rattle.futures_buffered_in_flight.proofs.InFlightMergeLemmas.{can_poll_same, pushed_first}
use Rattle.futures_buffered_in_flight.proofs.in_flight_merge.MergeBounded.try_push.Goals as goal

pub push_stream-requires-clause-held : goal.push_stream-requires-clause-held
push_stream-requires-clause-held g c = can_poll_same g.St.Stream c.args.self.now.set c.in-Some.set c.requires.held (search rules)

pub returns-in-Ok-push_stream : goal.returns-in-Ok-push_stream
returns-in-Ok-push_stream g c =
    let full = rw (← c.self.view_is) at c.if-is_full.ensures in
    let full = rw c.in_default.is at full in
    rw (← c.self.view_is) (rw c.in_default.is (pushed_first g.St.Stream c.in-Ok.set c.push_stream-2.new.self c.self.inside.limit c.args.stream c.in-Ok-push_stream.key
    c.in-Ok.ensures.made.made c.in-Ok.ensures.first full.1 c.in-Ok-push_stream.ensures.went_in c.in-Ok-push_stream.ensures.again))
