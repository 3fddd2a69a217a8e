use Rattle.futures_buffered_in_flight.proofs.Common.{rules, ap, Streams, next_of}
use Rattle.futures_buffered_in_flight.proofs.InFlightLemmas.{wide_can_poll}
use Rattle.futures_buffered_in_flight.proofs.InFlightMergeLemmas.{pushed}
use Rattle.futures_buffered_in_flight.proofs.in_flight_merge.FuturesUnorderedBy+StreamFuture+St+u64+K.push_stream.Goals as goal

pub push_any-requires-clause-held : goal.push_any-requires-clause-held
push_any-requires-clause-held g c = wide_can_poll (next_of g.St.Stream) c.args.self.now c.make_room.new.self c.requires.held (search rules)

pub returns-clause-went_in : goal.returns-clause-went_in
returns-clause-went_in g c = pushed g.St.Stream c.args.self.now c.make_room.new.self c.push_any.new.self c.into_future.result c.args.stream c.self.inside.next c.push_any.result c.into_future.ensures (ap (λ (s : Streams g.row.St.Denot). s.next) c.self.view_is) (search rules) c.push_any.ensures
