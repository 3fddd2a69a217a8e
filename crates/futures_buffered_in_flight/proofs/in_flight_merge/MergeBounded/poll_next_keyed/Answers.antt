use Rattle.futures_buffered_in_flight.proofs.Common.{rules}
use Rattle.futures_buffered_in_flight.proofs.InFlightMergeLemmas.{can_poll_same}
use Rattle.futures_buffered_in_flight.proofs.in_flight_merge.MergeBounded.poll_next_keyed.Goals as goal

pub poll_streams-requires : goal.poll_streams-requires
poll_streams-requires g c = can_poll_same g.St.Stream c.args.self.now.set c.in-Some.set c.requires (search rules)
