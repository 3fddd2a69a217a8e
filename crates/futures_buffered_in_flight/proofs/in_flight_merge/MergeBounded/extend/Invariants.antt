use Rattle.futures_buffered_in_flight.proofs.Common.{◌≡◌, FoldsTo, CanPollStreams, StreamWentIn}
use Rattle.futures_buffered_in_flight.proofs.in_flight_merge.MergeBounded.extend.Given as goal

abbrev pub invariant-loop-stream : goal.invariant-loop-stream
invariant-loop-stream g l = (goal.iterator-loop-stream g).can_next l.stream-iterator
    × (goal.iterator-loop-stream g).is_finite l.stream-iterator
    × FoldsTo (StreamWentIn g.St.Stream) l.fn.self l.yielded l.self
    × CanPollStreams g.St.Stream l.self
    × (l.self.limit ≡ l.fn.self.limit)
