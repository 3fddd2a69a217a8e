use Rattle.futures_buffered_in_flight.proofs.Common.{FoldsTo, CanPollOrdered, EntersBack, KeepsRoom}
use Rattle.futures_buffered_in_flight.proofs.in_flight_ordered.FuturesOrderedBy.extend.Given as goal

abbrev pub invariant-loop-future : goal.invariant-loop-future
invariant-loop-future g l = (goal.iterator-loop-future g).can_next l.future-iterator
    × (goal.iterator-loop-future g).is_finite l.future-iterator
    × FoldsTo (EntersBack g.F.Future g.K.Kind.GROWS) l.fn.self l.yielded l.self
    × CanPollOrdered g.F.Future l.self
    × KeepsRoom g.K.Kind.GROWS l.fn.self.set l.self.set
