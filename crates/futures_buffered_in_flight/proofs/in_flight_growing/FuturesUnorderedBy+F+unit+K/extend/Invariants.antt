use Rattle.futures_buffered_in_flight.proofs.Common.{FoldsTo, CanPollAll, WentIn, KeepsRoom}
use Rattle.futures_buffered_in_flight.proofs.in_flight_growing.FuturesUnorderedBy+F+unit+K.extend.Given as goal

abbrev pub invariant-loop-future : goal.invariant-loop-future
invariant-loop-future g l = (goal.iterator-loop-future g).can_next l.future-iterator
    × (goal.iterator-loop-future g).is_finite l.future-iterator
    × FoldsTo (WentIn g.F.Future g.K.Kind.GROWS tt) l.fn.self l.yielded l.self
    × CanPollAll g.F.Future l.self
    × KeepsRoom g.K.Kind.GROWS l.fn.self l.self
