use Rattle.futures_buffered_in_flight.proofs.Common.{◌≡◌, ◌<◌, ◌⊎◌, [], Keeps, held_count, IsWoken, Starts}
use Rattle.futures_buffered_in_flight.proofs.in_flight.FuturesUnorderedBy.poll_next_keyed.Given as goal

abbrev pub invariant-turns : goal.invariant-turns
invariant-turns g l = Starts g.F.Future l.fn.self l.self
    × Keeps l.fn.cx l.cx
    × (0 < held_count l.self.slots)
    × ((l.self.waiting ≡ []) ⊎ IsWoken l.cx)
