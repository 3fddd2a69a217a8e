use Rattle.futures_buffered_in_flight.proofs.Common.{◌≡◌, ◌++◌, length, into_iter_items}
use Rattle.futures_buffered_in_flight.proofs.FromIterLemmas.{PushedSoFar}
use Rattle.futures_buffered_in_flight.proofs.from_iter.push_all.Given as goal

abbrev pub invariant-futures : goal.invariant-futures
invariant-futures g l = PushedSoFar g.F.Future (length l.fn.futures.items) l.yielded l.set
    × (l.fn.futures.items ≡ l.yielded ++ into_iter_items l.future-iterator)
