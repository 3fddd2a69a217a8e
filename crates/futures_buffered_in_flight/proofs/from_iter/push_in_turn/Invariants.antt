use Rattle.futures_buffered_in_flight.proofs.Common.{◌≡◌, ◌++◌, length, FoldsTo, into_iter_items, CanPollOrdered, EntersBack, KeepsRoom}
use Rattle.futures_buffered_in_flight.proofs.from_iter.push_in_turn.Given as goal

abbrev pub invariant-futures : goal.invariant-futures
invariant-futures g l = FoldsTo (EntersBack g.F.Future g.K.Kind.GROWS) l.fn.queue l.yielded l.queue
    × (length l.queue.entries ≡ length l.yielded)
    × KeepsRoom g.K.Kind.GROWS l.fn.queue.set l.queue.set
    × CanPollOrdered g.F.Future l.queue
    × (l.fn.futures.items ≡ l.yielded ++ into_iter_items l.future-iterator)
