use Rattle.futures_buffered_core.proofs.Common.{◌≡◌, ◌+◌, ◌≤◌, ◌++◌, List, length, take, vec_len, vec_capacity, Reply, Answers, NamesAllBelow, Mark}
use Rattle.futures_buffered_core.proofs.ready_core.run.Given as goal

abbrev pub invariant-loop-event : goal.invariant-loop-event
invariant-loop-event l =
    record {
      answered : (replies : List Reply) × (l.out.items ≡ l.fn.out.items ++ replies) × Answers l.fn.core.marked (take l.event-index l.events) replies l.core.marked;
      capacity : l.core.capacity ≡ l.fn.core.capacity;
      below : NamesAllBelow Mark l.fn.core.capacity l.events (length l.events);
      room : vec_len l.out + length l.events ≤ vec_capacity l.out + l.event-index;
    }
