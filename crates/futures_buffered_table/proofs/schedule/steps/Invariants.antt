use Rattle.futures_buffered_table.proofs.Common.{◌≡◌, ◌+◌, ◌≤◌, length, take, vec_len, vec_capacity, Leads, replies_to}
use Rattle.futures_buffered_table.proofs.schedule.steps.Given as goal

abbrev pub invariant-loop-k : goal.invariant-loop-k
invariant-loop-k l =
    record {
      capacity : l.machine.capacity ≡ l.capacity;
      leads : Leads (take l.k l.steps) l.machine;
      replied : l.replies.items ≡ replies_to l.machine (take l.k l.steps);
      room : vec_len l.replies + length l.steps ≤ vec_capacity l.replies + l.k;
    }
