use Rattle.futures_buffered_table.proofs.Common.{◌≡◌, ◌++◌, ℕ, All, steps_of, unmarks}
use Rattle.futures_buffered_table.proofs.ready_list.ReadyList.close.Given as goal

abbrev pub invariant-loop-seat : goal.invariant-loop-seat
invariant-loop-seat l =
    record {
      whole : l.all.steps ++ steps_of l.seat-iterator.rest.items ≡ l.fn.poll.steps ++ steps_of l.fn.seats.items;
      kept : (e : ℕ) → unmarks e l.all.steps ≡ unmarks e l.fn.poll.steps;
      here : (l.all.list ≡ l.fn.self.list) × (l.all.head ≡ l.fn.poll.head);
      theirs : All (λ s. s.list ≡ l.fn.self.list) l.seat-iterator.rest.items;
    }
