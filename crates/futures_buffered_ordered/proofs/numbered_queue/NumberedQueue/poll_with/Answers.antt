use Rattle.futures_buffered_ordered.proofs.OrderedEntriesInvariantLemmas.{still_keeps}
use Rattle.futures_buffered_ordered.proofs.numbered_queue.NumberedQueue.poll_with.Goals as goal

pub invariant_of-self : goal.invariant_of-self
invariant_of-self g c =
    let set = g.Q.NumberedSet in
    let left = c.poll_entries.ensures in
    still_keeps set.with_number set.count set.places c.self.inside.queue c.poll_entries.new.self c.self.invariant left.numbered (g.met.Q.NumberedSet.keeps_places _ _ left.polls.queue.set) left.polls.queue.room

pub returns : goal.returns
returns g c = rw (← c.self.view_is) c.poll_entries.ensures.polls
