use Rattle.futures_buffered_ordered.proofs.Common.{rules, ◌∙◌, ap, arith, Bounded, Numbered}
use Rattle.futures_buffered_ordered.proofs.FuturesOrderedBoundedLemmas.{new_keeps}
use Rattle.futures_buffered_ordered.proofs.futures_ordered_bounded.BoundedQueue+T+A+S.over_limit.Goals as goal

pub invariant_of-result : goal.invariant_of-result
invariant_of-result g c =
    let made = c.in_ok-queue.ensures in
    let free = ap (λ (set : Bounded (Numbered g.row.T.Denot) g.row.S.Denot). set.slots) made.set ∙ c.in_ok-set.ensures.made.none_held in
    new_keeps c.in_ok-queue.queue c.args.n free made.entries made.room (omega (arith, c.in_ok-set.ensures.refuses.fits))

pub returns : goal.returns
returns g c =
    let made = c.in_ok-queue.ensures in
    let set = c.in_ok-set.ensures in
    record {
      made = record { new_set = rw made.set set.made; no_entries = made.entries; has_room = made.room };
      refuses = search (rules, set.refuses.fits);
    }
