use Rattle.futures_buffered_in_flight.proofs.Common.{rules, sym, subst, ℕ, arith, Flights, IsNewInFlight, CanPollQueue}
use Rattle.futures_buffered_in_flight.proofs.InFlightOrderedLemmas.{new_keeps}
use Rattle.futures_buffered_in_flight.proofs.InFlightQueueLemmas.{new_can_poll}
use Rattle.futures_buffered_in_flight.proofs.in_flight_ordered.FuturesOrderedBy.with_slots.Goals as goal

pub invariant_of-result : goal.invariant_of-result
invariant_of-result g c =
    let made = c.in_ok-queue.ensures in
    let set = c.in_ok-set.ensures.made in
    new_keeps g.K.Kind.GROWS c.in_ok-queue.queue c.in_ok-set.set c.args.n c.requires set.made made.set made.entries (λ _. (made.room, omega (arith, set.refuses.fits)))

pub returns-clause-made : goal.returns-clause-made
returns-clause-made g c =
    let made = c.in_ok-queue.ensures in
    let set = c.in_ok-set.ensures.made in
    record {
      made = record {
        new_set = subst (λ (set : Flights g.row.F.Denot ℕ). IsNewInFlight c.args.n set) (sym made.set) set.made;
        no_entries = made.entries;
        has_room = made.room;
      };
      refuses = search (rules, set.refuses.fits);
    }

pub returns-clause-can_poll : goal.returns-clause-can_poll
returns-clause-can_poll g c =
    let set = c.in_ok-set.ensures in
    subst (λ (s : Flights g.row.F.Denot ℕ). CanPollQueue g.F.Future s) (sym c.in_ok-queue.ensures.set) (new_can_poll g.F.Future c.args.n c.in_ok-set.set c.requires set.made.made set.can_poll)
