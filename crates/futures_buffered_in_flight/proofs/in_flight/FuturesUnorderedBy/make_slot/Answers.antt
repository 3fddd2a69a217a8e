use Rattle.futures_buffered_in_flight.proofs.Common.{rules, arith}
use Rattle.futures_buffered_in_flight.proofs.AgreesLemmas.{agrees_wide}
use Rattle.futures_buffered_in_flight.proofs.InFlightLemmas.{grown_counts, grown_values}
use Rattle.futures_buffered_in_flight.proofs.in_flight.FuturesUnorderedBy.make_slot.Goals as goal

pub invariant_of-self-2 : goal.invariant_of-self-2
invariant_of-self-2 g c =
    let keeps = c.self.invariant.2 in
    let values = grown_values c.self.inside.slots c.grow_by_one.new.self c.grow_by_one.result c.grow_by_one.ensures.grown c.grow_by_one.ensures.same in
    let counts = grown_counts c.self.inside.slots c.grow_by_one.new.self c.grow_by_one.result c.grow_by_one.ensures.grown c.grow_by_one.ensures.same in (
      omega (arith, counts.2, c.in_ok-reserve.ensures.ok, c.in_ok-reserve.ensures.len, c.in-Some.ensures, c.capacity.ensures, c.len.ensures),
      search rules,
      rw c.in_ok-reserve-2.ensures.ledger (rw c.in_ok-reserve.ensures.items (record {
        agrees = agrees_wide c.self.inside.slots c.grow_by_one.new.self c.self.inside.ledger c.self.inside.cancelled values keeps.agrees;
        runs = keeps.runs;
        waits = keeps.waits;
        below = keeps.below;
      })),
      search rules,
      omega (arith, counts.0, counts.1, c.self.invariant.4),
    )
