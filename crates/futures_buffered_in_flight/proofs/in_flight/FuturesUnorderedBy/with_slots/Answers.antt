use Rattle.futures_buffered_in_flight.proofs.Common.{rules, refl, arith, ap, ◌≡◌, ◌∙◌, None, Place, held_count, length-replicate, slot_count}
use Rattle.futures_buffered_in_flight.proofs.AgreesLemmas.{agrees_none}
use Rattle.futures_buffered_in_flight.proofs.InFlightQueueLemmas.{none_held}
use Rattle.futures_buffered_in_flight.proofs.in_flight.FuturesUnorderedBy.with_slots.Goals as goal

pub invariant_of-result : goal.invariant_of-result
invariant_of-result g c =
    let held : held_count c.in_ok-slots.slots ≡ 0 = ap held_count c.in_ok-slots.ensures.made ∙ none_held (Place g.row.T.Denot) c.args.n in
    let count : slot_count c.in_ok-slots.slots ≡ c.args.n = ap slot_count c.in_ok-slots.ensures.made ∙ length-replicate c.args.n None in
    let capacity = c.in_ok-waiting.ensures.capacity in (
      omega (arith, count, capacity),
      search rules,
      record {
        agrees = agrees_none c.in_ok-slots.slots c.in_ok-ledger.ledger 0 held c.in_ok-ledger.ensures.none refl;
        runs = tt;
        waits = rw c.in_ok-waiting.ensures.items tt;
        below = λ slot. let untold = c.in_ok-ledger.ensures.untold slot in omega (arith, untold);
      },
      search rules,
      omega (arith, held, count),
    )
