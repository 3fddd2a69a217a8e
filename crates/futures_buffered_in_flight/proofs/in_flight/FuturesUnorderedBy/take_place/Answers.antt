use Rattle.futures_buffered_in_flight.proofs.Common.{rules, subst, sym, Agrees, with_slot_freed, ◌+◌, ◌≡◌, ◌∙◌}
use Rattle.futures_buffered_in_flight.proofs.AgreesLemmas.{agrees_cancelled}
use Rattle.futures_buffered_in_flight.proofs.in_flight.FuturesUnorderedBy.take_place.Goals as goal

pub invariant_of-self : goal.invariant_of-self
invariant_of-self g c =
    let keeps = c.self.invariant.2 in
    let freed : c.take.new.self ≡ with_slot_freed c.self.inside.slots c.args.key.slot = search rules in
    let agrees = agrees_cancelled c.self.inside.slots c.self.inside.ledger c.self.inside.cancelled c.in-Some.place c.args.key keeps.agrees (sym c.take.ensures.value ∙ c.in-Some.is) (search rules) in (
      search rules,
      search rules,
      record {
        agrees = subst (λ slots. Agrees slots c.self.inside.ledger (c.self.inside.cancelled + 1)) (sym freed) agrees;
        runs = keeps.runs;
        waits = keeps.waits;
        below = keeps.below;
      },
      search rules,
      search rules,
    )
