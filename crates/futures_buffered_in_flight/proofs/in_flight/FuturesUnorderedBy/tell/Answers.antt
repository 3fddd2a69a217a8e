use Rattle.futures_buffered_in_flight.proofs.Common.{rules, arith, inl, inr, runs_in}
use Rattle.futures_buffered_in_flight.proofs.AgreesLemmas.{agrees_told, runs_on, waits_on}
use Rattle.futures_buffered_in_flight.proofs.in_flight.FuturesUnorderedBy.tell.Goals as goal

pub invariant_of-self : goal.invariant_of-self
invariant_of-self g c =
    let keeps = c.self.invariant.2 in
    let same = c.tell.ensures.rest in
    let told = c.tell.ensures.told in (
      search rules,
      search rules,
      record {
        agrees = agrees_told c.self.inside.slots c.self.inside.ledger c.tell.new.self c.self.inside.cancelled c.args.key keeps.agrees (rw (← c.self.view_is) at c.requires) same.2 told;
        runs = runs_on c.self.inside.ledger c.tell.new.self same.0 same.1 (runs_in c.self.inside.running) keeps.runs;
        waits = waits_on c.self.inside.ledger c.tell.new.self same.0 same.1 c.self.inside.waiting.items keeps.waits;
        below = λ slot. elim (told slot) [
          | inl less ↦ omega (arith, less, keeps.below slot)
          | inr at ↦ omega (arith, at.1, c.if-key-self.true)
        ];
      },
      search rules,
      search rules,
    )
