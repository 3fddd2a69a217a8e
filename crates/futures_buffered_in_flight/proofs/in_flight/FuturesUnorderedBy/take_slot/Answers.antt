use Rattle.futures_buffered_in_flight.proofs.Common.{rules, refl, ap, arith, ◌<◌, ◌^◌, runs_in}
use Rattle.futures_buffered_in_flight.proofs.AgreesLemmas.{agrees_entered, runs_on, waits_on}
use Rattle.futures_buffered_in_flight.specs.Ledger.{Account, told_to}
use Rattle.futures_buffered_in_flight.proofs.in_flight.FuturesUnorderedBy.take_slot.Goals as goal

pub invariant_of-self : goal.invariant_of-self
invariant_of-self g c =
    let keeps = c.self.invariant.2 in
    let book = c.give.ensures.book in
    let id = ap (λ (a : Account). a.id) book in
    let clears = ap (λ (a : Account). a.clears) book in
    let small : c.self.inside.next < 2 ^ 64 = search rules in (
      search rules,
      search rules,
      record {
        agrees = agrees_entered c.self.inside.slots c.insert_with.new.self c.self.inside.ledger c.give.new.self c.self.inside.cancelled
            (record { tag = c.args.tag; push = c.self.inside.next }) (record { push = c.self.inside.next; slot = c.in-Ok.slot })
            keeps.agrees (search rules) refl (ap (λ (a : Account). a.tickets) book) (ap (λ (a : Account). a.told) book) (keeps.below c.in-Ok.slot);
        runs = runs_on c.self.inside.ledger c.give.new.self id clears (runs_in c.self.inside.running) keeps.runs;
        waits = waits_on c.self.inside.ledger c.give.new.self id clears c.self.inside.waiting.items keeps.waits;
        below = λ slot. omega (arith, keeps.below slot, ap (λ (a : Account). told_to a.told slot) book, c.saturating_add-self-inside.ensures, small);
      },
      search rules,
      search rules,
    )
