use Rattle.futures_buffered_in_flight.proofs.Common.{rules, arith, ap, ◌-◌, runs_in}
use Rattle.futures_buffered_in_flight.proofs.AgreesLemmas.{agrees_ended, agrees_some, runs_on, times_unheld, waits_on}
use Rattle.futures_buffered_in_flight.specs.Ledger.{Account, told_to}
use Rattle.futures_buffered_in_flight.proofs.in_flight.FuturesUnorderedBy.end_cancelled.Goals as goal

pub overflow_sub-self : goal.overflow_sub-self
overflow_sub-self g c =
    let unheld = times_unheld c.self.inside.slots c.args.ticket.key (rw (← c.self.view_is) at c.requires.over) in
    agrees_some c.self.inside.slots c.self.inside.ledger c.self.inside.cancelled c.args.ticket.key c.self.invariant.2.agrees c.take_back.ensures.given unheld

pub invariant_of-self : goal.invariant_of-self
invariant_of-self g c =
    let keeps = c.self.invariant.2 in
    let book = c.take_back.ensures.book in
    let id = ap (λ (a : Account). a.id) book in
    let clears = ap (λ (a : Account). a.clears) book in
    let unheld = times_unheld c.self.inside.slots c.args.ticket.key (rw (← c.self.view_is) at c.requires.over) in
    let some = agrees_some c.self.inside.slots c.self.inside.ledger c.self.inside.cancelled c.args.ticket.key keeps.agrees c.take_back.ensures.given unheld in
    let room = rw (← c.self.view_is) at c.requires.room in (
      search rules,
      search rules,
      record {
        agrees = agrees_ended c.self.inside.slots c.self.inside.ledger c.take_back.new.self c.self.inside.cancelled (c.self.inside.cancelled - 1) c.args.ticket.key keeps.agrees c.take_back.ensures.given unheld
            (ap (λ (a : Account). a.tickets) book) (ap (λ (a : Account). a.told) book) (omega (arith, some));
        runs = runs_on c.self.inside.ledger c.take_back.new.self id clears (runs_in c.self.inside.running) keeps.runs;
        waits = waits_on c.self.inside.ledger c.take_back.new.self id clears c.self.inside.waiting.items keeps.waits;
        below = λ slot. omega (arith, keeps.below slot, ap (λ (a : Account). told_to a.told slot) book);
      },
      omega (arith, some, room),
      omega (arith, some, c.self.invariant.4),
    )

pub returns-clause-fewer : goal.returns-clause-fewer
returns-clause-fewer g c =
    let unheld = times_unheld c.self.inside.slots c.args.ticket.key (rw (← c.self.view_is) at c.requires.over) in
    let some = agrees_some c.self.inside.slots c.self.inside.ledger c.self.inside.cancelled c.args.ticket.key c.self.invariant.2.agrees c.take_back.ensures.given unheld in
    rw (← c.self.view_is) (omega (arith, some))
