use Rattle.futures_buffered_in_flight.proofs.Common.{rules, ap, arith}
use Rattle.futures_buffered_in_flight.proofs.AgreesLemmas.{agrees_forgotten}
use Rattle.futures_buffered_in_flight.specs.Ledger.{Account, told_to}
use Rattle.futures_buffered_in_flight.proofs.in_flight.FuturesUnorderedBy.drop_all.Goals as goal

pub invariant_of-self : goal.invariant_of-self
invariant_of-self g c =
    let keeps = c.self.invariant.2 in
    let cleared = c.clear-2.ensures in (
      search rules,
      search rules,
      record {
        agrees = agrees_forgotten c.self.inside.slots c.self.inside.ledger c.clear-2.new.self c.self.inside.cancelled keeps.agrees (ap (λ (a : Account). a.tickets) cleared) (ap (λ (a : Account). a.told) cleared);
        runs = tt;
        waits = rw c.clear.ensures.items tt;
        below = λ slot. omega (arith, keeps.below slot, ap (λ (a : Account). told_to a.told slot) cleared);
      },
      search rules,
      search rules,
    )
