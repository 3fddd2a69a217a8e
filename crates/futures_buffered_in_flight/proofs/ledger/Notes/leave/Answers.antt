use Rattle.std.proofs.Common.{rules, subst, sym}
use Rattle.futures_buffered_in_flight.specs.LedgerRule.{Mine, MayLeave, items_of}
use Rattle.futures_buffered_in_flight.proofs.LedgerRuleLemmas.{leaves}
use Rattle.futures_buffered_in_flight.proofs.ledger.Notes.leave.Goals as goal

pub store-requires : goal.store-requires
store-requires c = (
  search rules,
  search rules,
  leaves _ _ _ c.args.numbers (search rules)
      (subst (λ (m : Mine). MayLeave m.0 (items_of c.args.numbers)) (sym c.exchange.ensures.3) c.requires.2),
)
