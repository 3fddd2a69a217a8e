use Rattle.futures_buffered_held.proofs.Common.{rules, subst, looked}
use Rattle.futures_buffered_held.proofs.OneshotPlaceLemmas.{matches, looks, answered}
use Rattle.futures_buffered_held.proofs.oneshot_place.Place.compare.Goals as goal

pub join_seat-requires : goal.join_seat-requires
join_seat-requires g c = (search rules, search rules, search rules, search rules, matches _ _ _ _)

pub load-requires : goal.load-requires
load-requires g c = (search rules, search rules, looks _ _ _)

pub returns-clause-equal : goal.returns-clause-equal
returns-clause-equal g c = answered _ _ _ _ _ (subst (λ m. looked m c.load.result c.load.new.seat.me) c.join_seat.ensures.2 c.load.ensures.2)
