use Rattle.futures_buffered_joins.proofs.Common.{sym, ap, replicate, true, ◌∙◌, arith, rules, FliesInOrder}
use Rattle.futures_buffered_joins.proofs.InFlightJoinLemmas.{all_fly}
use Rattle.futures_buffered_joins.proofs.JoinLemmas.{is_new}
use Rattle.futures_buffered_joins.proofs.in_flight_join.join_by+JoinBy+R+FuturesUnorderedBounded+F+A.over.Goals as goal

pub new-requires : goal.new-requires
new-requires g c =
    let holds = c.in_ok-set.ensures.made.holds in
    all_fly g.F.Future holds.0 c.in_ok-set.set holds.2 ∙ ap (λ n. replicate n true) (sym c.capacity-places.ensures)

pub returns-clause-made : goal.returns-clause-made
returns-clause-made g c =
    let made = c.in_ok-set.ensures.made in
    let holds = made.holds in
    let new = is_new (FliesInOrder g.F.Future) holds.0 c.in_ok-set.set c.capacity-places.result c.in_ok-join.join c.in_ok-join.ensures holds.2 (c.capacity-places.ensures ∙ holds.2.as_many) in
    record { holds = (holds.0, holds.1, new.0); fits = omega (arith, new.1, c.capacity-places.ensures, made.fits); large = search rules }
