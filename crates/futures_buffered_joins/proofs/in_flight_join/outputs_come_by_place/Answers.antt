use Rattle.futures_buffered_joins.proofs.Common.{FliesInOrder, flights_waiting}
use Rattle.futures_buffered_joins.proofs.JoinLemmas.{joins_by_place}
use Rattle.futures_buffered_joins.proofs.in_flight_join.outputs_come_by_place.Goals as goal

pub returns : goal.returns
returns g c = joins_by_place flights_waiting _ g.R.JoinRule (FliesInOrder g.F.Future) (λ _. g.F.Future.gives) (λ items set holds. holds.own)
