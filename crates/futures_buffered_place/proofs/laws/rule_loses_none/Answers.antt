use Rattle.futures_buffered_place.proofs.PlaceLemmas.{losing_none}
use Rattle.futures_buffered_place.proofs.laws.rule_loses_none.Goals as goal

pub returns : goal.returns
returns g c =
    losing_none
