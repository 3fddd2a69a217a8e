use Rattle.futures_buffered_held.proofs.Common.{rules}
use Rattle.futures_buffered_held.proofs.OneshotPlaceLemmas.{looks}
use Rattle.futures_buffered_held.proofs.oneshot_place.Place.look.Goals as goal

pub load-requires : goal.load-requires
load-requires g c = (search rules, search rules, looks _ _ _)
