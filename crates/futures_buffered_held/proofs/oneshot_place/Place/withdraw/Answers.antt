use Rattle.futures_buffered_held.proofs.Common.{rules}
use Rattle.futures_buffered_held.proofs.OneshotPlaceLemmas.{withdraws}
use Rattle.futures_buffered_held.proofs.oneshot_place.Place.withdraw.Goals as goal

pub compare_exchange-requires : goal.compare_exchange-requires
compare_exchange-requires g c = (search rules, search rules, withdraws _ _ _ c.requires.1)
