use Rattle.futures_buffered_place.proofs.Common.{arith}
use Rattle.futures_buffered_place.proofs.PlaceLemmas.{comes}
use Rattle.futures_buffered_place.proofs.place.Place.look_anew.Goals as goal

pub load_new_seat-requires : goal.load_new_seat-requires
load_new_seat-requires g c =
    let z = c.self.invariant.0 in (omega arith, comes _ g.J.Shown.made)
