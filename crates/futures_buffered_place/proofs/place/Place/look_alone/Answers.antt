use Rattle.futures_buffered_place.proofs.Common.{arith, sym, ◌∙◌}
use Rattle.futures_buffered_place.proofs.PlaceLemmas.{looks_alone}
use Rattle.futures_buffered_place.proofs.place.Place.look_alone.Goals as goal

pub load-requires : goal.load-requires
load-requires g c = let r = c.requires in let z = c.self.invariant.0 in
    (r.0.0 ∙ sym c.self.view_is, omega arith, looks_alone _ _ g.J.Shown.made c.args.seat.now.me r.0.1 r.0.2 r.1)
