use Rattle.futures_buffered_place.proofs.Common.{arith, sym, ◌∙◌}
use Rattle.futures_buffered_place.proofs.PlaceLemmas.{looks_on}
use Rattle.futures_buffered_place.proofs.place.Place.look.Goals as goal

pub load-requires : goal.load-requires
load-requires g c = let r = c.requires in let z = c.self.invariant.0 in
    (r.0 ∙ sym c.self.view_is, omega arith, looks_on _ _ g.J.Shown.made c.args.seat.now.me r.1 r.2)
