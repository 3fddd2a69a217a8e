use Rattle.futures_buffered_place.proofs.Common.{arith, sym, ◌∙◌}
use Rattle.futures_buffered_place.proofs.PlaceLemmas.{goes_for_it}
use Rattle.futures_buffered_place.proofs.place.Place.win.Goals as goal

pub compare_exchange-requires : goal.compare_exchange-requires
compare_exchange-requires g c = let r = c.requires in let z = c.self.invariant.0 in
    (r.0 ∙ sym c.self.view_is, omega arith, goes_for_it _ _ g.J.Shown.made c.args.seat.now.me r.1 r.2)
