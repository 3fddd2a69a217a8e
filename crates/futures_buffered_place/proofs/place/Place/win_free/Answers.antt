use Rattle.futures_buffered_place.proofs.Common.{arith, sym, ◌∙◌}
use Rattle.futures_buffered_place.proofs.PlaceLemmas.{takes_free}
use Rattle.futures_buffered_place.proofs.place.Place.win_free.Goals as goal

pub compare_exchange-requires : goal.compare_exchange-requires
compare_exchange-requires g c = let r = c.requires in let z = c.self.invariant.0 in
    (r.0.0 ∙ sym c.self.view_is, omega arith, takes_free _ _ g.J.Shown.made c.args.seat.now.me r.0.1 r.0.2 r.1)
