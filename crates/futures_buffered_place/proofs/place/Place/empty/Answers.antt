use Rattle.futures_buffered_place.proofs.Common.{arith, sym, ap, ◌∙◌}
use Rattle.std.proofs.Common.{None}
use Rattle.futures_buffered_place.proofs.PlaceLemmas.{leaves, written}
use Rattle.futures_buffered_place.proofs.place.Place.empty.Goals as goal

pub store-requires : goal.store-requires
store-requires g c = let r = c.requires in let z = c.self.invariant.0 in
    let e = c.exchange-before.ensures in let is = written _ _ r.1.0 None r.1.1 e.3 in
    (e.0 ∙ (r.0 ∙ sym c.self.view_is), omega arith, leaves _ _ g.J.Shown.made c.exchange-before.new.seat.me (λ none. r.2 (sym (ap (λ m. m.0.hand) is) ∙ none)) (ap (λ m. m.1) is))
