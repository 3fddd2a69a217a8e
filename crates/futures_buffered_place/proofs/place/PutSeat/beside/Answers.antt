use Rattle.futures_buffered_place.proofs.Common.{arith, sym, ap, ◌∙◌}
use Rattle.futures_buffered_place.proofs.PlaceLemmas.{splits}
use Rattle.futures_buffered_place.proofs.place.PutSeat.beside.Goals as goal

pub split_seat-other-requires : goal.split_seat-other-requires
split_seat-other-requires g c =
    let z = c.place.invariant.0 in (ap (λ s. s.place) c.self.view_is ∙ (c.requires ∙ sym c.place.view_is), omega arith, splits _ c.self.inside.seat.me.0 c.self.inside.alone c.self.invariant.right c.self.invariant.rests)
