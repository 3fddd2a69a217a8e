use Rattle.futures_buffered_held.proofs.Common.{rules, ℕ, ◌∷◌, ap, sym, ◌∙◌, List, rest, Left, Value}
use Rattle.futures_buffered_held.proofs.oneshot_place.Place.take_back.Goals as goal

pub exchange-requires : goal.exchange-requires
exchange-requires g c =
    let held = c.requires.1 in
    (search rules, (Value held.0, held.1 ∙ ap (λ (l : List (ℕ × Left g.row.T.Denot g.row.W.Denot)). (0, Value held.0) ∷ rest l) (sym held.1)))
