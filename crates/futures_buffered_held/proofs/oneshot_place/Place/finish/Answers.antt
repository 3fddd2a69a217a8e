use Rattle.futures_buffered_held.proofs.Common.{rules, ◌∷◌, ap, ◌∙◌, Me, rest, Left, View}
use Rattle.futures_buffered_held.proofs.OneshotPlaceLemmas.{sender_looked, looks, finishes}
use Rattle.futures_buffered_held.proofs.oneshot_place.Place.finish.Goals as goal

pub load-requires : goal.load-requires
load-requires g c = (search rules, search rules, looks _ _ _)

pub swap-requires : goal.swap-requires
swap-requires g c =
    let begun = sender_looked _ _ _ c.requires.1 c.load.ensures.2 in
    (search rules, search rules, finishes _ _ c.args.sent _ (c.exchange.ensures.3 ∙ ap (λ (m : Me (Left g.row.T.Denot g.row.W.Denot) (View g.row.T.Denot)). (m.0, (0, c.args.sent) ∷ rest m.1)) begun.1))
