use Rattle.futures_buffered_held.proofs.Common.{rules, ◌∷◌, ap, ◌∙◌, Me, rest, Left, Waker, View}
use Rattle.futures_buffered_held.proofs.OneshotPlaceLemmas.{registers}
use Rattle.futures_buffered_held.proofs.oneshot_place.Place.register.Goals as goal

pub compare_exchange-requires : goal.compare_exchange-requires
compare_exchange-requires g c = (search rules, search rules, registers _ _ (Waker c.args.waker) _ (c.exchange.ensures.3 ∙ ap (λ (m : Me (Left g.row.T.Denot g.row.W.Denot) (View g.row.T.Denot)). (m.0, (1, Waker c.args.waker) ∷ rest m.1)) c.in_default.ensures.answer.1))
