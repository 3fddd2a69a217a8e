use Rattle.futures_buffered_held.proofs.Common.{rules, List, [], ◌∷◌, ◌++◌, ap, ◌∙◌, sym, subst, opening, Left, Nothing, Both, HoldsOne}
use Rattle.futures_buffered_held.proofs.OneshotPlaceLemmas.{opens, cuts}
use Rattle.futures_buffered_held.proofs.oneshot_place.Place.new.Goals as goal

pub new-requires : goal.new-requires
new-requires g c =
    let add = λ (l : List (Left g.row.T.Denot g.row.W.Denot)). l ++ Nothing ∷ [] in
    let items = c.push_reserved-2.ensures.items ∙ ap add (c.push_reserved.ensures.items ∙ ap add c.in_ok-places.ensures.items) in
    subst (λ (l : List (Left g.row.T.Denot g.row.W.Denot)). HoldsOne (opening (1 ∷ []) l Both)) (sym items) opens

pub split_seat-receiver-requires : goal.split_seat-receiver-requires
split_seat-receiver-requires g c = (search rules, search rules, cuts _ _ (search rules))
