use Rattle.futures_buffered_unordered.proofs.Common.{◌≡◌, ◌∷◌, ◌++◌, [], List, sym, ap, subst, ◌∙◌, Bounded, IsNewSet, Growing, spare_places, All, WaitsAlike}
use Rattle.futures_buffered_unordered.proofs.FuturesUnorderedLemmas.{keeps_added}
use Rattle.futures_buffered_unordered.proofs.futures_unordered.GrowingSet.add_group.Goals as goal

pub invariant_of-self-2 : goal.invariant_of-self-2
invariant_of-self-2 g c =
    let same = sym (c.self.view_is ∙ c.in_ok-group.ensures.same) in
    let full = subst (λ (v : Growing g.row.F.Denot g.row.S.Denot). spare_places v.groups.listed ≡ 0) same c.requires.full in
    let new = subst (λ (v : Growing g.row.F.Denot g.row.S.Denot). IsNewSet g.S.NewSource.made c.args.capacity v.limit c.in_ok-group.group) same c.in_ok-group.ensures.group.made in
    let beside = subst (λ (v : Growing g.row.F.Denot g.row.S.Denot). All (λ (b : Bounded g.row.F.Denot g.row.S.Denot). WaitsAlike g.S.ReadySource.needs b.source c.in_ok-group.group.source) v.groups.listed) same c.in_ok-group.ensures.beside in
    let listed = c.push_reserved.ensures.items ∙ ap (λ (l : List (Bounded g.row.F.Denot g.row.S.Denot)). l ++ c.in_ok-group.group ∷ []) c.reserve.ensures.items in
    rw listed (keeps_added g.S.ReadySource.needs _ _ _ c.args.capacity g.S.NewSource.made c.in_ok-group.group c.self.invariant full c.requires.some c.in_ok-group.ensures.group.refuses.fits new beside)

pub returns-clause-added : goal.returns-clause-added
returns-clause-added g c =
    let same = c.self.view_is ∙ c.in_ok-group.ensures.same in
    let listed = c.push_reserved.ensures.items ∙ ap (λ (l : List (Bounded g.row.F.Denot g.row.S.Denot)). l ++ c.in_ok-group.group ∷ []) (c.reserve.ensures.items ∙ ap (λ (v : Growing g.row.F.Denot g.row.S.Denot). v.groups.listed) same) in
    record {
      group = c.in_ok-group.group;
      is_new = c.in_ok-group.ensures.group.made;
      listed = listed;
      same_place = ap (λ (v : Growing g.row.F.Denot g.row.S.Denot). v.groups.place) same;
      same_limit = ap (λ (v : Growing g.row.F.Denot g.row.S.Denot). v.limit) same;
    }
