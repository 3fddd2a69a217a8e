use Rattle.futures_buffered_unordered.proofs.Common.{◌≡◌, ◌+◌, sym, subst, ap, arith, ◌∙◌, Growing, GrowingPushes, held_in_all, AddsGroup}
use Rattle.futures_buffered_unordered.proofs.FuturesUnorderedLemmas.{pushes_new, added_counts}
use Rattle.futures_buffered_unordered.proofs.futures_unordered.GrowingSet.push.Goals.{then-spare_places-eq0+in-Ok, else-spare_places-eq0}
use Rattle.futures_buffered_unordered.proofs.futures_unordered.GrowingSet.push.Goals as goal

pub push_last-requires-clause-room : goal.push_last-requires-clause-room
push_last-requires-clause-room g c =
    elim c.if-spare_places-eq0.branch [
      | then-spare_places-eq0+in-Ok w ↦ rw w.self-is (omega (arith, (added_counts g.S.NewSource.made _ _ _ w.in-Ok.ensures.added).1, w.next_capacity-capacity.ensures.some))
      | else-spare_places-eq0 w ↦ rw w.self-is (omega (arith, w.if-spare_places-eq0.false, c.spare_places.ensures.value))
    ]

pub returns-clause-push : goal.returns-clause-push
returns-clause-push g c =
    let source = g.S.ReadySource in
    let Pushed = λ (v : Growing g.row.F.Denot g.row.S.Denot). GrowingPushes source.marks g.S.NewSource.made 32 v c.args.value c.push_last.new.self in
    let pushed : Pushed c.args.self.now = elim c.if-spare_places-eq0.branch [
      | then-spare_places-eq0+in-Ok w ↦
          let full = sym c.spare_places.ensures.value ∙ w.if-spare_places-eq0.true in
          let added = subst (λ n. AddsGroup g.S.NewSource.made n c.args.self.now w.add_group.new.self) w.next_capacity-capacity.ensures.value w.in-Ok.ensures.added in
          pushes_new source.marks g.S.NewSource.made 32 _ _ _ _ full added (omega (arith, (added_counts g.S.NewSource.made _ _ _ w.in-Ok.ensures.added).1, w.next_capacity-capacity.ensures.some)) (subst Pushed w.self-is c.push_last.ensures.pushed)
      | else-spare_places-eq0 w ↦ subst Pushed w.self-is c.push_last.ensures.pushed
    ] in
    let count : held_in_all c.push_last.new.self.groups.listed ≡ held_in_all c.args.self.now.groups.listed + 1 = elim c.if-spare_places-eq0.branch [
      | then-spare_places-eq0+in-Ok w ↦ omega (arith, c.push_last.ensures.count, ap (λ (v : Growing g.row.F.Denot g.row.S.Denot). held_in_all v.groups.listed) w.self-is, (added_counts g.S.NewSource.made _ _ _ w.in-Ok.ensures.added).0)
      | else-spare_places-eq0 w ↦ omega (arith, c.push_last.ensures.count, ap (λ (v : Growing g.row.F.Denot g.row.S.Denot). held_in_all v.groups.listed) w.self-is)
    ] in
    record { pushed = pushed; count = count; same = tt; may_refuse = tt }
