use Rattle.futures_buffered_unordered.proofs.Common.{◌≡◌, Err, rules, subst, TooLarge, Growing, PushesEach}
use Rattle.futures_buffered_unordered.proofs.merge_unbounded.MergeUnbounded+St+S.over_limit.Goals as goal

pub returns : goal.returns
returns g c =
    let all = c.in_ok-add_each.ensures.all in
    let pushes = subst (λ (start : Growing g.row.St.Denot g.row.S.Denot). PushesEach g.S.ReadySource.marks g.S.NewSource.made start all.0 c.add_each.new.self) c.without_groups-merge.ensures all.2 in
    record { holds = (all.0, all.1, pushes); large = search rules }

pub returns-in_err-add_each : goal.returns-in_err-add_each
returns-in_err-add_each g c = record {
  holds = search rules;
  large = λ e.
      let refused : c.add_each.result ≡ Err TooLarge = search rules in
      let stops = c.add_each.ensures.large refused in
      let pushes = subst (λ (start : Growing g.row.St.Denot g.row.S.Denot). PushesEach g.S.ReadySource.marks g.S.NewSource.made start stops.0 stops.1) c.without_groups-merge.ensures stops.3 in
      (stops.0, stops.1, stops.2, pushes, stops.4);
}
