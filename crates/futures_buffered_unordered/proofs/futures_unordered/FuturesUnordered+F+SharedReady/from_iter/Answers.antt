use Rattle.futures_buffered_unordered.proofs.Common.{◌≡◌, ◌<◌, Err, rules, subst, inl, inr, TooLarge, MAX_CAPACITY, SaysAtLeast, items_of, IsNewGrowing}
use Rattle.futures_buffered_core.specs.ReadyShared.{IsNewShared}
use Rattle.futures_buffered_unordered.proofs.ExtendedLemmas.{draws_of, draws_and_one_of}
use Rattle.futures_buffered_unordered.proofs.futures_unordered.FuturesUnordered+F+SharedReady.from_iter.Goals as goal

pub returns-in_err-set : goal.returns-in_err-set
returns-in_err-set g c =
    let says : SaysAtLeast (items_of g.I.IntoIterator g.I.IntoIter.Iterator c.args.iter) c.size_hint-least.result.0 = search rules in
    record {
      holds = search rules;
      large = λ e.
          let over : MAX_CAPACITY < c.max.result = search rules in
          (c.size_hint-least.result.0, says, inl (subst (λ n. MAX_CAPACITY < n) c.max.ensures over));
    }

pub returns : goal.returns
returns g c =
    let all = c.in_ok-add_each.ensures.all in
    let says : SaysAtLeast (items_of g.I.IntoIterator g.I.IntoIter.Iterator c.args.iter) c.size_hint-least.result.0 = search rules in
    let start = subst (λ n. IsNewGrowing IsNewShared n 61 c.in_ok-set.set) c.max.ensures c.in_ok-set.ensures.made in
    let draws = draws_of (items_of g.I.IntoIterator g.I.IntoIter.Iterator c.args.iter) c.into_iter-iter.result c.into_iter-iter.ensures.into_iter_gives all.0 all.1.0 all.1.1 all.1.2 in
    record {
      holds = (all.0, c.size_hint-least.result.0, (c.in_ok-set.set, draws, says, start, all.2));
      large = search rules;
    }

pub returns-in_err-add_each : goal.returns-in_err-add_each
returns-in_err-add_each g c =
    let says : SaysAtLeast (items_of g.I.IntoIterator g.I.IntoIter.Iterator c.args.iter) c.size_hint-least.result.0 = search rules in
    let start = subst (λ n. IsNewGrowing IsNewShared n 61 c.in_ok-set.set) c.max.ensures c.in_ok-set.ensures.made in
    record {
      holds = search rules;
      large = λ e.
          let refused : c.add_each.result ≡ Err TooLarge = search rules in
          let stops = c.add_each.ensures.large refused in
          let draws = draws_and_one_of (items_of g.I.IntoIterator g.I.IntoIter.Iterator c.args.iter) c.into_iter-iter.result c.into_iter-iter.ensures.into_iter_gives stops.0 stops.2.0 stops.2.1 stops.2.2 stops.2.3 stops.2.4 in
          (c.size_hint-least.result.0, says, inr (c.in_ok-set.set, start, (stops.0, stops.1, draws, stops.3, stops.4)));
    }
