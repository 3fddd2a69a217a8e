use Rattle.futures_buffered_unordered.proofs.Common.{arith, rules}
use Rattle.futures_buffered_unordered.proofs.FuturesUnorderedLemmas.{new_without, new_with}
use Rattle.futures_buffered_unordered.proofs.futures_unordered.FuturesUnordered+F+S.over_limit.Goals.{then-n-gt0+in_ok-add_group, else-n-gt0}
use Rattle.futures_buffered_unordered.proofs.futures_unordered.FuturesUnordered+F+S.over_limit.Goals as goal

pub returns : goal.returns
returns g c =
    let made = g.S.NewSource.made in
    record {
      made = elim c.if-n-gt0.branch [
        | then-n-gt0+in_ok-add_group w ↦ rw w.groups-is (new_with made c.args.n c.args.limit _ _ w.if-n-gt0.true c.without_groups-groups.ensures w.in_ok-add_group.ensures.added)
        | else-n-gt0 w ↦ rw w.groups-is (new_without made c.args.n c.args.limit _ w.if-n-gt0.false c.without_groups-groups.ensures)
      ];
      refuses = elim c.if-n-gt0.branch [
        | then-n-gt0+in_ok-add_group w ↦ search rules
        | else-n-gt0 w ↦ record { large = search rules; fits = omega (arith, w.if-n-gt0.false); memory = search rules }
      ];
      none = search rules;
    }
