use Rattle.futures_buffered_ordered.proofs.Common.{rules, sym, subst, Growing, IsNewGrowing, Numbered}
use Rattle.futures_buffered_ordered.proofs.FuturesOrderedLemmas.{new_keeps}
use Rattle.futures_buffered_ordered.proofs.futures_ordered.GrowingQueue+T+A+S.over_limit.Goals as goal

pub invariant_of-result : goal.invariant_of-result
invariant_of-result g c =
    let made = c.in_ok-queue.ensures in
    new_keeps g.S.NewSource.made c.args.n c.args.limit c.in_ok-queue.queue _ made.set c.in_ok-set.ensures.made made.entries

pub returns : goal.returns
returns g c =
    let made = c.in_ok-queue.ensures in
    record {
      made = record {
        new_set = subst (λ (set : Growing (Numbered g.row.T.Denot) g.row.S.Denot). IsNewGrowing g.S.NewSource.made c.args.n c.args.limit set) (sym made.set) c.in_ok-set.ensures.made;
        no_entries = made.entries;
        has_room = made.room;
      };
      refuses = search rules;
      none = search rules;
    }
