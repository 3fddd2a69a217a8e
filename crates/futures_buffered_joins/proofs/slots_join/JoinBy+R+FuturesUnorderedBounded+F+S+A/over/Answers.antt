use Rattle.futures_buffered_joins.proofs.Common.{sym, ap, replicate, true, ◌∙◌}
use Rattle.futures_buffered_joins.proofs.SlotsJoinLemmas.{each_waits}
use Rattle.futures_buffered_joins.proofs.slots_join.JoinBy+R+FuturesUnorderedBounded+F+S+A.over.Goals as goal

pub new-requires : goal.new-requires
new-requires g c =
    let holds = c.in_ok-set.ensures.holds in
    each_waits g.S.NewSource.made g.S.ReadySource.marks _ holds.0 c.in_ok-set.set holds.2 ∙ ap (λ n. replicate n true) (sym c.capacity-places.ensures.value)
