use Rattle.futures_buffered_joins.proofs.Common.{waiting_count}
use Rattle.futures_buffered_joins.proofs.JoinLemmas.{Filling}
use Rattle.futures_buffered_joins.proofs.outputs.Places.fill.Given as goal

abbrev pub invariant-polls : goal.invariant-polls
invariant-polls g l = Filling g.Q.PlacedSet.waiting g.Q.PlacedPolls g.R.JoinRule l.initial.self l.initial.cx l.self l.cx

abbrev pub decreases-polls : goal.decreases-polls
decreases-polls g l = waiting_count (g.Q.PlacedSet.waiting l.self.set)
