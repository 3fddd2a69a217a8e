use Rattle.futures_buffered_joins.proofs.Common.{sym, arith, ◌∙◌}
use Rattle.futures_buffered_joins.proofs.JoinLemmas.{all_filled, one_failed, one_pending}
use Rattle.futures_buffered_joins.proofs.OutputsLemmas.{all_came}
use Rattle.futures_buffered_joins.proofs.outputs.Places.fill.Goals as goal

pub returns-in-Err : goal.returns-in-Err
returns-in-Err g c = λ answer shows. one_failed g.Q.PlacedSet.waiting g.Q.PlacedPolls g.R.JoinRule _ c.polls.self _ answer c.in-Ready.place c.in-Ready.output c.in-Err.error _ _ _ c.polls.invariant c.in-Ready.ensures c.in-Err.ensures shows

pub returns-in-Pending : goal.returns-in-Pending
returns-in-Pending g c =
    one_pending g.Q.PlacedSet.waiting g.Q.PlacedPolls g.R.JoinRule _ c.polls.self _ _ _ _ c.polls.invariant (let ne = c.polls-test.true in let is = c.waiting_len.ensures in grind arith) c.in-Pending.ensures

pub returns : goal.returns
returns g c =
    let none = sym c.waiting_len.ensures ∙ c.polls-test.false in (
      all_came _ _ c.polls.invariant.in_order none,
      λ answer outputs all shows. all_filled g.Q.PlacedSet.waiting g.Q.PlacedPolls g.R.JoinRule _ c.polls.self answer outputs _ _ c.polls.invariant none all shows,
    )
