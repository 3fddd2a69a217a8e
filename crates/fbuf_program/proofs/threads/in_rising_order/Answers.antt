use Rattle.fbuf_program.proofs.Common.{ℕ, ap, ◌∙◌, arith, IsNonDecreasingBy-from_sort, times_in}
use Rattle.fbuf_program.proofs.ThreadsLemmas.{sorted_times, pushed_times}
use Rattle.fbuf_program.proofs.threads.in_rising_order.Goals as goal
use Rattle.fbuf_program.proofs.threads.in_rising_order.Goals.{in-Some+in_ok-push, in_default}

pub returns-clause-all : goal.returns-clause-all
returns-clause-all c = λ k.
    let moved = c.sort_unstable.ensures.permutation in
    elim c.match-first.branch [
      | in-Some+in_ok-push w ↦ rw w.in-Some.is
          (pushed_times c.args.outputs.items c.match-first.all.items
          c.sort_unstable.new.self.items w.in-Some.number k
          (ap (λ all. all.items) w.all-is ∙ w.in_ok-push.ensures.items) moved)
      | in_default w ↦ rw w.in_default.is
          (omega (
            arith,
            sorted_times c.match-first.all.items c.sort_unstable.new.self.items k moved,
            ap {B = ℕ} (λ all. times_in all.items k) w.all-is,
          ))
    ]

pub returns-clause-rising : goal.returns-clause-rising
returns-clause-rising c = IsNonDecreasingBy-from_sort (λ x. x) _ c.sort_unstable.ensures.sorted
