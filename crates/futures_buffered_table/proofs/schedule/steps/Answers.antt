use Rattle.futures_buffered_table.proofs.Common.{rules, get_or, take, ◌≡◌, ◌++◌, [], ◌∷◌, sym, ap, ◌∙◌, subst, take_more, take_all, Step, Mark, Legal, at_start, AfterEach, AnswersInOrder, EmptyIsTrue, PauseHasCause, IsStuckAt}
use Rattle.futures_buffered_table.proofs.ScheduleLawLemmas.{lawful}
use Rattle.futures_buffered_table.proofs.StepMachineLemmas.{stuck_here, whole}
use Rattle.futures_buffered_table.proofs.schedule.steps.Goals as goal
use Rattle.futures_buffered_table.proofs.ListLemmas.{elem_at}

pub loop-k-preserved : goal.loop-k-preserved
loop-k-preserved c =
    let steps = c.args.steps.now in let k = c.loop-k.k in let so_far = c.loop-k.invariant in let did = c.in-Some.ensures in
    let step : Step = get_or steps k (Mark 0 0) in
    let more = take_more steps k (Mark 0 0) c.loop-k-test.true in
    let on = did.leads (take k steps) so_far.leads in
    rw more (record {
      capacity = did.made.1.0 ∙ so_far.capacity;
      leads = on.0;
      replied = c.push_reserved.ensures.items ∙ (ap (λ l. l ++ c.in-Some.reply ∷ []) so_far.replied ∙ sym on.1);
      room = search rules;
    })

pub returns-in_default-step-clause-stuck : goal.returns-in_default-step-clause-stuck
returns-in_default-step-clause-stuck c = λ k e.
    let n = c.args.capacity in let steps = c.args.steps.now in let so_far = c.loop-k.invariant in
    let same : c.loop-k.k ≡ k = cc in
    let step : Step = get_or steps c.loop-k.k (Mark 0 0) in
    subst (IsStuckAt n steps) same (
      subst (λ m. Legal m (at_start m) (take c.loop-k.k steps)) so_far.capacity so_far.leads.0,
      (
        step,
        elem_at steps c.loop-k.k (Mark 0 0) c.loop-k-test.true,
        stuck_here n c.loop-k.machine (take c.loop-k.k steps) step
            so_far.capacity so_far.leads c.in_default-step.ensures.refused.0,
      ),
    )

pub returns : goal.returns
returns c =
    let n = c.args.capacity in let steps = c.args.steps.now in let so_far = c.loop-k.invariant in
    let all = whole n c.loop-k.machine (take c.loop-k.k steps) steps c.loop-k.replies.items so_far.capacity
    (take_all c.loop-k.k steps c.loop-k-test.false) so_far.leads so_far.replied in
    record {
      replies = all;
      order = subst (AfterEach AnswersInOrder [] steps) (sym all.1) (lawful AnswersInOrder (λ _ x. x.0) n steps all.0);
      empty = subst (AfterEach EmptyIsTrue [] steps) (sym all.1) (lawful EmptyIsTrue (λ _ x. x.1) n steps all.0);
      pause = subst (AfterEach PauseHasCause [] steps) (sym all.1) (lawful PauseHasCause (λ _ x. x.2) n steps all.0);
      stuck = search rules;
      too_large = search rules;
    }
