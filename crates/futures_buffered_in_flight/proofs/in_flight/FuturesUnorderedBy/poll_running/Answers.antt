use Rattle.futures_buffered_in_flight.proofs.Common.{rules, subst, sym, ◌≡◌, ◌∙◌, AllPollable, AnyGives, GivesWithKey, Run, RunGives, run_count, runs_in, set_len, set_places}
use Rattle.futures_buffered_in_flight.proofs.InFlightLemmas.{futures_pollable, given_outcome, given_runs, keys_narrow, left_after, left_within, narrows_after, narrows_within, runs_pollable}
use Rattle.futures_buffered_in_flight.proofs.in_flight.FuturesUnorderedBy.poll_running.Goals as goal

pub poll_next-requires : goal.poll_next-requires
poll_next-requires g c =
    let same : set_places c.in-Some.running ≡ runs_in c.args.self.now.running = search rules in
    let given = c.self.invariant.2.runs in
    let given = rw c.in-Some.is at given in
    runs_pollable g.F.Future.can_poll c.self.inside.ledger (set_places c.in-Some.running) (subst (λ os. AllPollable (λ (run : Run g.row.F.Denot). g.F.Future.can_poll run.future) os) (sym same) c.requires) given

pub invariant_of-self-in-Pending : goal.invariant_of-self-in-Pending
invariant_of-self-in-Pending g c =
    let keeps = c.self.invariant.2 in
    let given = keeps.runs in
    let given = rw c.in-Some.is at given in
    let narrows = narrows_within (RunGives g.F.Future.gives) c.in-Some.running c.poll_next.new.self c.in-Pending.ensures.same in (
      search rules,
      search rules,
      record {
        agrees = keeps.agrees;
        runs = given_runs g.F.Future.gives c.self.inside.ledger (set_places c.in-Some.running) (set_places c.poll_next.new.self) narrows given;
        waits = keeps.waits;
        below = keeps.below;
      },
      search rules,
      search rules,
    )

pub returns-in-Pending-clause-pollable : goal.returns-in-Pending-clause-pollable
returns-in-Pending-clause-pollable g c = futures_pollable g.F.Future.can_poll (set_places c.poll_next.new.self) c.in-Pending.ensures.again

pub returns-in-Pending-clause-gives : goal.returns-in-Pending-clause-gives
returns-in-Pending-clause-gives g c came h =
    let same : set_places c.in-Some.running ≡ runs_in c.args.self.now.running = search rules in
    let narrows = narrows_within (RunGives g.F.Future.gives) c.in-Some.running c.poll_next.new.self c.in-Pending.ensures.same in
    subst (λ os. AnyGives (GivesWithKey g.F.Future.gives) os came) same (keys_narrow g.F.Future.gives (set_places c.in-Some.running) (set_places c.poll_next.new.self) narrows came h)

pub returns-in-Pending-clause-counts : goal.returns-in-Pending-clause-counts
returns-in-Pending-clause-counts g c =
    let same : set_len c.in-Some.running ≡ run_count c.args.self.now.running = search rules in
    left_within g.F.Future.gives c.in-Some.running c.poll_next.new.self c.in-Pending.ensures.same ∙ same

pub invariant_of-self-2 : goal.invariant_of-self-2
invariant_of-self-2 g c =
    let keeps = c.self.invariant.2 in
    let given = keeps.runs in
    let given = rw c.in-Some.is at given in
    let after = rw c.in-Ready-Some.field-0-is at c.in-Ready-Some.ensures.rest in
    let narrows = narrows_after (RunGives g.F.Future.gives) c.in-Some.running c.poll_next.new.self c.in-Ready-Some.came after in (
      search rules,
      search rules,
      record {
        agrees = keeps.agrees;
        runs = given_runs g.F.Future.gives c.self.inside.ledger (set_places c.in-Some.running) (set_places c.poll_next.new.self) narrows given;
        waits = keeps.waits;
        below = keeps.below;
      },
      search rules,
      search rules,
    )

pub returns-clause-pollable : goal.returns-clause-pollable
returns-clause-pollable g c =
    let can = rw c.in-Ready-Some.field-0-is at c.in-Ready-Some.ensures.goes in
    futures_pollable g.F.Future.can_poll (set_places c.poll_next.new.self) can

pub returns-clause-given : goal.returns-clause-given
returns-clause-given g c =
    let given = c.self.invariant.2.runs in
    let given = rw c.in-Some.is at given in
    let gave = rw c.in-Ready-Some.field-0-is at c.in-Ready-Some.ensures.value in
    rw (← c.self.view_is) (given_outcome g.F.Future.gives c.self.inside.ledger (set_places c.in-Some.running) c.in-Ready-Some.came gave.ends.0 given)

pub returns-clause-gives : goal.returns-clause-gives
returns-clause-gives g c came h =
    let same : set_places c.in-Some.running ≡ runs_in c.args.self.now.running = search rules in
    let after = rw c.in-Ready-Some.field-0-is at c.in-Ready-Some.ensures.rest in
    let narrows = narrows_after (RunGives g.F.Future.gives) c.in-Some.running c.poll_next.new.self c.in-Ready-Some.came after in
    subst (λ os. AnyGives (GivesWithKey g.F.Future.gives) os came) same (keys_narrow g.F.Future.gives (set_places c.in-Some.running) (set_places c.poll_next.new.self) narrows came h)

pub returns-clause-counts : goal.returns-clause-counts
returns-clause-counts g c =
    let same : set_len c.in-Some.running ≡ run_count c.args.self.now.running = search rules in
    let after = rw c.in-Ready-Some.field-0-is at c.in-Ready-Some.ensures.rest in
    left_after g.F.Future.gives c.in-Some.running c.poll_next.new.self c.in-Ready-Some.came after ∙ same
