use Rattle.futures_buffered_in_flight.proofs.Common.{rules, inl, inr, subst, sym, ◌≡◌, AllPollable, AnyGives, GivesWithKey, Run, set_places, runs_in}
use Rattle.futures_buffered_in_flight.proofs.InFlightLemmas.{futures_pollable, given_by_outcomes, given_outcome, given_runs, keys_added, keys_narrow, runs_pollable}
use Rattle.futures_buffered_in_flight.specs.Ledger.{IsGivenBy}
use Rattle.futures_buffered_in_flight.proofs.in_flight.FuturesUnorderedBy.hand_over.Goals as goal

pub push-requires-clause-held : goal.push-requires-clause-held
push-requires-clause-held g c =
    let same : set_places c.in-Some-running.running ≡ runs_in c.args.self.now.running = search rules in
    let given = c.self.invariant.2.runs in
    let given = rw c.in-Some-running.is at given in
    runs_pollable g.F.Future.can_poll c.self.inside.ledger (set_places c.in-Some-running.running) (subst (λ os. AllPollable (λ (run : Run g.row.F.Denot). g.F.Future.can_poll run.future) os) (sym same) c.requires.held) given

pub invariant_of-self : goal.invariant_of-self
invariant_of-self g c =
    let keeps = c.self.invariant.2 in
    let given = keeps.runs in
    let given = rw c.in-Some-running.is at given in
    let ledger : c.self.inside.ledger ≡ c.args.self.now.ledger = search rules in
    let mine = subst (λ l. IsGivenBy l c.args.value.ticket) (sym ledger) c.requires.given in (
      search rules,
      search rules,
      record {
        agrees = keeps.agrees;
        runs = given_by_outcomes g.F.Future.gives c.self.inside.ledger (set_places c.push.new.self) (λ o h. elim (c.in_default-push.ensures.gives o h) [
          | inl was ↦ given_outcome g.F.Future.gives c.self.inside.ledger (set_places c.in-Some-running.running) o was given
          | inr own ↦ subst (λ t. IsGivenBy c.self.inside.ledger t) (sym own.0) mine
        ]);
        waits = keeps.waits;
        below = keeps.below;
      },
      search rules,
      search rules,
    )

pub returns-in_default-push-clause-pollable : goal.returns-in_default-push-clause-pollable
returns-in_default-push-clause-pollable g c = futures_pollable g.F.Future.can_poll (set_places c.push.new.self) c.in_default-push.ensures.pollable

pub returns-in_default-push-clause-gives : goal.returns-in_default-push-clause-gives
returns-in_default-push-clause-gives g c came h =
    let same : set_places c.in-Some-running.running ≡ runs_in c.args.self.now.running = search rules in
    elim (keys_added g.F.Future.gives (set_places c.in-Some-running.running) (set_places c.push.new.self) c.args.value.ticket c.args.value.future c.in_default-push.ensures.gives came h) [
      | inl was ↦ inl (subst (λ os. AnyGives (GivesWithKey g.F.Future.gives) os came) same was)
      | inr own ↦ inr own
    ]

pub invariant_of-self-2 : goal.invariant_of-self-2
invariant_of-self-2 g c =
    let keeps = c.self.invariant.2 in
    let given = keeps.runs in
    let given = rw c.in-Some-running.is at given in (
      search rules,
      search rules,
      record {
        agrees = keeps.agrees;
        runs = given_runs g.F.Future.gives c.self.inside.ledger (set_places c.in-Some-running.running) (set_places c.push.new.self) c.in-Err.ensures.refused given;
        waits = keeps.waits;
        below = keeps.below;
      },
      search rules,
      search rules,
    )

pub returns-clause-pollable : goal.returns-clause-pollable
returns-clause-pollable g c = futures_pollable g.F.Future.can_poll (set_places c.push.new.self) c.in-Err.ensures.pollable

pub returns-clause-refused : goal.returns-clause-refused
returns-clause-refused g c came h =
    let same : set_places c.in-Some-running.running ≡ runs_in c.args.self.now.running = search rules in
    subst (λ os. AnyGives (GivesWithKey g.F.Future.gives) os came) same (keys_narrow g.F.Future.gives (set_places c.in-Some-running.running) (set_places c.push.new.self) c.in-Err.ensures.refused came h)
