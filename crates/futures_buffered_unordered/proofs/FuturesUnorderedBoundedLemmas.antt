-- What a poll of a bounded set makes of what the set holds and may give.
use Rattle.futures_buffered_unordered.proofs.Common.{◌≡◌, ◌+◌, ◌<◌, [], Option, Some, None, IfSome, sym, ap, subst, arith, ◌∙◌, Context, Poll, Ready, Pending, IfReady, OnPending, After, Within, Slots, AnyMayGive, ComesFrom, outputs_in, Bounded, held_in, PollOneOf, PollsBounded, ReadySourceOf}
use Rattle.futures_buffered_unordered.proofs.HeldGivesLemmas.{Gathers-Within, Gathers-After, gives_passed, gives_output, gives_others}

module _ {R F W A S : Type 0} (rule : PollOneOf R F W A) (source : ReadySourceOf S W) (old new : Bounded F S) where
  -- a poll leaves as many values as before, but for that of the output
  pub poll_counted : (answer : Poll (Option A)) (cx left : Context) → PollsBounded rule source old answer new cx left → held_in new + outputs_in answer ≡ held_in old
  poll_counted (Ready None) cx left it = omega (arith, ap (λ (b : Bounded F S). held_in b) it.gave.1)
  poll_counted (Ready (Some x)) cx left it = it.fewer
  poll_counted Pending cx left it = omega (arith, it.same)

  pub poll_pending_holds : (cx left : Context) → PollsBounded rule source old Pending new cx left → 0 < held_in new
  poll_pending_holds cx left it = omega (arith, it.gave.0, it.same)

  pub poll_end_is_empty : (cx left : Context) → PollsBounded rule source old (Ready None) new cx left → held_in new ≡ 0
  poll_end_is_empty cx left it = ap (λ (b : Bounded F S). held_in b) it.gave.1 ∙ it.gave.0

  -- an output is one that the set might give
  pub poll_gave : (x : A) (cx left : Context) → PollsBounded rule source old (Ready (Some x)) new cx left → AnyMayGive rule.polled old.slots x
  poll_gave x cx left it =
      let takes = it.gave.1.2.takes in
      gives_passed rule.polled takes.names old.slots takes.passed x takes.passes (gives_output rule.polled _ _ _ x takes.ends.2)

  -- what a set may give after a poll it might give before
  pub poll_still : (y : A) (answer : Poll (Option A)) (cx left : Context) → PollsBounded rule source old answer new cx left → AnyMayGive rule.polled new.slots y → AnyMayGive rule.polled old.slots y
  poll_still y (Ready None) cx left it any = subst (λ (b : Bounded F S). AnyMayGive rule.polled b.slots y) it.gave.1 any
  poll_still y (Ready (Some x)) cx left it any =
      let takes = it.gave.1.2.takes in
      gives_passed rule.polled takes.names old.slots takes.passed y takes.passes (gives_others rule.polled _ _ _ x y takes.ends.2 (subst (λ (b : Bounded F S). AnyMayGive rule.polled b.slots y) it.gave.1.3 any))
  poll_still y Pending cx left it any =
      let takes = it.gave.1.takes in
      gives_passed rule.polled takes.names old.slots takes.passed y takes.passes (subst (λ (m : Slots F). AnyMayGive rule.polled m y) takes.ends.0 any)

  -- one poll
  pub value_of : (answer : Poll (Option A)) (cx left : Context) → PollsBounded rule source old answer new cx left → IfReady answer (ComesFrom rule.polled old.slots [])
  value_of (Ready None) cx left it = record { each = tt; ends = sym it.gave.0 }
  value_of (Ready (Some x)) cx left it = record { each = tt; ends = (poll_gave x cx left it, it.gave.0) }
  value_of Pending cx left it = tt

  pub rest_of : (answer : Poll (Option A)) (cx left : Context) → PollsBounded rule source old answer new cx left → IfReady answer (λ o. IfSome o (λ x. After (ComesFrom rule.polled old.slots) x (ComesFrom rule.polled new.slots)))
  rest_of (Ready None) cx left it = tt
  rest_of (Ready (Some x)) cx left it = Gathers-After {A = A} {P = AnyMayGive rule.polled old.slots} {Q = AnyMayGive rule.polled new.slots} (λ y. poll_still y (Ready (Some x)) cx left it) _ _ x it.fewer (poll_gave x cx left it)
  rest_of Pending cx left it = tt

  pub same_of : (answer : Poll (Option A)) (cx left : Context) → PollsBounded rule source old answer new cx left → OnPending answer (Within (ComesFrom rule.polled old.slots) (ComesFrom rule.polled new.slots))
  same_of (Ready o) cx left it = tt
  same_of Pending cx left it = Gathers-Within {A = A} {P = AnyMayGive rule.polled old.slots} {Q = AnyMayGive rule.polled new.slots} (λ y. poll_still y Pending cx left it) _ _ it.same
