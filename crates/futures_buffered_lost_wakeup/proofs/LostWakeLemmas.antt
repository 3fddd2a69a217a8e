-- The steps at the list also preserve what holds of a scene, and so no wake is lost.
use Rattle.futures_buffered_lost_wakeup.proofs.Common.{◌≡◌, ◌≢◌, ◌⊎◌, ℕ, zero, suc, ◌<◌, Bool, List, [], ◌∷◌, ◌++◌, true, false, map, get_or, refl, sym, ap, ◌∙◌, subst, inl, inr, ⊎_elim, arith, append-nil, ◌==◌, Option, Some, None, outside_by, mark, next_role, next_view, reply_of_role, first_poller, new_waker_beside, role_of, spent_view, CanStep, seat_of, slot_of, after_step, found_at, view_at, set_else, set_here, get_or-map, some, some-injective, get_elem?, cases_lt, Slot, Empty, Pause, Fresh, StepReply, More, Woke, Taken, WAKE_SEATS, Role, Idle, Won, Cleared, Swapped, Polls, View, in_hand, put_by, row_slots, total_none, IsReachable, pending, reachable_start, step_reaches, IsPolls, role_polls, Rests, Looks, Turn, Parked, Registers, Asks, Met, Sibling, Away, Writes, LetsGo, Scene, Stage, Vacant, Event, InList, WakeDoes, PollerDoes, SiblingDoes, WakeWakes, PollerWakes, SiblingWakes, FromSibling, Begin, DropsOther, KeepOwn, Lacks, Misses, Stop, MakesSibling, IsDropped, AllRest, CanDo, IsAtStart, IsAtStub, IsBetween, Legal, NoWakeIsLost, after, after_reply, first, owner, changed, poller_role, run, with_errand, with_woken}
use Rattle.futures_buffered_table.specs.declared.step.Step.{Step}
use Rattle.futures_buffered_table.specs.declared.step.Step.TheVariants.{Mark, Go, Poll}
use Rattle.futures_buffered_table.proofs.ListLemmas.{by_test, elem_at, last_at, place_low}
use Rattle.futures_buffered_lost_wakeup.proofs.SceneLemmas.{IsEmpty, IsTaken, IsWoke, changed_here, empty_at_stub, hand_at_start, none_at_stub, polls_wake_none, stub_polls, taken_starts, times_none, woken_by, woken_stays}
use Rattle.futures_buffered_lost_wakeup.proofs.HolderLemmas.{Agrees, held_by, held_by_turn}
use Rattle.futures_buffered_lost_wakeup.proofs.SceneInvariantLemmas.{ArmedIn, Busy, Heads, Heard, IsKept, IsSwapped, IsWaiting, Owned, WakesNext, Seen, SiblingDrops, SwapsIn, Waits, armed_by, way_here}
use Rattle.futures_buffered_lost_wakeup.proofs.PlaceLemmas.{poller_goes, poller_kept, sibling_kept, sibling_moves, turn_moves, wake_kept, wake_on_way, wake_wakes}

-- a step of the list, by a wake: how the row goes on
module _ (n : ℕ) (s : Scene) (kept : IsKept n s) (step : Step) (low : seat_of step < WAKE_SEATS) (can : CanStep n (map role_of s.list.views) step) (between : IsBetween s (seat_of step)) where
  abbrev new_view : View
  new_view = next_view (slot_of step) (view_at s.list step) (found_at n s.list step)

  there : get_elem? s.list.views (seat_of step) ≡ some (view_at s.list step)
  there = elem_at s.list.views (seat_of step) spent_view (let a = kept.reach.1 in omega arith)

  pub no_poller : IsPolls (view_at s.list step).role → ⊥
  no_poller polls = grind (arith, role_polls, there)

  still_waits : Waits s.turn (after_step n s.list step).views
  still_waits w u at = kept.waits w u (sym (set_else s.list.views (seat_of step) WAKE_SEATS new_view (λ z. omega arith)) ∙ at)

  still_swaps : (IsSwapped (view_at s.list step).role → ⊥) → SwapsIn s.list.views → SwapsIn (after_step n s.list step).views
  still_swaps not_here swaps = grind (arith, there, set_else)

  -- a step that puts nothing in
  seen_still : put_by (view_at s.list step).role ≡ [] → in_hand (view_at s.list step).role ≡ [] → (IsSwapped (view_at s.list step).role → ⊥)
      → (on : IsReachable n (after_step n s.list step))
      → pending n s.list kept.reach ++ put_by (view_at s.list step).role ≡ in_hand (view_at s.list step).role ++ pending n (after_step n s.list step) on
      → Seen n (record s { list = after_step n s.list step }) on
  seen_still no_put no_answer not_swapped on flow parked asleep = ⊎_elim (λ none. inl (let is : pending n (after_step n s.list step) on ≡ pending n s.list kept.reach = grind (arith, pending, append-nil) in is ∙ none))
      (⊎_elim (λ way. inr (inl way)) (λ swaps. inr (inr (still_swaps not_swapped swaps)))) (kept.seen parked asleep)

  listed_kept : (on : IsReachable n (after_step n s.list step)) → Seen n (record s { list = after_step n s.list step }) on → IsKept n (record s { list = after_step n s.list step })
  listed_kept on seen = record {
    reach = on;
    waits = still_waits;
    agrees = kept.agrees;
    parked = kept.parked;
    armed = armed_by s.turn s (record s { list = after_step n s.list step }) (λ a. a) (λ w. w) refl refl kept.armed;
    seen = seen;
  }

  abbrev Goes : StepReply → Type 0
  Goes reply = IsKept n (after_reply (seat_of step) reply (record s { list = after_step n s.list step }))

  -- the slot is in the row from here on, and this wake is on its way to the place
  puts_in : (slot : ℕ) → (view_at s.list step).role ≡ Cleared slot → (on : IsReachable n (after_step n s.list step)) → Goes More
  puts_in slot is on = listed_kept on (λ parked asleep. inr (inr (
    seat_of step,
    low,
    (
      new_view,
      set_here s.list.views (seat_of step) new_view (place_low s.list.views (seat_of step) (view_at s.list step) there),
      subst (λ (role : Role). IsSwapped (next_role (view_at s.list step).stub (slot_of step) role (found_at n s.list step))) (sym is) tt,
    ),
  )))

  -- its link is written: it goes to the place, unless it is the owner's
  arrives : (on : IsReachable n (after_step n s.list step)) → Goes (Woke Fresh)
  arrives on = by_test (IsKept n) (seat_of step == owner) (with_woken (record s { list = after_step n s.list step }) s.task)
      (with_errand (record s { list = after_step n s.list step }) (seat_of step) Looks)
      (λ _. record {
        reach = on;
        waits = still_waits;
        agrees = kept.agrees;
        parked = kept.parked;
        armed = armed_by s.turn s (with_woken (record s { list = after_step n s.list step }) s.task) (λ _. inl (inl (changed_here s.woken s.task true))) (λ _. changed_here s.woken s.task true) refl refl kept.armed;
        seen = λ parked asleep. absurd (asleep (inl (changed_here s.woken s.task true)));
      })
      (λ _. let way = wake_on_way n s kept (seat_of step) Rests Looks between.0 (λ c. c) tt refl refl in record {
        reach = on;
        waits = still_waits;
        agrees = way.agrees;
        parked = kept.parked;
        armed = armed_by s.turn (with_errand s (seat_of step) Looks) (with_errand (record s { list = after_step n s.list step }) (seat_of step) Looks) (λ a. a) (λ w. w) refl refl way.armed;
        seen = λ parked asleep. inr (inl (way_here s.task s.errands (seat_of step) Looks tt));
      })

  by_role : (role : Role) (found : ℕ) → (view_at s.list step).role ≡ role → (on : IsReachable n (after_step n s.list step))
      → pending n s.list kept.reach ++ put_by (view_at s.list step).role ≡ in_hand (view_at s.list step).role ++ pending n (after_step n s.list step) on
      → Goes (reply_of_role n role found)
  by_role Idle zero is on flow = listed_kept on (seen_still (ap put_by is) (ap in_hand is) (λ w. subst IsSwapped is w) on flow)
  by_role Idle (suc k) is on flow = listed_kept on (seen_still (ap put_by is) (ap in_hand is) (λ w. subst IsSwapped is w) on flow)
  by_role (Won e) found is on flow = listed_kept on (seen_still (ap put_by is) (ap in_hand is) (λ w. subst IsSwapped is w) on flow)
  by_role (Cleared e) found is on flow = puts_in e is on
  by_role (Swapped e p) found is on flow = arrives on
  by_role (Polls h phase) found is on flow = absurd (no_poller (subst IsPolls (sym is) tt))

  wake_step_kept : IsKept n (after n s (InList step))
  wake_step_kept =
      let stays = step_reaches n s.list kept.reach step can in
      by_role (view_at s.list step).role (found_at n s.list step) refl stays.0 stays.1

-- and by the poller
module _ (n : ℕ) (s : Scene) (kept : IsKept n s) (asks : s.turn ≡ Asks) (laid_out : IsAtStub (poller_role s) → s.own ≡ None) where
  poll_there : get_elem? s.list.views WAKE_SEATS ≡ some (view_at s.list Poll)
  poll_there = elem_at s.list.views WAKE_SEATS spent_view (let a = kept.reach.1 in omega arith)

  abbrev polled : View
  polled = next_view 0 (view_at s.list Poll) (found_at n s.list Poll)

  poll_role : IsPolls (view_at s.list Poll).role
  poll_role = grind (arith, poll_there)

  starts : IsTaken (reply_of_role n (view_at s.list Poll).role (found_at n s.list Poll)) → Waits Parked (after_step n s.list Poll).views
  starts taken w u at = grind (arith, set_here, place_low, poll_there, taken_starts)

  goes_on : IsReachable n (after_step n s.list Poll) → IsKept n (record s { list = after_step n s.list Poll })
  goes_on on = record {
    reach = on;
    waits = λ w. absurd (subst IsWaiting asks w);
    agrees = kept.agrees;
    parked = kept.parked;
    armed = armed_by s.turn s (record s { list = after_step n s.list Poll }) (λ a. a) (λ w. w) refl refl kept.armed;
    seen = λ parked. let c : Asks ≡ Parked = sym asks ∙ parked in absurd cc;
  }

  none_pending : IsEmpty (reply_of_role n (view_at s.list Poll).role (found_at n s.list Poll)) → pending n s.list kept.reach ≡ []
  none_pending empty = grind (arith, poll_there, empty_at_stub, none_at_stub)

  ends_empty : (on : IsReachable n (after_step n s.list Poll))
      → pending n s.list kept.reach ++ put_by (view_at s.list Poll).role ≡ in_hand (view_at s.list Poll).role ++ pending n (after_step n s.list Poll) on
      → IsTaken (reply_of_role n (view_at s.list Poll).role (found_at n s.list Poll)) → IsEmpty (reply_of_role n (view_at s.list Poll).role (found_at n s.list Poll))
      → IsKept n (record s { list = after_step n s.list Poll; turn = Parked })
  ends_empty on flow taken empty =
      let at_stub = empty_at_stub n (view_at s.list Poll).role (found_at n s.list Poll) empty in
      let nothing = stub_polls (view_at s.list Poll).role at_stub.0 in
      record {
        reach = on;
        waits = starts taken;
        agrees = turn_moves n s kept Asks Parked asks refl refl;
        parked = λ _. refl;
        armed = ⊎_elim (λ (own : s.own ≡ Some s.task). let c : None ≡ Some s.task = sym (laid_out at_stub.0) ∙ own in absurd cc)
            (⊎_elim (λ woken. inl (inl woken)) (λ none. ⊎_elim
            (⊎_elim (λ woken. inl (inl woken)) (⊎_elim (λ d. inl (inr (inl d))) (λ d. absurd (subst (WakesNext s.task) asks d)))) (λ a. inr a) none.1))
            (subst (λ (turn : Turn). ArmedIn turn s) asks kept.armed);
        seen = λ parked asleep. inl (sym (λ k. nothing.1 k ++ pending n (after_step n s.list Poll) on) ∙ (sym flow
            ∙ ((λ k. none_pending empty k ++ nothing.0 k))));
      }

  ends_paused : IsReachable n (after_step n s.list Poll) → IsTaken (reply_of_role n (view_at s.list Poll).role (found_at n s.list Poll))
      → IsKept n (record (with_woken s s.task) { list = after_step n s.list Poll; turn = Parked })
  ends_paused on taken = record {
    reach = on;
    waits = starts taken;
    agrees = turn_moves n s kept Asks Parked asks refl refl;
    parked = λ _. refl;
    armed = inl (inl (changed_here s.woken s.task true));
    seen = λ parked asleep. absurd (asleep (inl (changed_here s.woken s.task true)));
  }

  by_reply : (reply : StepReply) → reply_of_role n (view_at s.list Poll).role (found_at n s.list Poll) ≡ reply → (on : IsReachable n (after_step n s.list Poll))
      → pending n s.list kept.reach ++ put_by (view_at s.list Poll).role ≡ in_hand (view_at s.list Poll).role ++ pending n (after_step n s.list Poll) on
      → IsKept n (after_reply WAKE_SEATS reply (record s { list = after_step n s.list Poll }))
  by_reply More is on flow = goes_on on
  by_reply (Woke how) is on flow = absurd (polls_wake_none n (view_at s.list Poll).role (found_at n s.list Poll) poll_role (subst IsWoke (sym is) tt))
  by_reply (Taken (Slot i)) is on flow = goes_on on
  by_reply (Taken Empty) is on flow = ends_empty on flow (subst IsTaken (sym is) tt) (subst IsEmpty (sym is) tt)
  by_reply (Taken Pause) is on flow = ends_paused on (subst IsTaken (sym is) tt)

  poll_step_kept : IsKept n (after n s (InList Poll))
  poll_step_kept =
      let stays = step_reaches n s.list kept.reach Poll tt in
      by_reply (reply_of_role n (view_at s.list Poll).role (found_at n s.list Poll)) refl stays.0 stays.1

-- what the tasks, their polls and a sibling do besides
module _ (n : ℕ) (s : Scene) (kept : IsKept n s) where
  abbrev told : changed s.woken s.task true s.task ≡ true
  told = changed_here s.woken s.task true

  begins : (task : ℕ) (own : Option ℕ) → s.turn ≡ Parked → s.sibling ≡ Away → IsKept n (record s { turn = Registers; task = task; own = own; woken = changed s.woken task false })
  begins task own is away = record {
    reach = kept.reach;
    waits = λ _. kept.waits (subst IsWaiting (sym is) tt);
    agrees = turn_moves n s kept Parked Registers is refl refl;
    parked = λ writes. let c : Away ≡ Writes = sym away ∙ writes in absurd cc;
    armed = tt;
    seen = λ parked asleep. absurd cc;
  }

  stops : s.turn ≡ Asks → IsAtStart (poller_role s) → IsKept n (record (with_woken s s.task) { turn = Parked })
  stops is start = record {
    reach = kept.reach;
    waits = λ _ v at. subst (λ (u : View). IsAtStart u.role) (some-injective (view_at s.list Poll) v
        (sym (elem_at s.list.views WAKE_SEATS spent_view (let a = kept.reach.1 in omega arith)) ∙ at)) start;
    agrees = turn_moves n s kept Asks Parked is refl refl;
    parked = λ _. refl;
    armed = inl (inl told);
    seen = λ parked asleep. absurd (asleep (inl told));
  }

  -- the poller goes on in its poll, from a turn in which it does not have the place
  polls : (turn turn' : Turn) (own : Option ℕ) (woken : ℕ → Bool) → s.turn ≡ turn → turn ≢ Parked → turn' ≢ Parked → (IsWaiting turn' → IsWaiting turn) → held_by_turn turn ≡ None → held_by_turn turn' ≡ None
      → ArmedIn turn' (record s { turn = turn'; own = own; woken = woken }) → IsKept n (record s { turn = turn'; own = own; woken = woken })
  polls turn turn' own woken is here there waiting had has armed = poller_goes n s kept turn turn' s.stage own woken is here there waiting (turn_moves n s kept turn turn' is had has) armed

  stays_woken : (task : ℕ) → s.woken s.task ≡ true → changed s.woken task true s.task ≡ true
  stays_woken task = woken_stays s.woken task s.task

  -- a waker of a task is dropped, by a sibling that is then away, or elsewhere
  dropped : (task : ℕ) (sibling : Sibling) → Agrees (held_by s.turn sibling s.errands) s.stage → (sibling ≡ Writes → s.turn ≡ Parked) → (SiblingDrops s.task s.sibling → (task ≡ s.task) ⊎ SiblingDrops s.task sibling)
      → IsKept n (record (with_woken s task) { sibling = sibling })
  dropped task sibling agrees parked drops = record {
    reach = kept.reach;
    waits = kept.waits;
    agrees = agrees;
    parked = parked;
    armed = armed_by s.turn s (record (with_woken s task) { sibling = sibling }) (⊎_elim (λ h. inl (still h)) (λ a. inr a)) (stays_woken task) refl refl kept.armed;
    seen = λ at asleep. kept.seen at (λ h. asleep (still h));
  }
    where
      still : Heard s → Heard (record (with_woken s task) { sibling = sibling })
      still = ⊎_elim (λ woken. inl (stays_woken task woken)) (⊎_elim (λ d. ⊎_elim (λ e. inl (woken_by s.woken task s.task e)) (λ now. inr (inl now)) (drops d)) (λ d. inr (inr d)))

  poller_wakes : (task : ℕ) → s.turn ≡ Met task → IsKept n (record (with_woken s task) { turn = Asks })
  poller_wakes task is = polls (Met task) Asks s.own (changed s.woken task true) is (λ z. cc) (λ z. cc) (λ w. absurd w) refl refl
      (⊎_elim (λ own. inl own) (⊎_elim woken (λ none. ⊎_elim
      (⊎_elim woken (⊎_elim (λ d. inr (inr (none.0, inl (inr (inl d))))) (λ d. inr (inl (woken_by s.woken task s.task (subst (WakesNext s.task) is d)))))) (λ a. inr (inr (none.0, inr a))) none.1))
      (subst (λ (turn : Turn). ArmedIn turn s) is kept.armed))
    where
      woken : s.woken s.task ≡ true → Owned (record (with_woken s task) { turn = Asks })
      woken w = inr (inl (stays_woken task w))

  shares : IsKept n (record s { alone = false })
  shares = record {
    reach = kept.reach;
    waits = kept.waits;
    agrees = kept.agrees;
    parked = kept.parked;
    armed = armed_by s.turn s (record s { alone = false }) (λ a. a) (λ w. w) refl refl kept.armed;
    seen = kept.seen;
  }

  -- each step keeps a scene
  step_kept : (event : Event) → CanDo n s event → IsKept n (after n s event)
  step_kept (InList (Mark seat slot)) can = wake_step_kept n s kept (Mark seat slot) can.0.0 can.0 can.1
  step_kept (InList (Go seat)) can = wake_step_kept n s kept (Go seat) can.0.0 can.0 can.1
  step_kept (InList Poll) can = poll_step_kept n s kept can.1.0 can.1.1
  step_kept (WakeDoes seat act) can = wake_kept n s kept seat (s.errands seat) act refl can.0 can.1
  step_kept (PollerDoes act) can = poller_kept n s kept s.alone s.own s.turn act refl refl can.0 can.1
  step_kept (SiblingDoes mine act) can = sibling_kept n s kept s.alone mine s.sibling act refl can.3 can.2 can.0
  step_kept (WakeWakes seat task) can = wake_wakes n s kept seat task can
  step_kept (PollerWakes task) can = poller_wakes task can
  step_kept (SiblingWakes task) can = dropped task Away (sibling_moves n s kept (LetsGo task) Away can refl refl) (λ z. absurd cc) (λ d. inl (subst (SiblingDrops s.task) can d))
  step_kept (FromSibling seat) can = wake_on_way n s kept seat Rests Looks can.1 (λ c. c) tt refl refl
  step_kept (Begin task own) can = begins task own can.0 can.1
  step_kept (DropsOther task) can = subst (λ (turn : Turn). IsKept n (record (with_woken s task) { turn = turn; own = None })) (sym can.0)
      (polls Registers Registers None (changed s.woken task true) can.0 (λ z. cc) (λ z. cc) (λ w. w) refl refl tt)
  step_kept KeepOwn can = polls Registers Asks (Some s.task) s.woken can.0 (λ z. cc) (λ z. cc) (λ w. absurd w) refl refl (inl refl)
  step_kept Lacks can = polls Registers Asks s.own (changed s.woken s.task true) can (λ z. cc) (λ z. cc) (λ w. absurd w) refl refl (inr (inl told))
  step_kept Misses can = subst (λ (turn : Turn). IsKept n (record (with_woken s s.task) { turn = turn; own = None })) (sym can)
      (polls Asks Asks None (changed s.woken s.task true) can (λ z. cc) (λ z. cc) (λ w. absurd w) refl refl (inr (inl told)))
  step_kept Stop can = stops can.0 can.1
  step_kept MakesSibling can = shares
  step_kept (IsDropped task) can = dropped task s.sibling kept.agrees kept.parked (λ d. inr d)

run_kept : (n : ℕ) (s : Scene) → IsKept n s → (events : List Event) → Legal n s events → IsKept n (run n s events)
run_kept n s kept [] legal = kept
run_kept n s kept (event ∷ events) legal = run_kept n (after n s event) (step_kept n s kept event legal.0) events legal.1

first_kept : (n : ℕ) → IsKept n (first n)
first_kept n = record {
  reach = reachable_start n;
  waits = λ _ v at. subst (λ (u : View). IsAtStart u.role) (some-injective (first_poller n) v (sym (last_at WAKE_SEATS (new_waker_beside (first_poller n)) (first_poller n)) ∙ at)) tt;
  agrees = record { tells = none_holds; told = λ agent is. absurd cc };
  parked = λ is. absurd cc;
  armed = inl (inl refl);
  seen = λ parked asleep. absurd (asleep (inl refl));
}
  where
    none_holds : (agent : ℕ) (x : Stage) → held_by Parked Away (λ _. Rests) agent ≡ Some x → (Vacant ≡ x) × (None ≡ Some agent)
    none_holds zero x is = absurd cc
    none_holds (suc zero) x is = absurd cc
    none_holds (suc (suc seat)) x is = absurd cc

-- where each wake has ended, a slot that is not in the row is not marked
module _ (n : ℕ) (s : Scene) (kept : IsKept n s) (rest : AllRest s) (away : s.sibling ≡ Away) (parked : s.turn ≡ Parked) where
  idle : (seat : ℕ) (v : View) → seat < WAKE_SEATS → get_elem? s.list.views seat ≡ some v → v.role ≡ Idle
  idle seat v low at =
      let here : get_elem? s.list.views seat ≡ some (get_or s.list.views seat spent_view) = elem_at s.list.views seat spent_view (let a = kept.reach.1 in omega arith) in
      let same : v ≡ get_or s.list.views seat spent_view = some-injective v (get_or s.list.views seat spent_view) (sym at ∙ here) in
      ap (λ (u : View). u.role) same ∙ (sym (get_or-map role_of s.list.views seat spent_view) ∙ rest.1 seat low)

  none_outside : (e : ℕ) (seat : ℕ) (v : View) → get_elem? s.list.views seat ≡ some v → outside_by n e v.role ≡ 0
  none_outside e seat v at = grind (arith, cases_lt, idle, place_low)

  not_busy : Busy s → ⊥
  not_busy (inl way) = subst (Heads s.task) (rest.0 way.0) way.1
  not_busy (inr swaps) = grind (arith, idle)

  unmarked : pending n s.list kept.reach ≡ [] → (slot : ℕ) → slot < n → mark s.list.words slot ≡ 0
  unmarked none slot lt = grind (arith, hand_at_start, row_slots, times_none, total_none, none_outside)

pub no_wake_is_lost : NoWakeIsLost
no_wake_is_lost = λ n events legal rest away parked asleep slot lt.
    let s = run n (first n) events in let kept = run_kept n (first n) (first_kept n) events legal in
    ⊎_elim (λ none. unmarked n s kept rest away parked none slot lt) (λ busy. absurd (not_busy n s kept rest away parked busy))
    (kept.seen parked (⊎_elim (λ woken. let c : true ≡ false = sym woken ∙ asleep in absurd cc)
    (⊎_elim (λ d. absurd (subst (SiblingDrops s.task) away d)) (λ d. absurd (subst (WakesNext s.task) parked d)))))
