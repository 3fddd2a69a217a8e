-- What may come from the kit's set, from the futures that wait and from the slots, and what each call leaves of the set.
use Rattle.futures_buffered_in_flight.proofs.Common.{◌≡◌, ◌<◌, ◌≤◌, ℕ, ◌+◌, ◌-◌, ◌^◌, List, [], ◌∷◌, ◌++◌, Option, Some, None, IfSome, is_some, count_by, cond, get_or, length, length-set, zero, suc, Bool, true, false, ap, refl, sym, subst, ◌∙◌, ◌⊎◌, inl, inr, arith, Ok, Err, min, AllByRecursion, cases_eq, false≢true, sum_by-append, sum_by-cons, length_push, After, Within, AnyGives, AnyMay, Gathers, GivesNoMore, AllPollable, set_places, set_len, Poll, Ready, Pending, Covers, Keeps, IsArmed, Lasting, Context, Slots, value_in, held_count, with_slot_freed, Inserts, IsWoken, StreamAnswers, StreamOf, stream_of, answers_of, Gathers-Within, Gathers-After, value_in-with_slot_freed, value_in-with_slot_freed_other, None-Some, FutureOf, Flights, CanPollAll, ComesByKey, ComesFromSlots, EntersAt, FlightsGiveNoMore, FlightsWaitAt, GivesByKey, GivesWithKey, HasNoRoom, IsHeld, MakesRoom, MayCome, PollsInFlight, PushesInFlight, TagGives, WaitGives, flight_slots, room_taken, run_count, runs_in, without_key, Flies, Starts, Came, Place, Key, Run, Waits, AnySlotGives, Cancels, CanPollRun, Outcome, RunGives, RunsLeft, Takes, MatchResult, Result, replicate}
use Rattle.std.specs.Prelude.{OnErr, OnOk}
use Rattle.futures_buffered_core.specs.SlotMap.{GrowsByOne}
use Rattle.futures_buffered_in_flight.specs.Ledger.{Account, IsGivenBy, IsNotice, Reading, Stub}
use Rattle.futures.proofs.EventLemmas.{get_or-push_default}
use Rattle.futures.proofs.SentLemmas.{AllByRecursion-push}
use Rattle.futures.specs.declared.stream.futures_unordered.FuturesUnordered.{FuturesUnordered}

-- what the futures that run, and those that wait, may give, and that they may be polled
module _ {F A : Type 0} (future : FutureOf F A) where
  abbrev AnyRunGives : Option (FuturesUnordered (Run F)) → Key × Option A → Type 0
  AnyRunGives running = AnyGives (GivesWithKey future.gives) (runs_in running)

  abbrev AnyWaitGives : List (Waits F) → Key × Option A → Type 0
  AnyWaitGives = AnyMay (WaitGives future)

  abbrev CanPollRuns : Option (FuturesUnordered (Run F)) → Type 0
  CanPollRuns running = AllPollable (λ (run : Run F). future.can_poll run.future) (runs_in running)

  abbrev CanPollWaiting : List (Waits F) → Type 0
  CanPollWaiting = AllByRecursion (λ (w : Waits F). future.can_poll w.future)

module _ {F A : Type 0} (gives : F → A → Type 0) where
  -- if one of the places may give something, a place is held
  pub some_is_held : (os : List (Option F)) (x : A) → AnyGives gives os x → 0 < count_by is_some os
  some_is_held [] x h = absurd h
  some_is_held (o ∷ os) x h =
      let count = sum_by-cons (λ (o : Option F). cond (is_some o) 1 0) o os in
      let more = some_is_held os x in
      grind arith

  -- an output adds nothing to what may come from the kit's set
  pub narrows_after : (old new : FuturesUnordered F) (x : A)
      → After (Gathers (AnyGives gives (set_places old)) (set_len old)) x (Gathers (AnyGives gives (set_places new)) (set_len new))
      → GivesNoMore gives (set_places old) (set_places new)
  narrows_after old new x after y h =
      (after [] (Some y) (record { each = tt; ends = (h, let k = some_is_held (set_places new) y h in omega (arith, k, new.futures.counted)) })).ends.0

  -- nor does a pending poll
  pub narrows_within : (old new : FuturesUnordered F)
      → Within (Gathers (AnyGives gives (set_places old)) (set_len old)) (Gathers (AnyGives gives (set_places new)) (set_len new))
      → GivesNoMore gives (set_places old) (set_places new)
  narrows_within old new within y h =
      (within [] (Some y) (record { each = tt; ends = (h, let k = some_is_held (set_places new) y h in omega (arith, k, new.futures.counted)) })).ends.0

-- a notice that a run could have
abbrev reading_of : Stub → Reading
reading_of ticket = record { id = ticket.id; told = replicate ticket.key.slot 0 ++ suc ticket.key.push ∷ [] }

reads_it : (n x : ℕ) → get_or (replicate n 0 ++ x ∷ []) n 0 ≡ x
reads_it zero x = refl
reads_it (suc n) x = reads_it n x

module _ {F A : Type 0} (gives : F → A → Type 0) where
  -- some outcome may come of a list that has a run
  some_outcome : (os : List (Option (Run F))) → 0 < count_by is_some os → (came : Outcome A) × AnyGives (RunGives gives) os came
  some_outcome [] some = absurd (omega (arith, some))
  some_outcome (None ∷ os) some = let more = some_outcome os (omega (arith, some, sum_by-cons (λ (o : Option (Run F)). cond (is_some o) 1 0) None os)) in (more.0, inr more.1)
  some_outcome (Some run ∷ os) some = ((run.ticket, Err (reading_of run.ticket)), inl (refl, (refl, omega (arith, reads_it run.ticket.key.slot (suc run.ticket.key.push)))))

  outcomes_of : FuturesUnordered (Run F) → Outcome A → Type 0
  outcomes_of set = AnyGives (RunGives gives) (set_places set)

  -- as many outcomes as there are runs may come
  all_outcomes : (set : FuturesUnordered (Run F)) → (n : ℕ) → set_len set ≡ n → (xs : List (Outcome A)) × (length xs ≡ n) × AllByRecursion (AnyGives (RunGives gives) (set_places set)) xs
  all_outcomes set zero is = ([], refl, tt)
  all_outcomes set (suc n) is =
      let one = some_outcome (set_places set) (omega (arith, is, set.futures.counted)) in
      times one.0 one.1 (suc n)
    where
      times : (x : Outcome A) → AnyGives (RunGives gives) (set_places set) x → (n : ℕ) → (xs : List (Outcome A)) × (length xs ≡ n) × AllByRecursion (AnyGives (RunGives gives) (set_places set)) xs
      times x h zero = ([], refl, tt)
      times x h (suc n) = let more = times x h n in (x ∷ more.0, ap suc more.1, (h, more.2))

  -- an output leaves one run less
  pub left_after : (old new : FuturesUnordered (Run F)) (x : Outcome A)
      → After (Gathers (AnyGives (RunGives gives) (set_places old)) (set_len old)) x (Gathers (AnyGives (RunGives gives) (set_places new)) (set_len new))
      → set_len new + 1 ≡ set_len old
  left_after old new x after =
      let all = all_outcomes new (set_len new) refl in
      let ends : suc (length all.0) ≡ set_len old = (after all.0 None (record { each = all.2; ends = all.1 })).ends in
      omega (arith, ends, all.1)

  -- and a pending poll leaves each
  pub left_within : (old new : FuturesUnordered (Run F))
      → Within (Gathers (AnyGives (RunGives gives) (set_places old)) (set_len old)) (Gathers (AnyGives (RunGives gives) (set_places new)) (set_len new))
      → set_len new ≡ set_len old
  left_within old new within =
      let all = all_outcomes new (set_len new) refl in
      let ends : length all.0 ≡ set_len old = (within all.0 None (record { each = all.2; ends = all.1 })).ends in
      omega (arith, ends, all.1)

  -- what comes of a future with a ticket, and with its key
  abbrev Comes : Stub → F → Outcome A → Type 0
  Comes ticket f o = (o.0 ≡ ticket) × MatchResult o.1 (gives f) (IsNotice ticket)

  abbrev ComesWithKey : Stub → F → Key × Option A → Type 0
  ComesWithKey ticket f came = (came.0 ≡ ticket.key) × IfSome came.1 (gives f)

  -- an outcome of a run, for what it may give with its key
  up : (os : List (Option (Run F))) (came : Key × Option A) → AnyGives (GivesWithKey gives) os came
      → (o : Outcome A) × AnyGives (RunGives gives) os o × ((ticket : Stub) (f : F) → Comes ticket f o → ComesWithKey ticket f came)
  up [] came h = absurd h
  up (None ∷ os) came (inl own) = elim own [ ]
  up (Some run ∷ os) (key, None) (inl own) = ((run.ticket, Err (reading_of run.ticket)), inl (refl, (refl, omega (arith, reads_it run.ticket.key.slot (suc run.ticket.key.push)))), λ t f h. (own.0 ∙ ap (λ (t : Stub). t.key) h.0, tt))
  up (Some run ∷ os) (key, Some x) (inl own) = ((run.ticket, Ok x), inl (refl, own.1), λ t f h. (own.0 ∙ ap (λ (t : Stub). t.key) h.0, h.1))
  up (o ∷ os) came (inr more) = let u = up os came more in (u.0, inr u.1, u.2)

  -- and what a run may give with its key, for an outcome
  down : (os : List (Option (Run F))) (o : Outcome A) (came : Key × Option A) → ((ticket : Stub) (f : F) → Comes ticket f o → ComesWithKey ticket f came) → AnyGives (RunGives gives) os o → AnyGives (GivesWithKey gives) os came
  down [] o came to h = absurd h
  down (None ∷ os) o came to (inl own) = elim own [ ]
  down (None ∷ os) o came to (inr more) = inr (down os o came to more)
  down (Some run ∷ os) o came to (inl own) = inl (to run.ticket run.future own)
  down (Some run ∷ os) o came to (inr more) = inr (down os o came to more)

  -- if no outcome is new, nothing new may come with a key
  pub keys_narrow : (old new : List (Option (Run F))) → GivesNoMore (RunGives gives) old new → GivesNoMore (GivesWithKey gives) old new
  keys_narrow old new narrows came h = let u = up new came h in down old u.0 came u.2 (narrows u.0 u.1)

  -- what may come with a key once a future was added
  pub keys_added : (old new : List (Option (Run F))) (ticket : Stub) (f : F) → ((o : Outcome A) → AnyGives (RunGives gives) new o → AnyGives (RunGives gives) old o ⊎ Comes ticket f o)
      → (came : Key × Option A) → AnyGives (GivesWithKey gives) new came → AnyGives (GivesWithKey gives) old came ⊎ ComesWithKey ticket f came
  keys_added old new ticket f adds came h =
      let u = up new came h in
      elim (adds u.0 u.1) [ inl was ↦ inl (down old u.0 came u.2 was) | inr own ↦ inr (u.2 ticket f own) ]

  -- an output of a run comes with its key
  pub key_of_output : (os : List (Option (Run F))) (ticket : Stub) (x : A) → AnyGives (RunGives gives) os (ticket, Ok x) → AnyGives (GivesWithKey gives) os (ticket.key, Some x)
  key_of_output os ticket x = down os (ticket, Ok x) (ticket.key, Some x) (λ t f h. (ap (λ (t : Stub). t.key) h.0, h.1))

  -- the ticket of an outcome is that of a run
  pub given_outcome : (l : Account) (os : List (Option (Run F))) (o : Outcome A) → AnyGives (RunGives gives) os o → AllPollable (λ (run : Run F). IsGivenBy l run.ticket) os → IsGivenBy l o.0
  given_outcome l [] o h all = absurd h
  given_outcome l (None ∷ os) o (inl own) all = elim own [ ]
  given_outcome l (Some run ∷ os) o (inl own) all = subst (λ t. IsGivenBy l t) (sym own.0) all.0
  given_outcome l (r ∷ os) o (inr more) all = given_outcome l os o more all.1

  -- and that of a run is that of an outcome
  pub given_by_outcomes : (l : Account) (os : List (Option (Run F))) → ((o : Outcome A) → AnyGives (RunGives gives) os o → IsGivenBy l o.0) → AllPollable (λ (run : Run F). IsGivenBy l run.ticket) os
  given_by_outcomes l [] h = tt
  given_by_outcomes l (None ∷ os) h = (tt, given_by_outcomes l os (λ o more. h o (inr more)))
  given_by_outcomes l (Some run ∷ os) h =
      (h (run.ticket, Err (reading_of run.ticket)) (inl (refl, (refl, omega (arith, reads_it run.ticket.key.slot (suc run.ticket.key.push))))), given_by_outcomes l os (λ o more. h o (inr more)))

  -- each run of a list that gives no more has a ticket that a run had before
  pub given_runs : (l : Account) (old new : List (Option (Run F))) → GivesNoMore (RunGives gives) old new → AllPollable (λ (run : Run F). IsGivenBy l run.ticket) old → AllPollable (λ (run : Run F). IsGivenBy l run.ticket) new
  given_runs l old new narrows all = given_by_outcomes l new (λ o h. given_outcome l old o (narrows o h) all)

module _ {F : Type 0} (can_poll : F → Type 0) where
  pub runs_pollable : (l : Account) (os : List (Option (Run F))) → AllPollable (λ (run : Run F). can_poll run.future) os → AllPollable (λ (run : Run F). IsGivenBy l run.ticket) os → AllPollable (CanPollRun can_poll) os
  runs_pollable l [] can given = tt
  runs_pollable l (None ∷ os) can given = (tt, runs_pollable l os can.1 given.1)
  runs_pollable l (Some run ∷ os) can given = ((given.0.2, can.0), runs_pollable l os can.1 given.1)

  pub futures_pollable : (os : List (Option (Run F))) → AllPollable (CanPollRun can_poll) os → AllPollable (λ (run : Run F). can_poll run.future) os
  futures_pollable [] can = tt
  futures_pollable (None ∷ os) can = (tt, futures_pollable os can.1)
  futures_pollable (Some run ∷ os) can = (can.0.1, futures_pollable os can.1)

pub none_pollable : {F : Type 0} (can_poll : F → Type 0) → AllPollable can_poll []
none_pollable can_poll = tt

module _ {F : Type 0} where
  pub started_still : (old new : List (Waits F)) (asked left : Context) → new ≡ old → Keeps asked left → ((old ≡ []) ⊎ IsWoken asked) → (new ≡ []) ⊎ IsWoken left
  started_still old new asked left same keeps (inl none) = inl (same ∙ none)
  started_still old new asked left same keeps (inr woken) = inr (λ source. keeps (Lasting.hears source) (woken source))

-- a map that grew by one slot, or not, holds what it held
pub grown_values : {X E : Type 0} (old new : Slots X) (r : Result (Unit {0}) E) → OnOk r (GrowsByOne old new) → OnErr r (new ≡ old) → (i : ℕ) → value_in new i ≡ value_in old i
grown_values old new (Ok u) grown same i = ap (λ ps. get_or ps i None) grown.0 ∙ get_or-push_default old.places None i
grown_values old new (Err e) grown same i = ap (λ (m : Slots _). value_in m i) same

pub grown_counts : {X E : Type 0} (old new : Slots X) (r : Result (Unit {0}) E) → OnOk r (GrowsByOne old new) → OnErr r (new ≡ old)
    → (held_count new ≡ held_count old) × (length old.places ≤ length new.places) × (length new.places ≤ length old.places + 1)
grown_counts old new (Ok u) grown same = let long = ap length grown.0 ∙ length_push old.places None in (grown.2, omega (arith, long), omega (arith, long))
grown_counts old new (Err e) grown same = let long = ap (λ (m : Slots _). length m.places) same in (ap held_count same, omega (arith, long), omega (arith, long))

module _ {F T : Type 0} where
  -- what a slot holds after a call, it held before
  abbrev pub NoNewPlace : Flights F T → Flights F T → Type 0
  NoNewPlace old new = (i : ℕ) (place : Place T) → value_in new.slots i ≡ Some place → value_in old.slots i ≡ Some place

  pub same_places : (old new : Flights F T) → new.slots ≡ old.slots → NoNewPlace old new
  same_places old new same i place holds = subst (λ s. value_in s i ≡ Some place) same holds

  pub freed_places : (old new : Flights F T) (slot : ℕ) → new.slots ≡ with_slot_freed old.slots slot → NoNewPlace old new
  freed_places old new slot freed i place holds =
      let after = subst (λ s. value_in s i ≡ Some place) freed holds in
      elim (cases_eq i slot) [
        | inl at ↦ absurd (None-Some (sym (value_in-with_slot_freed old.slots slot) ∙ subst (λ i. value_in (with_slot_freed old.slots slot) i ≡ Some place) at after))
        | inr other ↦ sym (value_in-with_slot_freed_other old.slots slot i other) ∙ after
      ]

  -- what a set keeps while it makes room
  pub record Widens (old wide : Flights F T) : Type 0 where
    pub places : NoNewPlace old wide
    pub counts : (marked : Option (Place T) → Bool) → marked None ≡ false → count_by marked wide.slots.places ≡ count_by marked old.slots.places
    pub slots : flight_slots old ≤ flight_slots wide
    pub futures : (wide.running ≡ old.running) × (wide.waiting ≡ old.waiting)
    pub rest : (wide.cancelled ≡ old.cancelled) × (wide.next ≡ old.next)
    pub held : held_count wide.slots ≡ held_count old.slots

  pub widens_none : (s : Flights F T) → Widens s s
  widens_none s = record { places = λ i place holds. holds; counts = λ marked none. refl; slots = omega arith; futures = (refl, refl); rest = (refl, refl); held = refl }

  pub widens : (old wide : Flights F T) → MakesRoom old wide → Widens old wide
  widens old wide (inl same) = subst (λ s. Widens old s) (sym same.1) (widens_none old)
  widens old wide (inr made) = record {
    places = λ i place holds. sym (ap (λ ps. get_or ps i None) made.1.slots.0 ∙ get_or-push_default old.slots.places None i) ∙ holds;
    counts = λ marked none. ap (λ ps. count_by marked ps) made.1.slots.0 ∙ none_more old.slots.places marked none;
    slots = let e = ap length made.1.slots.0 in omega (arith, e, length_push old.slots.places None);
    futures = made.1.futures;
    rest = made.1.rest;
    held = made.1.slots.2;
  }
    where
      none_more : (ps : List (Option (Place T))) (marked : Option (Place T) → Bool) → marked None ≡ false → count_by marked (ps ++ None ∷ []) ≡ count_by marked ps
      none_more ps marked none =
          let last : ◌≡◌ {A = ℕ} (cond (marked None) 1 0) 0 = ap (λ (b : Bool). cond b 1 0) none in
          sum_by-append (λ (o : Option (Place T)). cond (marked o) 1 0) ps (None ∷ []) ∙ omega (arith, last)

module _ {F A : Type 0} (future : FutureOf F A) where
  any_push : (ws : List (Waits F)) (w : Waits F) (came : Key × Option A) → AnyWaitGives future (ws ++ w ∷ []) came → AnyWaitGives future ws came ⊎ WaitGives future w came
  any_push [] w came (inl own) = inr own
  any_push [] w came (inr none) = absurd none
  any_push (v ∷ ws) w came (inl first) = inl (inl first)
  any_push (v ∷ ws) w came (inr more) = elim (any_push ws w came more) [ inl was ↦ inl (inr was) | inr own ↦ inr own ]

module _ {F A T : Type 0} (future : FutureOf F A) where
  -- what may come under a tag after a call, might before
  pub tags_on : (old new : Flights F T) → NoNewPlace old new → FlightsGiveNoMore future old new → (out : T × A) → TagGives future new out → TagGives future old out
  tags_on old new places narrows out h = (h.0, places h.0.slot _ h.1, narrows (h.0, Some out.1) h.2)

  pub polled_tags : (old new : Flights F T) (answer : Poll (Option (Came A T))) → GivesByKey future old answer new → FlightsGiveNoMore future old new → (out : T × A) → TagGives future new out → TagGives future old out
  polled_tags old new (Ready None) gave = tags_on old new (same_places old new gave.1)
  polled_tags old new (Ready (Some came)) gave = tags_on old new (freed_places old new came.key.slot gave.freed)
  polled_tags old new Pending gave = tags_on old new (same_places old new gave.1)

  -- an output is one that a future held under its tag may give
  pub came_under : (old new : Flights F T) (came : Came A T) → ComesByKey future old came new → TagGives future old (came.tag, came.output)
  came_under old new came y = (came.key, y.was_held, y.gave)

  -- a poll without keys is one of a stream
  abbrev as_stream : (Flights F T → Type 0) → StreamOf (Flights F T) A
  as_stream can_poll = stream_of can_poll FlightsWaitAt (ComesFromSlots future)

  pub stream_answers : (can_poll : Flights F T → Type 0) (old new : Flights F T) (answer : Poll (Option (Came A T))) (cx left : Context) → can_poll new → PollsInFlight future old answer new cx left → StreamAnswers (as_stream can_poll) old (without_key answer) new cx left
  stream_answers can_poll old new Pending cx left again p =
      let less : (x : A) → AnySlotGives future new x → AnySlotGives future old x = λ x h. (h.0, polled_tags old new Pending p.gave p.narrows (h.0, x) h.1) in
      answers_of (as_stream can_poll) old new Pending cx left tt tt (Gathers-Within less (held_count old.slots) (held_count new.slots) (ap (λ (s : Slots (Place T)). held_count s) p.gave.1)) again p.registered p.kept
  stream_answers can_poll old new (Ready None) cx left again p = answers_of (as_stream can_poll) old new (Ready None) cx left (record { each = tt; ends = sym p.gave.0 }) tt tt again tt p.kept
  stream_answers can_poll old new (Ready (Some came)) cx left again p =
      let less : (x : A) → AnySlotGives future new x → AnySlotGives future old x = λ x h. (h.0, polled_tags old new (Ready (Some came)) p.gave p.narrows (h.0, x) h.1) in
      let gave : AnySlotGives future old came.output = (came.tag, came_under old new came p.gave) in
      answers_of (as_stream can_poll) old new (Ready (Some came.output)) cx left (record { each = tt; ends = (gave, omega (arith, p.gave.fewer)) }) (Gathers-After less (held_count old.slots) (held_count new.slots) came.output p.gave.fewer gave) tt again tt p.kept

module _ {F A T : Type 0} (future : FutureOf F A) where
  -- a set without a future may be polled
  pub none_can_poll : (s : Flights F T) → s.running ≡ None → s.waiting ≡ [] → held_count s.slots ≡ 0 → s.cancelled ≡ 0 → CanPollAll future s
  none_can_poll s none empty unheld gone = record {
    running = rw none tt;
    waiting = rw empty tt;
    older = λ came h. elim h [ inl run ↦ absurd (rw none at run) | inr wait ↦ absurd (rw empty at wait) ];
    counts = omega (arith, ap run_count none, ap length empty, unheld, gone);
  }

  -- the kit's set was polled, and what waits is as it was
  pub less_after : (old new : Flights F T) → ((came : Key × Option A) → AnyRunGives future new.running came → AnyRunGives future old.running came) → new.waiting ≡ old.waiting → FlightsGiveNoMore future old new
  less_after old new narrows waiting came g = elim g [
    | inl run ↦ inl (narrows came run)
    | inr wait ↦ inr (subst (λ ws. AnyWaitGives future ws came) waiting wait)
  ]

  -- as many futures run or wait as are held or cancelled
  abbrev pub Counted : Flights F T → Type 0
  Counted s = run_count s.running + length s.waiting ≡ held_count s.slots + s.cancelled

  can_on : (old new : Flights F T) → CanPollAll future old → CanPollRuns future new.running
      → CanPollWaiting future new.waiting → new.next ≡ old.next → FlightsGiveNoMore future old new → Counted new → CanPollAll future new
  can_on old new can each waits next less counts =
      record { running = each; waiting = waits; older = λ came g. subst (λ n. came.0.push < n) (sym next) (can.older came (less came g)); counts = counts }

  pub can_after : (old new : Flights F T) → CanPollAll future old → CanPollRuns future new.running
      → new.waiting ≡ old.waiting → new.next ≡ old.next → FlightsGiveNoMore future old new → Counted new → CanPollAll future new
  can_after old new can each waiting = can_on old new can each (subst (λ ws. CanPollWaiting future ws) (sym waiting) can.waiting)

  -- a set with the same futures gives no more than before, and still may be polled
  pub same_gives : (old new : Flights F T) → new.running ≡ old.running → new.waiting ≡ old.waiting → FlightsGiveNoMore future old new
  same_gives old new running = less_after old new (λ came run. subst (λ runs. AnyRunGives future runs came) running run)

  pub same_can_poll : (old new : Flights F T) → CanPollAll future old → new.running ≡ old.running → new.waiting ≡ old.waiting → new.next ≡ old.next
      → held_count new.slots + new.cancelled ≡ held_count old.slots + old.cancelled → CanPollAll future new
  same_can_poll old new can running waiting next room =
      can_after old new can (subst (λ runs. CanPollRuns future runs) (sym running) can.running) waiting next (same_gives old new running waiting)
      (omega (arith, can.counts, ap run_count running, ap length waiting, room))

  -- a future was cancelled
  pub cancelled : (old mid new : Flights F T) (key : Key) (tag : T) → CanPollAll future old → Cancels old key tag mid
      → new.slots ≡ mid.slots → new.running ≡ mid.running → new.waiting ≡ mid.waiting → new.cancelled ≡ mid.cancelled → new.next ≡ mid.next → CanPollAll future new
  cancelled old mid new key tag can c slots running waiting gone next =
      same_can_poll old new can (running ∙ c.others.0) (waiting ∙ c.others.1) (next ∙ c.keys) (omega (arith, ap held_count slots, gone, c.fewer, c.room))

  -- the kit's set took the future
  pub flies : (old new : Flights F T) (value : Waits F) → CanPollWaiting future old.waiting
      → CanPollRuns future new.running
      → ((came : Key × Option A) → AnyRunGives future new.running came → AnyRunGives future old.running came ⊎ ((came.0 ≡ value.ticket.key) × IfSome came.1 (future.gives value.future)))
      → run_count new.running ≡ run_count old.running + 1
      → value.ticket.key.push + 1 < 2 ^ 64
      → new.slots ≡ old.slots → new.next ≡ old.next → new.cancelled ≡ old.cancelled → new.waiting ≡ old.waiting
      → Flies future old value new
  flies old new value waits each gives one_more below slots next cancelled same =
      let waiting = subst (λ ws. CanPollWaiting future ws) (sym same) waits in
      let may : (came : Key × Option A) → MayCome future new came → MayCome future old came ⊎ WaitGives future value came = λ came g. elim g [
        | inl run ↦ elim (gives came run) [ inl was ↦ inl (inl was) | inr own ↦ inr (own.0, below, own.1) ]
        | inr wait ↦ inl (inr (subst (λ ws. AnyWaitGives future ws came) same wait))
      ] in
      record { running = each; waiting = waiting; gives = may; counts = omega (arith, one_more, ap length same); slots = slots; rest = (cancelled, next) }

  -- it waits behind the others
  pub left_waiting : (old new : Flights F T) (value : Waits F) → CanPollWaiting future old.waiting
      → future.can_poll value.future
      → CanPollRuns future new.running
      → ((came : Key × Option A) → AnyRunGives future new.running came → AnyRunGives future old.running came)
      → run_count new.running ≡ run_count old.running
      → new.slots ≡ old.slots → new.next ≡ old.next → new.cancelled ≡ old.cancelled → new.waiting ≡ old.waiting ++ value ∷ []
      → Flies future old value new
  left_waiting old new value waits fit each refused no_more slots next cancelled at_end =
      let waiting = subst (λ ws. CanPollWaiting future ws) (sym at_end) (AllByRecursion-push (λ (w : Waits F). future.can_poll w.future) old.waiting value fit waits) in
      let gives : (came : Key × Option A) → MayCome future new came → MayCome future old came ⊎ WaitGives future value came = λ came g. elim g [
        | inl run ↦ inl (inl (refused came run))
        | inr wait ↦ elim (any_push future old.waiting value came (subst (λ ws. AnyWaitGives future ws came) at_end wait)) [ inl was ↦ inl (inr was) | inr own ↦ inr own ]
      ] in
      let longer = ap length at_end ∙ length_push old.waiting value in
      record { running = each; waiting = waiting; gives = gives; counts = omega (arith, no_more, longer); slots = slots; rest = (cancelled, next) }

  -- a future went in under the next number
  pub entered : (old mid new : Flights F T) (value : Waits F) (f : F) (tag : T) → CanPollAll future old → value.future ≡ f
      → value.ticket.key.push ≡ old.next → old.next < 2 ^ 64 → mid.next ≡ min (old.next + 1) (2 ^ 64 - 1)
      → Inserts old.slots value.ticket.key.slot (record { tag = tag; push = value.ticket.key.push }) mid.slots
      → held_count mid.slots ≡ held_count old.slots + 1
      → mid.running ≡ old.running → mid.waiting ≡ old.waiting → mid.cancelled ≡ old.cancelled
      → Flies future mid value new
      → EntersAt future old f tag value.ticket.key new
  entered old mid new value f tag can is number small next ins more running waiting cancelled h =
      let key = value.ticket.key in
      let gives : (came : Key × Option A) → MayCome future new came → MayCome future old came ⊎ WaitGives future value came =
      λ came g. elim (h.gives came g) [ inl mids ↦ inl (same_gives old mid running waiting came mids) | inr own ↦ inr own ] in
      record {
        numbered = (number, h.rest.1 ∙ next);
        went_in = subst (λ slots. Inserts old.slots key.slot (record { tag = tag; push = key.push }) slots) (sym h.slots) ins;
        one_more = ap held_count h.slots ∙ more;
        runs = omega (arith, h.counts, ap run_count running, ap length waiting);
        room = h.rest.0 ∙ cancelled;
        own = λ x g. elim (gives (key, Some x) g) [
          | inl older ↦ absurd (omega (arith, can.older (key, Some x) older, number))
          | inr own ↦ subst (λ f. future.gives f x) is own.2
        ];
        others = λ came g. elim (gives came g) [ inl older ↦ inl older | inr own ↦ inr (own.0, subst (λ f. IfSome came.1 (future.gives f)) is own.2) ];
        again = record {
          running = h.running;
          waiting = h.waiting;
          older = λ came g. elim (gives came g) [
            | inl older ↦ omega (arith, can.older came older, h.rest.1, next, small)
            | inr own ↦ omega (arith, ap (λ (k : Key). k.push) own.0, own.1, number, h.rest.1, next)
          ];
          counts = omega (arith, h.counts, ap run_count running, ap length waiting, can.counts, ap held_count h.slots, more, h.rest.0, cancelled);
        };
      }

  -- a push keeps the number of slots
  pub same_slots : (old new : Flights F T) (f : F) (tag : T) (key : Key) → EntersAt future old f tag key new → flight_slots new ≡ flight_slots old
  same_slots old new f tag key p = ap (λ (places : List (Option (Place T))). length places) p.went_in.now_held ∙ length-set old.slots.places key.slot _

  pub wide_can_poll : (old wide : Flights F T) → CanPollAll future old → MakesRoom old wide → CanPollAll future wide
  wide_can_poll old wide can made =
      let w = widens old wide made in same_can_poll old wide can w.futures.0 w.futures.1 w.rest.1 (omega (arith, w.held, w.rest.0))

  -- room was made, and the future went in
  pub admitted : {B : Type 0} (grows : Bool) (old wide new : Flights F T) (f : F) (tag : T) (given : B) (key : Key) → MakesRoom old wide → (grows ≡ false → wide ≡ old) → (HasNoRoom wide → ⊥) → EntersAt future wide f tag key new → PushesInFlight future grows old f tag given (Ok key) new
  admitted false old wide new f tag given key made same has p =
      record {
        went_in = subst (λ s. EntersAt future s f tag key new) (same refl) p;
        back = tt;
        full = λ full. absurd (has (subst (λ (s : Flights F T). HasNoRoom s) (sym (same refl)) full));
        room = λ e. absurd (false≢true e);
      }
  admitted true old wide new f tag given key made same has p =
      record { went_in = (wide, made, p); back = tt; full = λ used. absurd (has (inr (omega (arith, (widens old wide made).rest.1, used)))); room = λ e. absurd (false≢true e) }

  -- there was no room
  pub turned_away : {B : Type 0} (grows : Bool) (old new : Flights F T) (f : F) (tag : T) (given : B) → HasNoRoom old → new ≡ old → PushesInFlight future grows old f tag given (Err given) new
  turned_away grows old new f tag given none same = record { went_in = tt; back = (refl, same); full = λ _. refl; room = λ _. none }

  pub starts_none : (s : Flights F T) → CanPollAll future s → Starts future s s
  starts_none s can = record { slots = refl; keys = refl; room = omega arith; less = λ came g. g; again = can }

  pub starts_on : (a b c : Flights F T) → Starts future a b → Starts future b c → Starts future a c
  starts_on a b c p q = record { slots = q.slots ∙ p.slots; keys = q.keys ∙ p.keys; room = omega (arith, p.room, q.room); less = λ came g. p.less came (q.less came g); again = q.again }

  -- one that waited was dropped, since it was cancelled
  pub dropped : (old mid new : Flights F T) (w : Waits F) → CanPollAll future old → old.waiting ≡ w ∷ mid.waiting → mid.running ≡ old.running
      → mid.slots ≡ old.slots → mid.next ≡ old.next → mid.cancelled ≡ old.cancelled
      → new.waiting ≡ mid.waiting → new.running ≡ mid.running → new.slots ≡ mid.slots → new.next ≡ mid.next → new.cancelled + 1 ≡ mid.cancelled
      → Starts future old new
  dropped old mid new w can is running slots next gone waiting2 running2 slots2 next2 fewer =
      let whole : old.waiting ≡ w ∷ new.waiting = is ∙ ap (λ ws. w ∷ ws) (sym waiting2) in
      let less : FlightsGiveNoMore future old new = λ came g. elim g [
        | inl run ↦ inl (subst (λ runs. AnyRunGives future runs came) (running2 ∙ running) run)
        | inr wait ↦ inr (subst (λ ws. AnyWaitGives future ws came) (sym whole) (inr wait))
      ] in
      let again = can_on old new can (subst (λ runs. CanPollRuns future runs) (sym (running2 ∙ running)) can.running) (subst (λ ws. CanPollWaiting future ws) whole can.waiting).1 (next2 ∙ next) less
      (omega (arith, can.counts, ap run_count (running2 ∙ running), ap length whole, ap held_count (slots2 ∙ slots), fewer, gone)) in
      record { slots = slots2 ∙ slots; keys = next2 ∙ next; room = omega (arith, fewer, gone); less = less; again = again }

  -- one that waited went to the kit's set, or waits again
  pub started : (old mid new : Flights F T) (w : Waits F) → CanPollAll future old → old.waiting ≡ w ∷ mid.waiting → mid.running ≡ old.running
      → mid.slots ≡ old.slots → mid.next ≡ old.next → mid.cancelled ≡ old.cancelled → Flies future mid w new → Starts future old new
  started old mid new w can is running slots next gone h =
      let less : FlightsGiveNoMore future old new = λ came g. elim (h.gives came g) [
        | inl mids ↦ elim mids [
          | inl run ↦ inl (subst (λ runs. AnyRunGives future runs came) running run)
          | inr wait ↦ inr (subst (λ ws. AnyWaitGives future ws came) (sym is) (inr wait))
        ]
        | inr own ↦ inr (subst (λ ws. AnyWaitGives future ws came) (sym is) (inl own))
      ] in
      let again = can_on old new can h.running h.waiting (h.rest.1 ∙ next) less
      (omega (arith, can.counts, h.counts, ap run_count running, ap length is, ap held_count (h.slots ∙ slots), h.rest.0, gone)) in
      record { slots = h.slots ∙ slots; keys = h.rest.1 ∙ next; room = omega (arith, gone, h.rest.0); less = less; again = again }

  -- a poll of what the starts and turns before left
  pub polls_from : (old mid new : Flights F T) (answer : Poll (Option (Came A T))) (cx asked left : Context) → Starts future old mid → Keeps cx asked → 0 < held_count mid.slots → PollsInFlight future mid answer new asked left → PollsInFlight future old answer new cx left
  polls_from old mid new answer cx asked left s kept some p =
      let kept : Keeps cx left = λ fact h. p.kept fact (kept fact h) in
      record { gave = gave answer p.gave; narrows = λ came g. s.less came (p.narrows came g); keys = p.keys ∙ s.keys; room = omega (arith, p.room, s.room); ended = p.ended; started = p.started; registered = p.registered; kept = kept; again = p.again }
    where
      gave : (answer : Poll (Option (Came A T))) → GivesByKey future mid answer new → GivesByKey future old answer new
      gave (Ready None) g = absurd (omega (arith, some, g.0))
      gave (Ready (Some came)) g = record {
        was_held = subst (λ (slots : Slots (Place T)). value_in slots came.key.slot ≡ Some (record { tag = came.tag; push = came.key.push })) s.slots g.was_held;
        gave = s.less (came.key, Some came.output) g.gave;
        freed = subst (λ (slots : Slots (Place T)). new.slots ≡ with_slot_freed slots came.key.slot) s.slots g.freed;
        fewer = subst (λ (slots : Slots (Place T)). held_count new.slots + 1 ≡ held_count slots) s.slots g.fewer;
      }
      gave Pending g = (subst (λ (slots : Slots (Place T)). 0 < held_count slots) s.slots g.0, g.1 ∙ s.slots)

  -- the task polls again
  pub pended : (old new : Flights F T) (cx asked left : Context) → Starts future old new → Keeps cx asked → 0 < held_count new.slots → Keeps asked left → IsArmed left → IsWoken left → PollsInFlight future old Pending new cx left
  pended old new cx asked left s kept some keeps armed heard =
      let some = subst (λ (slots : Slots (Place T)). 0 < held_count slots) s.slots some in
      let kept : Keeps cx left = λ fact h. keeps fact (kept fact h) in
      record { gave = (some, s.slots); narrows = s.less; keys = s.keys; room = s.room; ended = inr heard; started = inr heard; registered = (armed, λ source _. heard source); kept = kept; again = s.again }

  -- nothing is held
  pub ends : (old new : Flights F T) (cx : Context) → held_count old.slots ≡ 0 → new.cancelled ≡ 0 → new.waiting ≡ [] → new.slots ≡ old.slots → new.next ≡ old.next → (old.cancelled ≡ 0 → new ≡ old) → FlightsGiveNoMore future old new → CanPollAll future new → PollsInFlight future old (Ready None) new cx cx
  ends old new cx none gone no_waiting slots next same less again =
      record { gave = (none, slots, gone, same); narrows = less; keys = next; room = omega (arith, gone); ended = tt; started = inl no_waiting; registered = tt; kept = λ fact h. h; again = again }

  -- a turn in which a cancelled future has ended
  pub turned : (old mid new : Flights F T) → CanPollAll future old → CanPollRuns future mid.running
      → ((came : Key × Option A) → AnyRunGives future mid.running came → AnyRunGives future old.running came) → run_count mid.running + 1 ≡ run_count old.running
      → mid.slots ≡ old.slots → mid.next ≡ old.next → mid.waiting ≡ old.waiting → mid.cancelled ≡ old.cancelled
      → new.slots ≡ mid.slots → new.cancelled + 1 ≡ mid.cancelled → new.next ≡ mid.next → new.waiting ≡ mid.waiting → new.running ≡ mid.running
      → Starts future old new
  turned old mid new can each narrows one_less slots next waiting gone slots2 fewer next2 waiting2 running2 =
      let less = less_after old new (λ came h. narrows came (subst (λ runs. AnyRunGives future runs came) running2 h)) (waiting2 ∙ waiting) in
      let again = can_after old new can (subst (λ runs. CanPollRuns future runs) (sym running2) each) (waiting2 ∙ waiting) (next2 ∙ next) less
      (omega (arith, can.counts, one_less, ap run_count running2, ap length (waiting2 ∙ waiting), ap held_count (slots2 ∙ slots), fewer, gone)) in
      record { slots = slots2 ∙ slots; keys = next2 ∙ next; room = omega (arith, fewer, gone); less = less; again = again }

  -- the kit's set is pending
  pub waited : (old new : Flights F T) (cx asked left : Context) → CanPollAll future old → CanPollRuns future new.running
      → ((came : Key × Option A) → AnyRunGives future new.running came → AnyRunGives future old.running came) → run_count new.running ≡ run_count old.running
      → new.slots ≡ old.slots → new.next ≡ old.next → new.waiting ≡ old.waiting → new.cancelled ≡ old.cancelled
      → 0 < held_count old.slots
      → Covers asked (FlightsWaitAt new) → Keeps cx asked → Keeps asked left → ((old.waiting ≡ []) ⊎ IsWoken cx)
      → ((new.cancelled ≡ 0) ⊎ IsWoken left) → PollsInFlight future old Pending new cx left
  waited old new cx asked left can each narrows as_many slots next waiting gone some registered kept keeps started ended =
      let less = less_after old new narrows waiting in
      let again = can_after old new can each waiting next less (omega (arith, can.counts, as_many, ap length waiting, ap held_count slots, gone)) in
      let kept : Keeps cx left = λ fact h. keeps fact (kept fact h) in
      let started = started_still old.waiting new.waiting cx left waiting kept started in
      let registered : Covers left (FlightsWaitAt new) = (keeps Lasting.armed registered.0, λ source at. keeps (Lasting.hears source) (registered.1 source at)) in
      record { gave = (some, slots); narrows = less; keys = next; room = omega (arith, gone); ended = ended; started = started; registered = registered; kept = kept; again = again }

  -- an output of a future that is held
  pub came_out : (old mid new : Flights F T) (ticket : Stub) (answer : Result A Reading) (came : Came A T) (cx left : Context) → CanPollAll future old → CanPollRuns future mid.running
      → ((came : Key × Option A) → AnyRunGives future mid.running came → AnyRunGives future old.running came) → run_count mid.running + 1 ≡ run_count old.running
      → mid.slots ≡ old.slots → mid.next ≡ old.next → mid.waiting ≡ old.waiting → mid.cancelled ≡ old.cancelled
      → AnyGives (RunGives future.gives) (runs_in old.running) (ticket, answer)
      → Takes mid ticket answer came new → new.next ≡ mid.next → new.waiting ≡ mid.waiting → new.running ≡ mid.running
      → ((old.waiting ≡ []) ⊎ IsWoken cx)
      → Keeps cx left
      → PollsInFlight future old (Ready (Some came)) new cx left
  came_out old mid new ticket answer came cx left can each narrows one_less slots next waiting gone gave t next2 waiting2 running2 started kept =
      let less = less_after old new (λ came h. narrows came (subst (λ runs. AnyRunGives future runs came) running2 h)) (waiting2 ∙ waiting) in
      let given = key_of_output future.gives (runs_in old.running) ticket came.output (subst (λ r. AnyGives (RunGives future.gives) (runs_in old.running) (ticket, r)) t.output gave) in
      let gave : ComesByKey future old came new = record {
        was_held = subst (λ (s : Slots (Place T)). value_in s came.key.slot ≡ Some (record { tag = came.tag; push = came.key.push })) slots t.was_held;
        gave = inl (subst (λ key. AnyRunGives future old.running (key, Some came.output)) (sym t.key) given);
        freed = subst (λ (s : Slots (Place T)). new.slots ≡ with_slot_freed s came.key.slot) slots t.freed;
        fewer = subst (λ (s : Slots (Place T)). held_count new.slots + 1 ≡ held_count s) slots t.fewer;
      } in
      let again = can_after old new can (subst (λ runs. CanPollRuns future runs) (sym running2) each) (waiting2 ∙ waiting) (next2 ∙ next) less
      (omega (arith, can.counts, one_less, ap run_count running2, ap length (waiting2 ∙ waiting), ap held_count slots, t.fewer, t.room, gone)) in
      let started = started_still old.waiting new.waiting cx left (waiting2 ∙ waiting) kept started in
      record { gave = gave; narrows = less; keys = next2 ∙ next; room = omega (arith, t.room, gone); ended = tt; started = started; registered = tt; kept = kept; again = again }
