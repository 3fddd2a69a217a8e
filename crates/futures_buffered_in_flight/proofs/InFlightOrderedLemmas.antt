-- What the calls of an ordered queue of futures in flight leave of it.
use Rattle.futures_buffered_in_flight.proofs.Common.{◌≡◌, ◌+◌, ◌<◌, ◌≤◌, ◌^◌, ℕ, Bool, true, false, List, [], ◌∷◌, length, cond, Option, Some, None, ◌⊎◌, inl, inr, refl, sym, subst, ap, ◌∙◌, arith, FoldsTo, Result, Ok, Err, OnOk, IfErr, IsErr, false≢true, true≢false, Poll, Ready, Pending, OnPending, Runs, Within, Context, Slots, held_count, no_slots, IsWoken, StreamAnswers, stream_of, PollsNumberedSet, one_at, AddsBack, AddsFront, BesideTask, HandsBack, IsUnused, MayRefuse, Ordered, OrderedGives, PollsOrdered, QueueIsAtBound, SetYields, with_task, Flights, FlightsWaitAt, FutureOf, IsNewInFlight, TagGives, flight_slots, CanPollQueue, MayRefuseNumber, PollsQueued, PushesQueued, RefusesNumbers, has_tag, flights_with, AnswersInTurn, CanPollOrdered, ComesOfEach, EntersBack, EntersFront, HasPlaces, IsCleared, KeepsInOrder, MayRefuseFuture, OrderedIsFull, OrderedWaitsAt, PushesInTurn, PushesOrComesBack, RefusesFutures, Came, Place}
use Rattle.std.proofs.lemmas.List.Folds.{sum_by-replicate}
use Rattle.futures_buffered_unordered.specs.declared.poll_one.PollFuture.{PollFuture}
use Rattle.futures_buffered_ordered.specs.declared.numbered_polls.NumberedPolls.{Ghosts as NumberedPollsOf}
use Rattle.futures_buffered_ordered.specs.OrderedEntriesInvariant.{IsNumbered}
use Rattle.futures_buffered_ordered.proofs.OrderedEntriesInvariantLemmas.{held_by_entries, new_is_numbered}
use Rattle.futures_buffered_ordered.proofs.OrderedEntriesLemmas.{as_many_of, comes_before, comes_behind, empty_of, fewer_of, gives_alone, no_more_of, one_entry_more, one_entry_more_before, queue_answers, unused_none}
use Rattle.futures_buffered_in_flight.proofs.InFlightLemmas.{came_under, polled_tags}
use Rattle.futures_buffered_in_flight.proofs.InFlightQueueLemmas.{HasGrown, added_gives, flight_count, kept_room, new_count, new_slots, polled_room, tag_counts, tagged_with, tags_freed}

-- free slots, no entry, and a place for an entry of each slot
pub new_keeps : {F A : Type 0} (grows : Bool) (q : Ordered (Flights F ℕ) A) (set : Flights F ℕ) (n : ℕ) → 0 < n → IsNewInFlight n set → q.set ≡ set → q.entries ≡ [] → (grows ≡ false → (n ≤ q.room) × (n < 2 ^ 62)) → KeepsInOrder grows q
new_keeps {F} grows q set n some new is none places =
    let same : flight_slots q.set ≡ n = ap (λ (s : Flights F ℕ). flight_slots s) is ∙ new_slots n set new in
    let empty : length q.entries ≡ 0 = ap length none in
    record {
      numbered = new_is_numbered flights_with flight_count q none
          (λ i.
          let none_tagged : tagged_with i (no_slots n) ≡ 0 = sum_by-replicate (λ (o : Option (Place ℕ)). cond (has_tag i o) 1 0) n None ∙ omega arith in
          rw is (omega (arith, ap (λ s. tagged_with i s) new.0, none_tagged)))
          (rw is (new_count n set new));
      some = omega (arith, same, some);
      bounded = λ b. record { bound = omega (arith, empty); fits = omega (arith, same, (places b).0); small = omega (arith, same, (places b).1) };
    }

module _ {F A : Type 0} where
  -- the futures and the entries of a queue were dropped
  pub cleared : (grows : Bool) (old new : Ordered (Flights F ℕ) A) → (grows ≡ false → HasPlaces old) → IsNewInFlight (flight_slots old.set) new.set → new.entries ≡ [] → new.room ≡ old.room → IsCleared grows old new
  cleared true old new places set none room = (none, set)
  cleared false old new places set none room = record { new_set = set; no_entries = none; has_room = omega (arith, (places refl).fits, room) }

  -- a push into a queue that is not at its bound is refused only if it may be
  may_refuse : (grows : Bool) (q : Ordered (Flights F ℕ) A) → KeepsInOrder grows q → (grows ≡ false → length q.entries < flight_slots q.set) → MayRefuse (MayRefuseNumber grows) q → MayRefuseFuture grows q
  may_refuse true q keeps fewer may = may
  may_refuse false q keeps fewer (inl full) = absurd (omega (arith, full, (keeps.bounded refl).fits, fewer refl))
  may_refuse false q keeps fewer (inr (inl full)) = absurd (omega (arith, full, fewer refl, held_by_entries flights_with flight_count q keeps.numbered))
  may_refuse false q keeps fewer (inr (inr long)) = absurd (omega (arith, long, (keeps.bounded refl).small, fewer refl))

  -- such a queue refuses each push only if its set does
  set_refuses : (grows : Bool) (q : Ordered (Flights F ℕ) A) → (grows ≡ false → length q.entries < flight_slots q.set) → RefusesFutures grows q → RefusesNumbers grows q.set
  set_refuses true q fewer used = used
  set_refuses false q fewer full = absurd (omega (arith, full, fewer refl))

module _ {F A : Type 0} (future : FutureOf F A) where
  abbrev by_tag : Came A ℕ → ℕ × A
  by_tag came = (came.tag, came.output)

  -- how the futures in flight are polled
  abbrev pub flying_polls : NumberedPollsOf (Flights F ℕ) PollFuture A
  flying_polls = record { can_poll = CanPollQueue future; gives = PollsQueued future by_tag; needs = FlightsWaitAt }

  -- what an ordered queue requires of a poll of the futures
  pub polls_set : (old new : Flights F ℕ) (answer : Poll (Option (ℕ × A))) (cx left : Context) → PollsQueued future by_tag old answer new cx left → PollsNumberedSet flying_polls flight_count flights_with HasGrown old answer new cx left
  polls_set old new (Ready None) cx left p =
      let count = ap (λ (s : Slots (Place ℕ)). held_count s) p.0.gave.1 in
      let numbers : (i : ℕ) → flights_with i new ≡ flights_with i old = λ i. ap (λ slots. tagged_with i slots) p.0.gave.1 in
      let room = polled_room future old new (Ready None) p.0.gave in
      record { gave = p; empty = p.0.gave.0; fewer = omega (arith, count); numbers = λ i. omega (arith, numbers i); set = omega (arith, room.0); covered = tt; kept = p.0.kept; pollable = p.1 }
  polls_set old new (Ready (Some out)) cx left p =
      let came = p.0 in
      let gave = p.2.gave in
      let numbers : (i : ℕ) → flights_with i new + one_at i out.0 ≡ flights_with i old = λ i. omega (arith, ap (λ slots. tagged_with i slots) gave.freed, tags_freed i old.slots came.key.slot _ gave.was_held, ap (λ (o : ℕ × A). one_at i o.0) p.1) in
      let room = polled_room future old new (Ready (Some came)) gave in
      record { gave = p; empty = tt; fewer = omega (arith, gave.fewer); numbers = numbers; set = omega (arith, room.0); covered = tt; kept = p.2.kept; pollable = p.3 }
  polls_set old new Pending cx left p =
      let count = ap (λ (s : Slots (Place ℕ)). held_count s) p.0.gave.1 in
      let numbers : (i : ℕ) → flights_with i new ≡ flights_with i old = λ i. ap (λ slots. tagged_with i slots) p.0.gave.1 in
      let room = polled_room future old new Pending p.0.gave in
      record { gave = p; empty = tt; fewer = omega (arith, count); numbers = λ i. omega (arith, numbers i); set = omega (arith, room.0); covered = p.0.registered; kept = p.0.kept; pollable = p.1 }

  -- one poll of the futures by some task, told of the queue alone
  abbrev Gave : Flights F ℕ → Poll (Option (ℕ × A)) → Flights F ℕ → Type 0
  Gave old answer new = (cx : Context) × (left : Context) × PollsQueued future by_tag old answer new cx left

  -- what was given might be given, and what may still be given might be given before
  gave : (old new : Flights F ℕ) (out : ℕ × A) → Gave old (Ready (Some out)) new → TagGives future old out
  gave old new out p = subst (λ (o : ℕ × A). TagGives future old o) (sym p.2.1) (came_under future old new p.2.0 p.2.2.gave)

  still : (old new : Flights F ℕ) (answer : Poll (Option (ℕ × A))) → Gave old answer new → (out : ℕ × A) → TagGives future new out → TagGives future old out
  still old new (Ready None) p = polled_tags future old new (Ready None) p.2.0.gave p.2.0.narrows
  still old new (Ready (Some x)) p = polled_tags future old new (Ready (Some p.2.0)) p.2.2.gave p.2.2.narrows
  still old new Pending p = polled_tags future old new Pending p.2.0.gave p.2.0.narrows

  -- no future may give an output with a number that no entry has
  none_with : (old : Ordered (Flights F ℕ) A) (i : ℕ) → IsNumbered flights_with flight_count old → IsUnused i old.entries → (y : A) → TagGives future old.set (i, y) → ⊥
  none_with old i numbered unused y h = absurd (omega (arith, tag_counts i old.set.slots h.0.slot h.0.push h.1, numbered.as_many i, unused_none i old.entries unused))

  module _ (grows : Bool) (old new : Ordered (Flights F ℕ) A) (item : F) (numbered : IsNumbered flights_with flight_count old) where
    -- a push at one end, of which it is known what it adds to what may come
    enters : (adds : (Flights F ℕ → F → ℕ → Flights F ℕ → Type 0) → Ordered (Flights F ℕ) A → F → Ordered (Flights F ℕ) A → Type 0) (with_one : (A → Type 0) → Runs A → Runs A) → adds (PushesQueued future grows) old item new → (i : ℕ) → PushesQueued future grows old.set item i new.set
        → length new.entries ≡ length old.entries + 1 → Within (with_one (future.gives item) (ComesOfEach future old)) (ComesOfEach future new) → PushesInTurn future grows adds with_one old item new
    enters adds with_one added i pushed one_more comes =
        record { added = added; one_more = one_more; comes = comes; same_room = kept_room future old.set new.set item i grows pushed.0; again = pushed.1 }

    pub enters_back : AddsBack (PushesQueued future grows) old item new → EntersBack future grows old item new
    enters_back added =
        enters AddsBack _ added added.0 added.1.pushed (one_entry_more (PushesQueued future grows) old new item added)
        (comes_behind (TagGives future) future.gives (PushesQueued future grows) old new item added (added_gives future old.set new.set item added.0 grows added.1.pushed.0) (none_with old added.0 numbered added.1.unused))

    pub enters_front : AddsFront (PushesQueued future grows) old item new → EntersFront future grows old item new
    enters_front added =
        enters AddsFront _ added added.0 added.1.pushed (one_entry_more_before (PushesQueued future grows) old new item added)
        (comes_before (TagGives future) future.gives (PushesQueued future grows) old new item added (added_gives future old.set new.set item added.0 grows added.1.pushed.0) (none_with old added.0 numbered added.1.unused))

  module _
      (grows : Bool)
      (adds : (Flights F ℕ → F → ℕ → Flights F ℕ → Type 0) → Ordered (Flights F ℕ) A → F → Ordered (Flights F ℕ) A → Type 0)
      (with_one : (A → Type 0) → Runs A → Runs A)
      (old : Ordered (Flights F ℕ) A)
      (item : F)
      (keeps : KeepsInOrder grows old)
    where
      abbrev Enters : Ordered (Flights F ℕ) A → F → Ordered (Flights F ℕ) A → Type 0
      Enters = PushesInTurn future grows adds with_one

      -- a push into a queue that is not at its bound
      pub pushed : (new : Ordered (Flights F ℕ) A) (result : Result (Unit {0}) F) → (grows ≡ false → length old.entries < flight_slots old.set)
          → (adds (PushesQueued future grows) old item new → Enters old item new)
          → OnOk result (adds (PushesQueued future grows) old item new)
          → IfErr result (λ back. HandsBack (MayRefuseNumber grows) old item back new)
          → (QueueIsAtBound (RefusesNumbers grows) old → IsErr result) → CanPollQueue future new.set
          → PushesOrComesBack future grows Enters old item result new
      pushed new (Ok u) fewer entered added back large again =
          record { went_in = entered added; back = tt; room = λ e. absurd (false≢true e); full = λ refuses. large (inr (set_refuses grows old fewer refuses)); again = again }
      pushed new (Err b) fewer entered added back large again =
          record { went_in = tt; back = (back.same, back.stays); room = λ _. may_refuse grows old keeps fewer back.may_refuse; full = λ _. refl; again = again }

  -- a push into a bounded queue that is full
  pub refused : (grows : Bool) (pushes : Ordered (Flights F ℕ) A → F → Ordered (Flights F ℕ) A → Type 0) (q : Ordered (Flights F ℕ) A) (item : F) → grows ≡ false → OrderedIsFull q → CanPollOrdered future q → PushesOrComesBack future grows pushes q item (Err item) q
  refused true pushes q item bounded full can = absurd (true≢false bounded)
  refused false pushes q item bounded full can = record { went_in = tt; back = (refl, refl); room = λ _. full; full = λ _. refl; again = can }

  -- the polls of the futures, told of the queue alone
  abbrev GivesInTurn : Ordered (Flights F ℕ) A → Poll (Option A) → Ordered (Flights F ℕ) A → Type 0
  GivesInTurn = OrderedGives Gave flight_count

  alone : (old new : Ordered (Flights F ℕ) A) (answer : Poll (Option A)) (cx after : Context) → OrderedGives (BesideTask (PollsQueued future by_tag)) (λ set. flight_count set.0) (with_task old cx) answer (with_task new after) → GivesInTurn old answer new
  alone old new answer cx after gives = gives_alone (PollsQueued future by_tag) Gave (λ a b given before later h. (before, later, h)) flight_count old new answer cx after gives

  -- the last poll of the futures says whether the task is woken
  wakes : (old new : Ordered (Flights F ℕ) A) (answer : Poll (Option A)) (cx after : Context) → OrderedGives (BesideTask (PollsQueued future by_tag)) (λ set. flight_count set.0) (with_task old cx) answer (with_task new after) → OnPending answer ((new.set.waiting ≡ []) ⊎ IsWoken after)
  wakes old new (Ready o) cx after gives = tt
  wakes old new Pending cx after gives = gives.last_step.1.0.started

  -- polls keep the number of slots
  row_room : (outs : List (ℕ × A)) (old before : Ordered (Flights F ℕ) A) → FoldsTo (SetYields Gave) old outs before → flight_slots before.set ≡ flight_slots old.set
  row_room [] old before h = ap (λ (q : Ordered (Flights F ℕ) A). flight_slots q.set) (sym h)
  row_room (out ∷ outs) old before h =
      let gave = h.1.gave in
      row_room outs h.0 before h.2 ∙ (polled_room future old.set h.0.set (Ready (Some gave.2.0)) gave.2.2.gave).0

  poll_room : (old new : Ordered (Flights F ℕ) A) (answer : Poll (Option A)) → GivesInTurn old answer new → flight_slots new.set ≡ flight_slots old.set
  poll_room old new (Ready None) h = ap (λ (q : Ordered (Flights F ℕ) A). flight_slots q.set) h.last_step.1 ∙ row_room h.yielded old h.before h.row
  poll_room old new (Ready (Some x)) h = ap (λ (s : Flights F ℕ). flight_slots s) h.last_step.1 ∙ row_room h.yielded old h.before h.row
  poll_room old new Pending h = (polled_room future h.before.set new.set Pending h.last_step.1.2.0.gave).0 ∙ row_room h.yielded old h.before h.row

  module _ (grows : Bool) (old new : Ordered (Flights F ℕ) A) (answer : Poll (Option A)) (keeps : KeepsInOrder grows old) (cx after : Context) (poll : PollsOrdered flight_count HasGrown flying_polls old answer new cx after) where
    polled : GivesInTurn old answer new
    polled = alone old new answer cx after poll.gave

    same : flight_slots new.set ≡ flight_slots old.set
    same = poll_room old new answer polled

    pub polled_keeps : IsNumbered flights_with flight_count new → KeepsInOrder grows new
    polled_keeps numbered =
        let fewer = no_more_of Gave flight_count old new answer polled in
        record {
          numbered = numbered;
          some = omega (arith, same, keeps.some);
          bounded = λ b.
              let places = keeps.bounded b in
              record { bound = omega (arith, same, fewer, places.bound); fits = omega (arith, same, poll.queue.room, places.fits); small = omega (arith, same, places.small) };
        }

    pub answers : IsNumbered flights_with flight_count new → AnswersInTurn future grows old answer new cx after
    answers numbered =
        record {
          gave = poll.gave;
          empty = empty_of Gave flight_count old new answer polled;
          fewer = fewer_of Gave flight_count old new answer polled;
          same_count = as_many_of Gave flight_count old new answer polled;
          holds = poll.queue.holds;
          same_room = (same, poll.queue.room);
          bound = λ b. ((polled_keeps numbered).bounded b).bound;
          registered = poll.queue.covered;
          started = wakes old new answer cx after poll.gave;
          kept = poll.queue.kept;
          again = poll.queue.pollable;
        }

  -- a poll is one of a stream
  pub answers_in_turn : {grows : Bool} (old new : Ordered (Flights F ℕ) A) (answer : Poll (Option A)) (cx after : Context) → AnswersInTurn future grows old answer new cx after
      → StreamAnswers (stream_of (CanPollOrdered future) OrderedWaitsAt (ComesOfEach future)) old answer new cx after
  answers_in_turn old new answer cx after poll =
      queue_answers Gave (TagGives future) still gave flight_count old new (CanPollOrdered future) OrderedWaitsAt answer cx after (alone old new answer cx after poll.gave) poll.again poll.registered poll.kept
