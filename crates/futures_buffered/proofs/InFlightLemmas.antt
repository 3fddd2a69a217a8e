-- What a push and a poll of futures in flight are to a buffer.
use Rattle.futures_buffered.proofs.Common.{◌≡◌, ◌<◌, ℕ, List, [], inl, inr, length, Option, Some, None, Ok, false, true, rules, ap, refl, sym, subst, arith, Poll, Ready, Pending, Context, Within, Slots, held_count, stream_of, Gathers-Within, Gathers-After, Entry, Ordered, Buffering, StreamOf, AddsOutput, LeavesHeld, PollsFutureQueue, PushAddsOutput, PushLeavesQueue, IsNewBuffer, answers_of}
use Rattle.futures_buffered_in_flight.specs.InFlight.{AnySlotGives, ComesFromSlots, Flights, FlightsWaitAt, FutureOf, flight_slots}
use Rattle.futures_buffered_in_flight.specs.InFlightOrdered.{AnswersInTurn, CanPollOrdered, ComesOfEach, EntersBack, OrderedWaitsAt, ordered_room}
use Rattle.futures_buffered_in_flight.specs.declared.in_flight.Came.{Came}
use Rattle.futures_buffered_in_flight.specs.declared.in_flight.Place.{Place}
use Rattle.futures_buffered_in_flight.proofs.InFlightLemmas.{came_under, polled_tags}
use Rattle.futures_buffered_in_flight.proofs.InFlightOrderedLemmas.{answers_in_turn}
pub use Rattle.futures_buffered_in_flight.proofs.InFlightQueueLemmas.{new_can_poll}
use Rattle.futures_buffered_in_flight.proofs.InFlightQueueLemmas.{added_gives, added_one, flight_count, kept_room, polled_room}
use Rattle.futures_buffered_in_flight.specs.InFlightQueue.{CanPollQueue, PollsQueued, PushesQueued}
use Rattle.futures_buffered_core.specs.Made.{MakesSlots}
use Rattle.futures_buffered.proofs.BufferedOrderedLemmas.{starts_some}
use Rattle.futures_buffered.proofs.BufferUnorderedLemmas.{some_held}

-- a call that made a queue, and then a buffer over it
pub makes_buffer : {St Q : Type 0} (n : ℕ) (is_new : Q → Type 0) (stream : St) (queue : Q) (b : Buffering St Q) → MakesSlots n is_new (Ok queue) → b ≡ record { stream = Some stream; queue = queue } → MakesSlots n (IsNewBuffer is_new stream) (Ok b)
makes_buffer n is_new stream queue b made is =
    let fits = made.refuses.fits in
    record { made = rw is (record { same_stream = refl; new_queue = made.made }); refuses = search (rules, fits) }

-- how many an ordered queue holds
abbrev entry_count : {F A : Type 0} → Ordered (Flights F ℕ) A → ℕ
entry_count q = length q.entries

module _ {F A T : Type 0} (future : FutureOf F A) where
  -- where a future may give an output, one is held
  counts : (s : Flights F T) (x : A) → AnySlotGives future s x → 0 < flight_count s
  counts s x h = some_held s.slots h.1.0.slot _ h.1.1

  comes_first : (s : Flights F T) (x : A) → AnySlotGives future s x → ComesFromSlots future s [] (Some x)
  comes_first s x h = record { each = tt; ends = (h, counts s x h) }

  adds : (old new : Flights F T) (f : F) (tag : T) → PushesQueued future false old f tag new → AddsOutput false (ComesFromSlots future old) (future.gives f) (ComesFromSlots future new)
  adds old new f tag p x came =
      elim (added_gives future old new f tag false p.0 (came.1.ends.0.0, x) came.1.ends.0.1) [
        | inl was ↦ inl ([], comes_first old x (came.1.ends.0.0, was))
        | inr own ↦ inr own.1
      ]

  pub push_leaves : (old new : Flights F T) (f : F) (tag : T) → PushesQueued future false old f tag new → PushLeavesQueue {A = A} flight_count flight_slots old None new
  push_leaves old new f tag p = record { one_more = added_one future old new f tag false p.0; stays = tt; same_room = kept_room future old new f tag false p.0 }

  pub push_adds : (old new : Flights F T) (f : F) (tag : T) → PushesQueued future false old f tag new → PushAddsOutput false (ComesFromSlots future) (future.gives f) old None new
  push_adds old new f tag p = record { adds = adds old new f tag p; value = tt; overtakes = tt }

  abbrev output_of : Came A T → A
  output_of came = came.output

  abbrev PollsOutput : Flights F T → Poll (Option A) → Flights F T → Context → Context → Type 0
  PollsOutput = PollsQueued future output_of

  abbrev AsStream : StreamOf (Flights F T) A
  AsStream = stream_of (CanPollQueue future) FlightsWaitAt (ComesFromSlots future)

  -- a poll is one of what a buffer holds
  pub polls_queue : (old new : Flights F T) (answer : Poll (Option A)) (cx left : Context) → CanPollQueue future old → PollsOutput old answer new cx left
      → PollsFutureQueue PollsOutput flight_count flight_slots AsStream old answer new cx left
  polls_queue old new (Ready None) cx left can p =
      record {
        polled = p;
        counts = (p.0.gave.0, p.0.gave.3 can.none_cancelled);
        same_room = (polled_room future old new (Ready None) p.0.gave).0;
        some = p.1.some;
        bound = p.1.bound;
        as_stream = answers_of AsStream old new (Ready None) cx left (record { each = tt; ends = let k = p.0.gave.0 in omega (arith, k) }) tt tt p.1 tt p.0.kept;
      }
  polls_queue old new (Ready (Some x)) cx left can p =
      let came = p.0 in
      let poll = p.2 in
      let gives : AnySlotGives future old x = subst (λ (y : A). AnySlotGives future old y) (sym p.1) (came.tag, came_under future old new came poll.gave) in
      let rest = Gathers-After (λ y h. (h.0, polled_tags future old new (Ready (Some came)) poll.gave poll.narrows (h.0, y) h.1)) (flight_count old) (flight_count new) x poll.gave.fewer gives in
      record {
        polled = p;
        counts = poll.gave.fewer;
        same_room = (polled_room future old new (Ready (Some came)) poll.gave).0;
        some = p.3.some;
        bound = p.3.bound;
        as_stream = answers_of AsStream old new (Ready (Some x)) cx left (comes_first old x gives) rest tt p.3 tt poll.kept;
      }
  polls_queue old new Pending cx left can p =
      let poll = p.0 in
      let count : flight_count new ≡ flight_count old = ap (λ (s : Slots (Place T)). held_count s) poll.gave.1 in
      let same : Within (ComesFromSlots future old) (ComesFromSlots future new) = Gathers-Within (λ y h. (h.0, polled_tags future old new Pending poll.gave poll.narrows (h.0, y) h.1)) (flight_count old) (flight_count new) count in
      record {
        polled = p;
        counts = (count, omega (arith, poll.gave.0, count));
        same_room = (polled_room future old new Pending poll.gave).0;
        some = p.1.some;
        bound = p.1.bound;
        as_stream = answers_of AsStream old new Pending cx left tt tt same p.1 poll.registered poll.kept;
      }

module _ {F A : Type 0} (future : FutureOf F A) where
  pub push_leaves_ordered : (old new : Ordered (Flights F ℕ) A) (f : F) → EntersBack future false old f new → PushLeavesQueue {A = A} entry_count ordered_room old None new
  push_leaves_ordered old new f p = record { one_more = p.one_more; stays = tt; same_room = p.same_room }

  pub push_adds_ordered : (old new : Ordered (Flights F ℕ) A) (f : F) → EntersBack future false old f new → PushAddsOutput true (ComesOfEach future) (future.gives f) old None new
  push_adds_ordered old new f p = record { adds = p.comes; value = tt; overtakes = tt }

-- a pending queue has a future in progress, and so an entry
in_turn_counts : {F A : Type 0} (future : FutureOf F A) (old new : Ordered (Flights F ℕ) A) (answer : Poll (Option A)) (cx left : Context) → AnswersInTurn future false old answer new cx left → LeavesHeld entry_count old answer new
in_turn_counts future old new (Ready None) cx left p = p.empty
in_turn_counts future old new (Ready (Some x)) cx left p = p.fewer
in_turn_counts {A = A} future old new Pending cx left p =
    let last = p.gave.last_step in
    (p.same_count, subst (λ (es : List (Entry A)). 0 < length es) (sym last.2) (starts_some p.gave.before.entries last.0))

pub polls_queue_ordered : {F A : Type 0} (future : FutureOf F A) (old new : Ordered (Flights F ℕ) A) (answer : Poll (Option A)) (cx left : Context) → AnswersInTurn future false old answer new cx left
    → PollsFutureQueue (AnswersInTurn future false) entry_count ordered_room (stream_of (CanPollOrdered future) OrderedWaitsAt (ComesOfEach future)) old answer new cx left
polls_queue_ordered future old new answer cx left poll =
    record {
      polled = poll;
      counts = in_turn_counts future old new answer cx left poll;
      same_room = poll.same_room.0;
      some = poll.again.some;
      bound = poll.bound refl;
      as_stream = answers_in_turn future old new answer cx left poll;
    }
