-- What a push, a cancel and a poll leave of a merge of streams.
use Rattle.futures_buffered_in_flight.proofs.Common.{◌≡◌, ◌<◌, ◌≤◌, ◌+◌, ◌-◌, ◌^◌, ◌⊎◌, inl, inr, ℕ, List, [], ◌∷◌, length, is_some, Option, Some, None, false, false≢true, refl, sym, ap, ap₂, subst, ◌∙◌, arith, min, FoldsTo, cases_eq, AnyGives, AnyMay, Runs, Within, IsArmed, Keeps, Poll, Ready, Pending, Context, Slots, held_count, no_slots, value_in, IsWoken, StreamAnswers, stream_of, None-Some, answers_of, CanPollAll, EntersAt, FlightsGiveNoMore, GivesWithKey, IsNewInFlight, MakesRoom, MayCome, Ok, PollsInFlight, WaitGives, flight_slots, room_taken, runs_in, without_key, AnswersNoMore, AnswersThen, AnyAnswers, AnyStream, CanPollStreams, ComesFromMerged, ComesOfStream, GivesAnswer, HoldsStream, HoldsStreams, IsNewMerge, Merged, OneGoesOn, OneStreamEndsAtMost, PollsMerge, PollsUnkeyed, StreamEnters, StreamOf, StreamWentIn, Streams, StreamsGoOn, made_set, next_of, streams_held, Came, Place, Key, Run, Waits, MergedWaitsAt}
use Rattle.std.specs.Prelude.{IsTrue}
use Rattle.futures_buffered_in_flight.specs.InFlightMerge.{PushesStream}
use Rattle.futures.specs.Merged.{CanPollNext, NextOf}
use Rattle.futures.specs.declared.stream.ext.into_future.StreamFuture.{StreamFuture}
use Rattle.futures_buffered_in_flight.proofs.InFlightLemmas.{NoNewPlace, freed_places, none_can_poll, same_gives, same_places, widens}
use Rattle.futures_buffered_in_flight.proofs.InFlightQueueLemmas.{held_after, its_place, polled_room}

module _ {St A : Type 0} (stream : StreamOf St A) where
  goes_on : (old new : Streams St) → NoNewPlace old new → FlightsGiveNoMore (next_of stream) old new → StreamsGoOn stream old new
  goes_on old new places narrows key xs last h =
      record { push = h.push; given = h.given; runs = places key.slot _ h.runs; gives = narrows _ h.gives; comes = h.comes }

  -- what may come after the next answer of a stream
  then_comes : (next : StreamFuture St) (st : St) (given : Option A × St) → next.stream ≡ Some st → NextOf stream next given → Within (stream.yields st) (AnswersThen stream given)
  then_comes next st given is gives [] last comes =
      let from = rw is at gives in
      subst (λ o. stream.yields st [] o) comes from.0
  then_comes next st given is gives (x ∷ xs) last comes =
      let from = rw is at gives in
      let after = rw comes.0 at from.1 in
      after.1 xs last comes.1

  -- the future of a stream entered the set, which changed before: from the stream comes what `own` says at most
  enters : (old mid new : Streams St) (next : StreamFuture St) (st : St) (tag : ℕ) (key : Key) (own : Runs A) → StreamsGoOn stream old mid → Within own (stream.yields st) → next.stream ≡ Some st → EntersAt (next_of stream) mid next tag key new
      → OneGoesOn stream old (record { slot = key.slot; push = tag }) own new
  enters old mid new next st tag key own before wider is p k =
      elim (cases_eq k.slot key.slot) [
        | inl same ↦ elim (cases_eq k.push tag) [
          | inl tagged ↦ inl (ap₂ (λ (slot push : ℕ). record { slot = slot; push = push }) same tagged, λ xs last h. its_own same xs last h)
          | inr other ↦ inr (λ e. other (ap (λ (key : Key). key.push) e), λ xs last h. others (λ push at tagged. other tagged) xs last h)
        ]
        | inr other ↦ inr (λ e. other (ap (λ (key : Key). key.slot) e), λ xs last h. others (λ push at tagged. other (ap (λ (key : Key). key.slot) at)) xs last h)
      ]
    where
      its_own : k.slot ≡ key.slot → Within own (ComesOfStream stream new k)
      its_own same xs last h =
          elim (held_after (next_of stream) mid new next tag key p (record { slot = k.slot; push = h.push }) k.push h.given h.runs h.gives) [
            | inl was ↦ absurd (was.0 same)
            | inr its ↦ wider xs last (then_comes next st h.given is its.2 xs last h.comes)
          ]

      others : ((push : ℕ) → ◌≡◌ {A = Key} (record { slot = k.slot; push = push }) key → k.push ≡ tag → ⊥) → Within (ComesOfStream stream old k) (ComesOfStream stream new k)
      others apart xs last h =
          elim (held_after (next_of stream) mid new next tag key p (record { slot = k.slot; push = h.push }) k.push h.given h.runs h.gives) [
            | inl was ↦ before k xs last (record { push = h.push; given = h.given; runs = was.1; gives = was.2; comes = h.comes })
            | inr its ↦ absurd (apart h.push its.0 its.1)
          ]

  -- room was made, and a stream was pushed
  pub pushed : (old wide new : Streams St) (next : StreamFuture St) (st : St) (tag : ℕ) (key : Key) → next.stream ≡ Some st → tag ≡ wide.next → MakesRoom old wide → EntersAt (next_of stream) wide next tag key new → StreamEnters stream old st key new
  pushed old wide new next st tag key is own made p =
      let w = widens old wide made in
      let same : tag ≡ key.push = own ∙ sym p.numbered.0 in
      record {
        one_more = omega (arith, p.one_more, w.counts is_some refl);
        held = (key.push, subst (λ n. value_in new.slots key.slot ≡ Some (record { tag = n; push = key.push })) same (its_place (next_of stream) wide new next tag key p));
        numbered = (p.numbered.0 ∙ w.rest.1, p.numbered.1 ∙ ap (λ n. min (n + 1) (2 ^ 64 - 1)) w.rest.1);
        comes = subst (λ n. OneGoesOn stream old (record { slot = key.slot; push = n }) (stream.yields st) new) same
            (enters old wide new next st tag key (stream.yields st) (goes_on old wide w.places (same_gives (next_of stream) old wide w.futures.0 w.futures.1)) (λ xs last h. h) is p);
        again = p.again;
      }

  -- a poll that is not pending
  ready : (old new : Streams St) (o : Option (Came A (Unit {0}))) (cx left : Context) → GivesAnswer stream old (Ready o) new → OneStreamEndsAtMost stream old new → ((new.next ≡ old.next) ⊎ (new.next ≡ min (old.next + 1) (2 ^ 64 - 1))) → Keeps cx left → CanPollAll (next_of stream) new
      → PollsMerge stream old (Ready o) new cx left
  ready old new o cx left gave ended keys kept again = record { gave = gave; ended = ended; keys = keys; dropped = tt; started = tt; registered = tt; kept = kept; again = again }

  -- a pending poll of the set, and `None`
  pub stays_pending : (old new : Streams St) (cx left : Context) → PollsInFlight (next_of stream) old Pending new cx left → PollsMerge stream old Pending new cx left
  stays_pending old new cx left p =
      let same = ap (λ (s : Slots (Place ℕ)). held_count s) p.gave.1 in
      let on = goes_on old new (same_places old new p.gave.1) p.narrows in
      record { gave = (omega (arith, same, p.gave.0), on); ended = inl same; keys = inl p.keys; dropped = p.ended; started = p.started; registered = p.registered; kept = p.kept; again = p.again }

  pub came_none : (old new : Streams St) (cx left : Context) → PollsInFlight (next_of stream) old (Ready None) new cx left → PollsMerge stream old (Ready None) new cx left
  came_none old new cx left p =
      let same = ap (λ (s : Slots (Place ℕ)). held_count s) p.gave.1 in
      ready old new None cx left (same ∙ p.gave.0, p.gave.2, goes_on old new (same_places old new p.gave.1) p.narrows) (inl same) (inl p.keys) p.kept p.again

  -- what is left of a stream after an item may be polled
  rest_of : (next : StreamFuture St) (x : A) (rest : St) → NextOf stream next (Some x, rest) → stream.can_poll rest
  rest_of next x rest h = elim next.stream as (λ o. NextOf stream (record { stream = o }) (Some x, rest) → stream.can_poll rest) [ None ↦ λ k. absurd k | Some st ↦ λ k. k.1.0 ] h

  running_rest : (os : List (Option (Run (StreamFuture St)))) (key : Key) (x : A) (rest : St) → AnyGives (GivesWithKey (NextOf stream)) os (key, Some (Some x, rest)) → stream.can_poll rest
  running_rest [] key x rest h = absurd h
  running_rest (None ∷ os) key x rest (inl h) = absurd h
  running_rest (Some run ∷ os) key x rest (inl h) = rest_of run.future x rest h.1
  running_rest (o ∷ os) key x rest (inr h) = running_rest os key x rest h

  waiting_rest : (ws : List (Waits (StreamFuture St))) (key : Key) (x : A) (rest : St) → AnyMay (WaitGives (next_of stream)) ws (key, Some (Some x, rest)) → stream.can_poll rest
  waiting_rest [] key x rest h = absurd h
  waiting_rest (w ∷ ws) key x rest (inl h) = rest_of w.future x rest h.2
  waiting_rest (w ∷ ws) key x rest (inr h) = waiting_rest ws key x rest h

  can_poll_rest : (set : Streams St) (key : Key) (x : A) (rest : St) → MayCome (next_of stream) set (key, Some (Some x, rest)) → stream.can_poll rest
  can_poll_rest set key x rest (inl run) = running_rest (runs_in set.running) key x rest run
  can_poll_rest set key x rest (inr wait) = waiting_rest set.waiting key x rest wait

  module _ (old mid : Streams St) (came : Came (Option A × St) ℕ) (cx at : Context) (p : PollsInFlight (next_of stream) old (Ready (Some came)) mid cx at) where
    abbrev its_key : Key
    its_key = record { slot = came.key.slot; push = came.tag }

    mid_goes_on : StreamsGoOn stream old mid
    mid_goes_on = goes_on old mid (freed_places old mid came.key.slot p.gave.freed) p.narrows

    -- after an answer there is room for the stream
    pub room_again : room_taken old ≤ flight_slots old → room_taken mid < flight_slots mid
    room_again bound = let room = polled_room (next_of stream) old mid (Ready (Some came)) p.gave in omega (arith, bound, p.gave.fewer, p.room, room.0)

    first : (xs : List A) (last : Option A) → AnswersThen stream came.output xs last → ComesOfStream stream old its_key xs last
    first xs last comes = record { push = came.key.push; given = came.output; runs = p.gave.was_held; gives = p.gave.gave; comes = comes }

    -- the rest of the stream may be polled
    pub rest_can_poll : (next : StreamFuture St) (x : A) → came.output.0 ≡ Some x → next.stream ≡ Some came.output.1 → CanPollNext stream next
    rest_can_poll next x is rest = rw rest (can_poll_rest old came.key x came.output.1 (subst (λ o. MayCome (next_of stream) old (came.key, Some (o, came.output.1))) is p.gave.gave))

    -- an item, and its stream was pushed again
    pub item : (new : Streams St) (next : StreamFuture St) (again : Key) (x : A) → came.output.0 ≡ Some x → next.stream ≡ Some came.output.1 → EntersAt (next_of stream) mid next came.tag again new
        → PollsMerge stream old (Ready (Some (record { key = its_key; tag = tt; output = x }))) new cx at
    item new next again x is rest e =
        let count : held_count new.slots ≡ held_count old.slots = omega (arith, e.one_more, p.gave.fewer) in
        let comes = subst (λ slot. OneGoesOn stream old (record { slot = slot; push = came.tag }) (λ xs last. ComesOfStream stream old its_key (x ∷ xs) last) new) same_slot
        (enters old mid new next came.output.1 came.tag again (λ xs last. ComesOfStream stream old its_key (x ∷ xs) last) mid_goes_on (λ xs last h. first (x ∷ xs) last (is, h)) rest e) in
        let stays : HoldsStream new its_key = (again.push, subst (λ slot. value_in new.slots slot ≡ Some (record { tag = came.tag; push = again.push })) same_slot (its_place (next_of stream) mid new next came.tag again e)) in
        ready old new (Some (record { key = its_key; tag = tt; output = x })) cx at (record { gave = first [] (Some x) is; stays = stays; same_count = (count, omega (arith, p.gave.fewer)); comes = comes }) (inl count) (inr (e.numbered.1 ∙ ap (λ n. min (n + 1) (2 ^ 64 - 1)) p.keys)) p.kept e.again
      where
        same_slot : again.slot ≡ came.key.slot
        same_slot =
            let free : again.slot ∷ new.slots.free ≡ came.key.slot ∷ old.slots.free = sym e.went_in.first_free ∙ ap (λ (s : Slots (Place ℕ)). s.free) p.gave.freed in
            cc

    ends : came.output.0 ≡ None → (new : Streams St) → new.slots ≡ mid.slots → OneStreamEndsAtMost stream old new
    ends is new same = inr (let count = ap (λ (s : Slots (Place ℕ)). held_count s) same in omega (arith, count, p.gave.fewer), (its_key, [], first [] None is))

    -- the last stream has ended
    pub all_ended : (new : Streams St) → came.output.0 ≡ None → held_count old.slots ≤ 1 → new.cancelled ≡ 0 → new.slots ≡ mid.slots → new.next ≡ mid.next → FlightsGiveNoMore (next_of stream) mid new → CanPollAll (next_of stream) new
        → PollsMerge stream old (Ready None) new cx at
    all_ended new is few none same next less again =
        let count = ap (λ (s : Slots (Place ℕ)). held_count s) same in
        let on : StreamsGoOn stream old new = λ k xs last h. mid_goes_on k xs last (goes_on mid new (same_places mid new same) less k xs last h) in
        ready old new None cx at (omega (arith, count, few, p.gave.fewer), none, on) (ends is new same) (inl (next ∙ p.keys)) p.kept again

    -- a stream has ended, and others are held
    pub one_ended : (left : Context) → came.output.0 ≡ None → 1 < held_count old.slots → Keeps at left → IsArmed left → IsWoken left → PollsMerge stream old Pending mid cx left
    one_ended left is more keeps armed heard =
        let gave : GivesAnswer stream old Pending mid = (omega (arith, more, p.gave.fewer), mid_goes_on) in
        let kept : Keeps cx left = λ fact h. keeps fact (p.kept fact h) in
        record { gave = gave; ended = ends is mid refl; keys = inl p.keys; dropped = inr heard; started = inr heard; registered = (armed, λ source _. heard source); kept = kept; again = p.again }

  -- what any stream may return after a push or an item
  any_on : (old new : Streams St) (key : Key) (own : Runs A) → OneGoesOn stream old key own new → (answer : Option A) → AnyAnswers stream new answer → AnyAnswers stream old answer ⊎ ((before : List A) × own before answer)
  any_on old new key own goes answer h =
      elim (goes h.0) [ inl its ↦ inr (h.1, its.1 h.1 answer h.2) | inr other ↦ inl (h.0, h.1, other.1 h.1 answer h.2) ]

  -- a poll adds nothing to what may come
  pub narrows : (old new : Streams St) (answer : Poll (Option (Came A (Unit {0})))) → GivesAnswer stream old answer new → AnswersNoMore stream old new
  narrows old new (Ready (Some came)) gave answer h =
      elim (any_on old new came.key _ gave.comes answer h) [ inl was ↦ was | inr own ↦ (came.key, came.output ∷ own.0, own.1) ]
  narrows old new (Ready None) gave answer h = (h.0, h.1, gave.2 h.0 h.1 answer h.2)
  narrows old new Pending gave answer h = (h.0, h.1, gave.1 h.0 h.1 answer h.2)

  comes_before : (old new : Merged St) → OneStreamEndsAtMost stream old.set new.set → AnswersNoMore stream old.set new.set
      → (before after : List A) (last : Option A) → ComesFromMerged stream new after last → ComesFromMerged stream old before last
  comes_before old new ended narrows before after (Some x) h = narrows (Some x) h
  comes_before old new ended narrows before after None (inr may) = inr (narrows None may)
  comes_before old new (inl same) narrows before after None (inl none) = inl (sym same ∙ none)
  comes_before old new (inr one) narrows before after None (inl none) = inr one.1

  abbrev as_stream : StreamOf (Merged St) A
  as_stream = stream_of (CanPollStreams stream) MergedWaitsAt (ComesFromMerged stream)

  stream_answers : (old new : Merged St) (answer : Poll (Option (Came A (Unit {0})))) (cx left : Context) → PollsMerge stream old.set answer new.set cx left → StreamAnswers as_stream old (without_key answer) new cx left
  stream_answers old new Pending cx left p = answers_of as_stream old new Pending cx left tt tt (λ xs last h. comes_before old new p.ended (narrows old.set new.set Pending p.gave) xs xs last h) p.again p.registered p.kept
  stream_answers old new (Ready None) cx left p =
      let value : ComesFromMerged stream old [] None = elim p.ended [ inl same ↦ inl (sym same ∙ p.gave.0) | inr one ↦ inr one.1 ] in
      answers_of as_stream old new (Ready None) cx left value tt tt p.again tt p.kept
  stream_answers old new (Ready (Some came)) cx left p =
      answers_of as_stream old new (Ready (Some came.output)) cx left (came.key, [], p.gave.gave) (λ xs last h. comes_before old new p.ended (narrows old.set new.set (Ready (Some came)) p.gave) (came.output ∷ xs) xs last h) tt p.again tt p.kept

  pub polled_as : (old new : Merged St) (answer : Poll (Option A)) (cx left : Context) → PollsUnkeyed stream old answer new cx left → StreamAnswers as_stream old answer new cx left
  polled_as old new answer cx left p = rw p.same (stream_answers old new p.keyed cx left p.polls)

  -- these streams came beside those that were held
  abbrev HoldsBeside : Merged St → List St → Merged St → Type 0
  HoldsBeside old items new = (streams_held new ≡ streams_held old + length items)
      × ((answer : Option A) → AnyAnswers stream new.set answer → AnyAnswers stream old.set answer ⊎ AnyStream stream items answer)
      × CanPollStreams stream new

  holds_beside : (old new : Merged St) (items : List St) → CanPollStreams stream old → FoldsTo (StreamWentIn stream) old items new → HoldsBeside old items new
  holds_beside old new [] can is = (ap (λ (m : Merged St). streams_held m) (sym is) ∙ omega arith, λ answer h. inl (rw (← is) at h), rw is at can)
  holds_beside old new (st ∷ items) can (mid, one, rest) =
      let later = holds_beside mid new items one.1.again rest in
      let entered = one.1.went_in in (
        omega (arith, later.0, entered.one_more),
        λ answer h. elim (later.1 answer h) [
          | inl was ↦ elim (any_on old.set mid.set one.0 _ entered.comes answer was) [ inl k ↦ inl k | inr own ↦ inr (inl own) ]
          | inr k ↦ inr (inr k)
        ],
        later.2,
      )

  -- what was pushed into a new merge is all that it holds
  pub holds_all : (start new : Merged St) (n : ℕ) (items : List St) → IsNewMerge n start → CanPollStreams stream start → FoldsTo (StreamWentIn stream) start items new → HoldsStreams stream items new
  holds_all start new n items empty can pushes =
      let all = holds_beside start new items can pushes in
      record {
        count = omega (arith, all.0, empty.0);
        answers = λ answer h. elim (all.1 answer h) [
          | inl was ↦ elim was.2.gives [ inl run ↦ absurd (rw empty.2 at run) | inr wait ↦ absurd (rw empty.3 at wait) ]
          | inr k ↦ k
        ];
        again = all.2;
      }

-- a set that is another may be polled as that
pub can_poll_same : {St A : Type 0} (stream : StreamOf St A) (old new : Streams St) → CanPollAll (next_of stream) old → old ≡ new → CanPollAll (next_of stream) new
can_poll_same stream old new can same = subst (λ set. CanPollAll (next_of stream) set) same can

module _ {St A : Type 0} (stream : StreamOf St A) where
  -- a stream that entered a new set entered one that was not made yet
  enters_first : (set new : Streams St) (pushed : St) (key : Key) → IsNewInFlight 0 set → set.next ≡ 0 → StreamEnters stream set pushed key new → StreamEnters stream (made_set None) pushed key new
  enters_first set new pushed key empty next p =
      let from = goes_on stream (made_set None) set (same_places (made_set None) set empty.0) (same_gives (next_of stream) (made_set None) set empty.1 empty.2) in
      record {
        one_more = p.one_more ∙ ap (λ slots. held_count slots + 1) empty.0;
        held = p.held;
        numbered = (p.numbered.0 ∙ next, p.numbered.1 ∙ ap (λ n. min (n + 1) (2 ^ 64 - 1)) next);
        comes = λ k. elim (p.comes k) [ inl own ↦ inl own | inr other ↦ inr (other.0, λ xs last h. from k xs last (other.1 xs last h)) ];
        again = p.again;
      }

  -- the first push, for which the set is made
  pub pushed_first : (set new : Streams St) (limit : ℕ) (pushed : St) (key : Key) → IsNewInFlight 0 set → set.next ≡ 0 → (limit ≤ 0 → IsTrue false) → StreamEnters stream set pushed key new
      → CanPollAll (next_of stream) new → PushesStream stream (record { set = made_set None; limit = limit }) pushed (Ok key) (record { set = new; limit = limit })
  pushed_first set new limit pushed key empty next room p again = record {
    went_in = enters_first set new pushed key empty next p;
    back = tt;
    full = λ full. absurd (false≢true (room full));
    room = λ e. absurd (false≢true e);
    same_limit = refl;
    again = again;
  }

-- before the first push no stream is held
pub none_holds : (St : Type 0) (key : Key) → HoldsStream (made_set {St = St} None) key → ⊥
none_holds St key h = absurd (None-Some h.1)

pub none_made : {St A : Type 0} (stream : StreamOf St A) (cx : Context) → PollsMerge stream (made_set None) (Ready None) (made_set None) cx cx
none_made stream cx =
    ready stream (made_set None) (made_set None) None cx cx (refl, refl, λ key xs last h. h) (inl refl) (inl refl) (λ fact h. h) (none_can_poll (next_of stream) (made_set None) refl refl refl refl)
