-- What a push and a poll leave of a set of futures in flight of which none is cancelled.
use Rattle.futures_buffered_in_flight.proofs.Common.{count_by, get_or, length-set, set, ◌≡◌, ◌≢◌, ◌+◌, ◌<◌, ◌≤◌, ℕ, zero, suc, Bool, true, false, cond, List, length, IsSome, is_some, Option, Some, None, refl, sym, subst, ap, ap₂, ◌∙◌, ◌⊎◌, inl, inr, arith, sum_by, replicate, get_or-set_same, get_or-set_other, length-replicate, get_or-le-sum_by, sum_by-set, same_Some, cases_eq, eq-eqb, false≢true, true≢false, Poll, Ready, Pending, Context, Slots, value_in, held_count, with_slot_freed, Inserts, PushesInto, one_at, FutureOf, Flights, CanPollAll, IsNewInFlight, EntersAt, GivesByKey, HasNoRoom, IsHeld, IsUsedUp, MakesRoom, MayCome, PollsInFlight, TagGives, WentIn, flight_slots, without_key, CanPollQueue, KeepsRoom, MayRefuseNumber, PollsQueued, PushesQueued, RefusesNumbers, flights_with, has_tag, Came, Place, Key}
use Rattle.futures_buffered_core.proofs.SlotMapLemmas.{value_within}
use Rattle.futures_buffered_in_flight.proofs.InFlightLemmas.{Widens, same_gives, same_slots, tags_on, wide_can_poll, widens, widens_none}

-- how many futures are held
abbrev pub flight_count : {F T : Type 0} → Flights F T → ℕ
flight_count s = held_count s.slots

-- there are no fewer slots than before
abbrev pub HasGrown : {F T : Type 0} → Flights F T → Flights F T → Type 0
HasGrown old new = flight_slots old ≤ flight_slots new

one_self : (i : ℕ) → one_at i i ≡ 1
one_self i = ap (λ (b : Bool). cond b 1 0) (eq-eqb i i refl)

-- how many slots have a tag
abbrev pub tagged_with : ℕ → Slots (Place ℕ) → ℕ
tagged_with i slots = count_by (has_tag i) slots.places

-- and how many slots have it before and after a call
module _ (i : ℕ) where
  abbrev in_slot : Option (Place ℕ) → ℕ
  in_slot o = cond (has_tag i o) 1 0

  there : (m : Slots (Place ℕ)) (s : ℕ) (p : Place ℕ) → value_in m s ≡ Some p → s < length m.places
  there m s p holds = value_within m.places s (subst IsSome (sym holds) refl)

  pub tags_freed : (m : Slots (Place ℕ)) (s : ℕ) (p : Place ℕ) → value_in m s ≡ Some p → tagged_with i (with_slot_freed m s) + one_at i p.tag ≡ tagged_with i m
  tags_freed m s p holds =
      let step : sum_by in_slot (set m.places s None) + one_at i p.tag ≡ sum_by in_slot m.places + 0 = subst (λ (o : Option (Place ℕ)). sum_by in_slot (set m.places s None) + in_slot o ≡ sum_by in_slot m.places + 0) holds (sum_by-set in_slot m.places s None None (there m s p holds)) in
      omega (arith, step)

  pub tags_inserted : (old new : Slots (Place ℕ)) (s : ℕ) (p : Place ℕ) → Inserts old s p new → tagged_with i new ≡ tagged_with i old + one_at i p.tag
  tags_inserted old new s p h =
      let step : sum_by in_slot (set old.places s (Some p)) + 0 ≡ sum_by in_slot old.places + one_at i p.tag = subst (λ (o : Option (Place ℕ)). sum_by in_slot (set old.places s (Some p)) + in_slot o ≡ sum_by in_slot old.places + in_slot (Some p)) h.was_empty (sum_by-set in_slot old.places s (Some p) None h.within) in
      ap (λ (ps : List (Option (Place ℕ))). sum_by in_slot ps) h.now_held ∙ omega (arith, step)

  -- a slot that is held under the tag counts
  pub tag_counts : (m : Slots (Place ℕ)) (s push : ℕ) → value_in m s ≡ Some (record { tag = i; push = push }) → 0 < tagged_with i m
  tag_counts m s push holds =
      let own : in_slot (get_or m.places s None) ≡ 1 = ap in_slot holds ∙ one_self i in
      omega (arith, own, get_or-le-sum_by in_slot m.places s None (there m s _ holds))

module _ {F A T : Type 0} (future : FutureOf F A) where
  -- what holds the future that was pushed
  pub its_place : (old new : Flights F T) (f : F) (tag : T) (key : Key) → EntersAt future old f tag key new → value_in new.slots key.slot ≡ Some (record { tag = tag; push = key.push })
  its_place old new f tag key p =
      ap (λ ps. get_or ps key.slot None) p.went_in.now_held ∙ get_or-set_same old.slots.places key.slot (Some (record { tag = tag; push = key.push })) None p.went_in.within

  -- what may come of a future that is held after a push might come before, or the pushed future may give it
  pub held_after : (old new : Flights F T) (f : F) (tag : T) (key : Key) → EntersAt future old f tag key new → (k : Key) (held : T) (x : A) → IsHeld new k held → MayCome future new (k, Some x)
      → ((k.slot ≢ key.slot) × IsHeld old k held × MayCome future old (k, Some x)) ⊎ ((k ≡ key) × (held ≡ tag) × future.gives f x)
  held_after old new f tag key p k held x holds may =
      elim (cases_eq k.slot key.slot) [
        | inl same ↦
            let is : record { tag = held; push = k.push } ≡ record { tag = tag; push = key.push } = same_Some _ _ (sym holds ∙ (ap (λ i. value_in new.slots i) same ∙ its_place old new f tag key p)) in
            let at_key : k ≡ key = ap₂ (λ (slot push : ℕ). record { slot = slot; push = push }) same (ap (λ (place : Place T). place.push) is) in
            inr (at_key, ap (λ (place : Place T). place.tag) is, p.own x (subst (λ (k : Key). MayCome future new (k, Some x)) at_key may))
        | inr other ↦ elim (p.others _ may) [
          | inl was ↦ inl (other, sym (get_or-set_other old.slots.places key.slot k.slot _ None other) ∙ (sym (ap (λ ps. get_or ps k.slot None) p.went_in.now_held) ∙ holds), was)
          | inr own ↦ absurd (other (ap (λ (k : Key). k.slot) own.0))
        ]
      ]

  -- a set took a future while a slot was free
  pub can_push : (old new : Flights F T) (f : F) (tag : T) (key : Key) → CanPollQueue future old → flight_count old < flight_slots old → EntersAt future old f tag key new → CanPollQueue future new
  can_push old new f tag key can room p =
      let same = same_slots future old new f tag key p in
      record { each = p.again; none_cancelled = p.room ∙ can.none_cancelled; some = omega (arith, same, can.some); bound = omega (arith, same, room, p.one_more) }

  pub queued : (old new : Flights F T) (f : F) (tag : T) (key : Key) → CanPollQueue future old → flight_count old < flight_slots old → EntersAt future old f tag key new → PushesQueued future false old f tag new
  queued old new f tag key can room p = ((key, p), can_push old new f tag key can room p)

  -- a poll keeps the slots, and leaves no more futures held
  pub polled_room : (old new : Flights F T) (answer : Poll (Option (Came A T))) → GivesByKey future old answer new → (flight_slots new ≡ flight_slots old) × (flight_count new ≤ flight_count old)
  polled_room old new (Ready None) gave = (ap (λ (s : Slots (Place T)). length s.places) gave.1, let e = ap (λ (s : Slots (Place T)). held_count s) gave.1 in omega (arith, e))
  polled_room old new (Ready (Some came)) gave = (ap (λ (s : Slots (Place T)). length s.places) gave.freed ∙ length-set old.slots.places came.key.slot None, let e = gave.fewer in omega (arith, e))
  polled_room old new Pending gave = (ap (λ (s : Slots (Place T)). length s.places) gave.1, let e = ap (λ (s : Slots (Place T)). held_count s) gave.1 in omega (arith, e))

  pub can_poll_again : (old new : Flights F T) (answer : Poll (Option (Came A T))) (cx left : Context) → CanPollQueue future old → PollsInFlight future old answer new cx left → CanPollQueue future new
  can_poll_again old new answer cx left can p =
      let room = polled_room old new answer p.gave in
      record { each = p.again; none_cancelled = omega (arith, p.room, can.none_cancelled); some = omega (arith, room.0, can.some); bound = omega (arith, room.0, room.1, can.bound) }

  -- a poll without keys
  pub polled_without_key : (old new : Flights F T) (answer : Poll (Option (Came A T))) (cx left : Context) → CanPollQueue future old → PollsInFlight future old answer new cx left → PollsQueued future (λ came. came.output) old (without_key answer) new cx left
  polled_without_key old new Pending cx left can p = (p, can_poll_again old new Pending cx left can p)
  polled_without_key old new (Ready None) cx left can p = (p, can_poll_again old new (Ready None) cx left can p)
  polled_without_key old new (Ready (Some came)) cx left can p = (came, refl, p, can_poll_again old new (Ready (Some came)) cx left can p)

module _ {F A T B : Type 0} (future : FutureOf F A) (part : Came A T → B) where
  -- a poll that gave an output
  pub polled_part : (old new : Flights F T) (came : Came A T) (cx left : Context) → CanPollQueue future old → PollsInFlight future old (Ready (Some came)) new cx left → PollsQueued future part old (Ready (Some (part came))) new cx left
  polled_part old new came cx left can p = (came, refl, p, can_poll_again future old new (Ready (Some came)) cx left can p)

pub none_held : (P : Type 0) (n : ℕ) → count_by is_some (replicate {A = Option P} n None) ≡ 0
none_held P zero = refl
none_held P (suc n) = none_held P n

module _ {F T : Type 0} where
  -- a new set has n slots, and holds no future
  pub new_slots : (n : ℕ) (s : Flights F T) → IsNewInFlight n s → flight_slots s ≡ n
  new_slots n s new = ap (λ (s : Slots (Place T)). length s.places) new.0 ∙ length-replicate n None

  pub new_count : (n : ℕ) (s : Flights F T) → IsNewInFlight n s → flight_count s ≡ 0
  new_count n s new = ap (λ (s : Slots (Place T)). held_count s) new.0 ∙ none_held (Place T) n

  pub new_can_poll : {A : Type 0} (future : FutureOf F A) (n : ℕ) (s : Flights F T) → 0 < n → IsNewInFlight n s → CanPollAll future s → CanPollQueue future s
  new_can_poll future n s some new can =
      record { each = can; none_cancelled = new.3; some = omega (arith, new_slots n s new, some); bound = omega (arith, new_count n s new) }

module _ {F T : Type 0} where
  pub room_self : (grows : Bool) (s : Flights F T) → KeepsRoom grows s s
  room_self false s = refl
  room_self true s = omega arith

  pub room_on : (grows : Bool) (a b c : Flights F T) → KeepsRoom grows a b → KeepsRoom grows b c → KeepsRoom grows a c
  room_on false a b c first then = then ∙ first
  room_on true a b c first then = omega (arith, first, then)

-- what a push adds, with a slot that it made first if the set grows
module _ {F A T : Type 0} (future : FutureOf F A) (old new : Flights F T) (f : F) (tag : T) where
  went : (grows : Bool) → WentIn future grows tag old f new → (wide : Flights F T) × Widens old wide × (key : Key) × EntersAt future wide f tag key new
  went false p = (old, widens_none old, p.0, p.1)
  went true p = (p.1.0, widens old p.1.0 p.1.1, p.0, p.1.2)

  pub added_one : (grows : Bool) → WentIn future grows tag old f new → flight_count new ≡ flight_count old + 1
  added_one grows p = let w = went grows p in omega (arith, w.3.one_more, w.1.counts is_some refl)

  pub added_gives : (grows : Bool) → WentIn future grows tag old f new → (out : T × A) → TagGives future new out → TagGives future old out ⊎ ((out.0 ≡ tag) × future.gives f out.1)
  added_gives grows p out h =
      let w = went grows p in
      elim (held_after future w.0 new f tag w.2 w.3 h.0 out.0 out.1 h.1 h.2) [
        | inl was ↦ inl (tags_on future old w.0 w.1.places (same_gives future old w.0 w.1.futures.0 w.1.futures.1) out (h.0, was.1, was.2))
        | inr own ↦ inr (own.1, own.2)
      ]

  added_slots : (grows : Bool) → WentIn future grows tag old f new → HasGrown old new
  added_slots grows p = let w = went grows p in omega (arith, w.1.slots, same_slots future w.0 new f tag w.2 w.3)

  pub kept_room : (grows : Bool) → WentIn future grows tag old f new → KeepsRoom grows old new
  kept_room false p = same_slots future old new f tag p.0 p.1
  kept_room true p = added_slots true p

module _ {F A : Type 0} (future : FutureOf F A) where
  added_numbers : (grows : Bool) (old new : Flights F ℕ) (f : F) (number : ℕ) → WentIn future grows number old f new → (i : ℕ) → flights_with i new ≡ flights_with i old + one_at i number
  added_numbers grows old new f number p i =
      let w = went future old new f number grows p in
      tags_inserted i w.0.slots new.slots w.2.slot _ w.3.went_in ∙ ap (λ n. n + one_at i number) (w.1.counts (has_tag i) refl)

  -- the set may be polled, and room was made
  pub wide_can_queue : (old wide : Flights F ℕ) → CanPollQueue future old → MakesRoom old wide → CanPollQueue future wide
  wide_can_queue old wide can made =
      let w = widens old wide made in
      record { each = wide_can_poll future old wide can.each made; none_cancelled = w.rest.0 ∙ can.none_cancelled; some = omega (arith, w.slots, can.some); bound = omega (arith, w.slots, w.counts is_some refl, can.bound) }

  -- such a set may be polled, also if no room was made
  pub still_can_queue : (old new : Flights F ℕ) (made : Bool) → CanPollQueue future old → (made ≡ true → MakesRoom old new) → (made ≡ false → HasNoRoom old × (new ≡ old)) → CanPollQueue future new
  still_can_queue old new true can room none = wide_can_queue old new can (room refl)
  still_can_queue old new false can room none = subst (λ s. CanPollQueue future s) (sym (none refl).1) can

  -- the set took a future with a number; it made a slot first if it grows and had no room
  pub taken : (grows : Bool) (old wide new : Flights F ℕ) (f : F) (number : ℕ) (key : Key) → (grows ≡ true → MakesRoom old wide) → (grows ≡ false → wide ≡ old) → CanPollQueue future wide → flight_count wide < flight_slots wide → EntersAt future wide f number key new → PushesInto (PushesQueued future grows) flight_count flights_with HasGrown old (record { future = f; number = number }) new
  taken grows old wide new f number key made same can room p =
      let went_in : WentIn future grows number old f new = at grows made same in
      record {
        went_in = (went_in, can_push future wide new f number key can room p);
        one_more = added_one future old new f number grows went_in;
        numbers = added_numbers grows old new f number went_in;
        set = added_slots future old new f number grows went_in;
      }
    where
      at : (grows : Bool) → (grows ≡ true → MakesRoom old wide) → (grows ≡ false → wide ≡ old) → WentIn future grows number old f new
      at false made same = (key, subst (λ s. EntersAt future s f number key new) (same refl) p)
      at true made same = (key, (wide, made refl, p))

-- when a push of a future with a number may be refused, and when each is
module _ {F : Type 0} where
  pub may_refuse_grown : (grows : Bool) (s : Flights F ℕ) → grows ≡ true → HasNoRoom s → MayRefuseNumber grows s
  may_refuse_grown true s is none = none
  may_refuse_grown false s is none = absurd (false≢true is)

  pub may_refuse_bounded : (grows : Bool) (s : Flights F ℕ) → grows ≡ false → flight_slots s ≤ flight_count s → MayRefuseNumber grows s
  may_refuse_bounded false s is full = full
  may_refuse_bounded true s is full = absurd (true≢false is)

  pub refuses_grown : (grows : Bool) (s : Flights F ℕ) → grows ≡ true → (RefusesNumbers grows s → IsUsedUp s) × (IsUsedUp s → RefusesNumbers grows s)
  refuses_grown true s is = (λ used. used, λ used. used)
  refuses_grown false s is = absurd (false≢true is)

  pub refuses_bounded : (grows : Bool) (s : Flights F ℕ) → grows ≡ false → (RefusesNumbers grows s → flight_slots s ≤ flight_count s) × (flight_slots s ≤ flight_count s → RefusesNumbers grows s)
  refuses_bounded false s is = (λ full. full, λ full. full)
  refuses_bounded true s is = absurd (true≢false is)
