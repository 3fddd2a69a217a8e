-- How items that an iterator gives go into a new set in flight, each in the slot of its place.
use Rattle.futures_buffered_in_flight.proofs.Common.{◌≡◌, ◌≢◌, ◌<◌, ◌≤◌, ℕ, zero, suc, Bool, true, false, ◌+◌, ◌-◌, List, [], ◌∷◌, ◌++◌, length, Option, Some, All, refl, sym, ap, ap₂, subst, ◌∙◌, inl, inr, arith, length-set, slice_get, FoldsTo, range_with_len, max, length-append, length_push, cases_eq, true≢false, same_Some, MAX_CAPACITY, Items, Draws, Slots, held_count, slot_count, Ordered, None-Some, FutureOf, Flights, CanPollAll, IsNewInFlight, SlotGives, EntersAt, FliesInOrder, flight_slots, room_taken, EntersBack, HoldsInTurn, IsNewInOrder, ordered_room, KeepsRoom, Place, Key}
use Rattle.std.specs.Iterator.{Drains, YieldsThen}
use Rattle.futures_buffered_unordered.specs.Extended.{EachDrawn}
use Rattle.futures_buffered_in_flight.proofs.InFlightQueueLemmas.{held_after, new_count, new_slots}

-- each of the items that came from an iterator is one that may come
all_drawn : {S A : Type 0} (steps : S → Option A → S → Type 0) (P : A → Type 0) (it : S) (items : List A) → Drains steps it items
    → ((xs : List A) (x : A) (rest : S) → YieldsThen steps it xs (Some x) rest → P x) → All P items
all_drawn steps P it [] drains each k d below = absurd (omega arith)
all_drawn steps P it (x ∷ items) drains each zero d below =
    let first = drains.1.1 in
    each [] x first.0 (it, refl, first.1)
all_drawn steps P it (x ∷ items) drains each (suc k) d below =
    let first = drains.1.1 in
    all_drawn steps P first.0 items (drains.0, (drains.1.0, first.2, drains.1.2)) (λ xs y rest more. each (x ∷ xs) y rest (more.0, (first.0, first.1, more.1), more.2)) k d (omega arith)

-- so each of them is as each item is that may come
pub fit_drawn : {U F I : Type 0} (from : Items U F I) (P : F → Type 0) (items : List F) → EachDrawn from P → Draws from items → All P items
fit_drawn from P items each draws = all_drawn from.gives.next_gives P draws.0 items draws.2 (λ xs x rest more. each draws.0 draws.1 xs x rest more)

get_push_last : {F : Type 0} (xs : List F) (f : F) → slice_get (xs ++ f ∷ []) (length xs) ≡ Some f
get_push_last [] f = refl
get_push_last (x ∷ xs) f = get_push_last xs f

get_push_other : {F : Type 0} (xs : List F) (f g : F) (k : ℕ) → slice_get (xs ++ f ∷ []) k ≡ Some g → k ≢ length xs → slice_get xs k ≡ Some g
get_push_other [] f g zero got other = absurd (other refl)
get_push_other [] f g (suc k) got other = got
get_push_other (x ∷ xs) f g zero got other = got
get_push_other (x ∷ xs) f g (suc k) got other = get_push_other xs f g k got (λ same. other (ap suc same))

module _ {F O : Type 0} (future : FutureOf F O) where
  -- these went in so far, of n, each in the slot of its place
  pub record PushedSoFar (n : ℕ) (xs : List F) (held : Flights F (Unit {0})) : Type 0 where
    pub as_many : slot_count held.slots ≡ n
    pub free : held.slots.free ≡ range_with_len (length xs) (n - length xs)
    pub all_wait : held_count held.slots ≡ length xs
    pub own : (k : ℕ) (item : F) (x : O) → slice_get xs k ≡ Some item → SlotGives future held k x → future.gives item x
    pub none_cancelled : held.cancelled ≡ 0
    pub again : CanPollAll future held

  pub pushed_none : (n : ℕ) (set : Flights F (Unit {0})) → IsNewInFlight n set → CanPollAll future set → PushedSoFar n [] set
  pushed_none n set new can =
      record {
        as_many = new_slots n set new;
        free = ap (λ (s : Slots (Place (Unit {0}))). s.free) new.0 ∙ ap (range_with_len 0) (omega arith);
        all_wait = new_count n set new;
        own = λ k item x got h. absurd (None-Some got);
        none_cancelled = new.3;
        again = can;
      }

  -- one more went in
  pub pushed_one : (n : ℕ) (xs : List F) (f : F) (key : Key) (old new : Flights F (Unit {0})) → PushedSoFar n xs old → EntersAt future old f tt key new → PushedSoFar n (xs ++ f ∷ []) new
  pushed_one n xs f key old new so p = by_left (n - length xs) refl
    where
      its_own : (k : ℕ) (x : O) → k ≡ key.slot → SlotGives future new k x → future.gives f x
      its_own k x same h =
          elim (held_after future old new f tt key p (record { slot = k; push = h.0.push }) h.0.tag x h.1 h.2) [ inl was ↦ absurd (was.0 same) | inr own ↦ own.2 ]

      others : (k : ℕ) (item : F) (x : O) → k ≢ key.slot → slice_get xs k ≡ Some item → SlotGives future new k x → future.gives item x
      others k item x other got h =
          elim (held_after future old new f tt key p (record { slot = k; push = h.0.push }) h.0.tag x h.1 h.2) [
            | inl was ↦ so.own k item x got (h.0, was.1, was.2)
            | inr own ↦ absurd (other (ap (λ (key : Key). key.slot) own.0))
          ]

      by_left : (m : ℕ) → n - length xs ≡ m → PushedSoFar n (xs ++ f ∷ []) new
      by_left zero left =
          let none : key.slot ∷ new.slots.free ≡ [] = sym p.went_in.first_free ∙ (so.free ∙ ap (range_with_len (length xs)) left) in
          absurd (cc)
      by_left (suc m) left =
          let free : key.slot ∷ new.slots.free ≡ length xs ∷ range_with_len (length xs + 1) m = sym p.went_in.first_free ∙ (so.free ∙ ap (range_with_len (length xs)) left) in
          let at : key.slot ≡ length xs = cc in
          let others_free : new.slots.free ≡ range_with_len (length xs + 1) m = cc in
          let more : length (xs ++ f ∷ []) ≡ length xs + 1 = length_push xs f in
          let fewer : m ≡ n - length (xs ++ f ∷ []) = omega (arith, more, left) in
          record {
            as_many = ap length p.went_in.now_held ∙ (length-set old.slots.places key.slot _ ∙ so.as_many);
            free = others_free ∙ ap₂ range_with_len (sym more) fewer;
            all_wait = omega (arith, p.one_more, so.all_wait, more);
            own = λ k item x got h. elim (cases_eq k key.slot) [
              | inl same ↦
                  let is : f ≡ item = same_Some _ _ (sym (get_push_last xs f) ∙ (ap (slice_get (xs ++ f ∷ [])) (sym (same ∙ at)) ∙ got)) in
                  subst (λ (g : F). future.gives g x) is (its_own k x same h)
              | inr other ↦ others k item x other (get_push_other xs f item k got (λ same. other (same ∙ sym at))) h
            ];
            none_cancelled = p.room ∙ so.none_cancelled;
            again = p.again;
          }

  -- while an item is left, there is room for it
  pub pushed_room : (items xs rest : List F) (f : F) (set : Flights F (Unit {0})) → items ≡ xs ++ f ∷ rest → PushedSoFar (length items) xs set → room_taken set < flight_slots set
  pushed_room items xs rest f set is so =
      let all : length items ≡ length xs + length (f ∷ rest) = ap length is ∙ length-append xs (f ∷ rest) in
      omega (arith, all, so.as_many, so.all_wait, so.none_cancelled)

  -- all of them went in
  pub pushed_all : (items xs : List F) (set : Flights F (Unit {0})) → items ≡ xs → PushedSoFar (length items) xs set → FliesInOrder future items set
  pushed_all items xs set same so =
      record {
        as_many = so.as_many;
        all_wait = so.all_wait ∙ sym (ap length same);
        own = λ k item x got h. so.own k item x (sym (ap (λ ys. slice_get ys k) same) ∙ got) h;
      }

module _ {F A : Type 0} where
  -- these items went into a new queue, one after another
  pub holds_in_turn : (future : FutureOf F A) (grows : Bool) (items : List F) (n : ℕ) (start q : Ordered (Flights F ℕ) A) → n ≡ length items → IsNewInOrder (max 1 n) start → FoldsTo (EntersBack future grows) start items q → length q.entries ≡ n → HoldsInTurn future grows items q
  holds_in_turn future grows items n start q is new pushed count =
      record { start = start; is_new = subst (λ m. IsNewInOrder (max 1 m) start) is new; pushed = pushed; one_each = count ∙ is }

  -- so a bounded queue has as many slots as the new queue
  pub few_slots : (grows : Bool) (n : ℕ) (start q : Ordered (Flights F ℕ) A) → IsNewInOrder n start → n ≤ MAX_CAPACITY → KeepsRoom grows start.set q.set → grows ≡ false → ordered_room q ≤ MAX_CAPACITY
  few_slots true n start q new few same bounded = absurd (true≢false bounded)
  few_slots false n start q new few same bounded = omega (arith, new_slots n start.set new.new_set, few, same)

  pub none_pushed : (n : ℕ) (q : Ordered (Flights F ℕ) A) → IsNewInOrder n q → length q.entries ≡ 0
  none_pushed n q new = ap length new.no_entries
