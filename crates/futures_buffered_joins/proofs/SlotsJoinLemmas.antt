-- What a poll of a set of slots says of the places of a join.
use Rattle.futures_buffered_joins.proofs.Common.{◌≡◌, ℕ, zero, suc, Bool, List, [], ◌∷◌, length, map, get_or, set, replicate, Option, Some, None, IfSome, is_some, true, false, cond, refl, sym, ap, subst, inl, inr, arith, ◌∙◌, slice_get, FoldsTo, count_by, get_or-map, map-set, sum_by-cons, get_or_from_slice_get, slice_get_within, cases_eq, Context, Poll, Ready, Pending, Slots, value_in, slot_count, with_slot_freed, Bounded, HoldsEach, gives_others, gives_passed, value_in-with_slot_freed, value_in-with_slot_freed_other, waiting_count, PlacedPollsOf, PollsPlaced, ItemMayGive, MayGiveAt, ReadySourceOf, SlotFutureOf, SlotsGive, slots_waiting}
use Rattle.futures_buffered_table.specs.declared.answer.Woke.{Woke}
use Rattle.futures_buffered_unordered.specs.Held.{AllHeld, AnyMayGive, MayGive, Passes, Yields}
use Rattle.futures_buffered_unordered.specs.PollsBounded.{RegistersAndTakes, itself}
use Rattle.futures_buffered_unordered.proofs.HeldLemmas.{some_from_end}
use Rattle.futures_buffered_unordered.proofs.PollsBoundedLemmas.{takes_held}

-- as many futures wait as are held
pub held_waiting : {P : Type 0} (places : List (Option P)) → count_by is_some places ≡ waiting_count (map is_some places)
held_waiting [] = refl
held_waiting (o ∷ places) = omega (arith, held_waiting places, sum_by-cons (λ (p : Option _). cond (is_some p) 1 0) o places, sum_by-cons (λ (waits : Bool). cond waits 1 0) (is_some o) (map is_some places))

-- a future waits at a place exactly if the slot has something
pub waits_at : {P : Type 0} (places : List (Option P)) (k : ℕ) → get_or (map is_some places) k false ≡ is_some (get_or places k None)
waits_at [] k = refl
waits_at (o ∷ places) zero = refl
waits_at (o ∷ places) (suc k) = waits_at places k

-- slots that hold something where others do wait at the same places
same_waiting : {P : Type 0} (old new : List (Option P)) → length new ≡ length old → ((k : ℕ) → is_some (get_or new k None) ≡ is_some (get_or old k None)) → map is_some new ≡ map is_some old
same_waiting [] [] size same = refl
same_waiting [] (o ∷ new) size same = absurd (omega (arith, size))
same_waiting (o ∷ old) [] size same = absurd (omega (arith, size))
same_waiting (o ∷ old) (p ∷ new) size same =
    let first = same 0 in
    let rest = same_waiting old new (omega (arith, size)) (λ k. same (suc k)) in
    cc

-- of a new set a future waits at each place
each_some : {F : Type 0} (items : List F) → map is_some (map Some items) ≡ replicate (length (map Some items)) true
each_some [] = refl
each_some (x ∷ items) = ap (λ (places : List Bool). true ∷ places) (each_some items)

pub each_waits : {F S : Type 0} (made : ℕ → S → Type 0) (marks : S → ℕ → Woke → S → Type 0) (limit : ℕ) (items : List F) (held : Bounded F S) → HoldsEach made marks limit items held → slots_waiting held ≡ replicate (slot_count held.slots) true
each_waits made marks limit items held holds = rw holds.slots_hold (each_some items)

Some-same : {F : Type 0} {f g : F} → Some f ≡ Some g → f ≡ g
Some-same e = cc

module _ {F R : Type 0} (polled : ℕ → F → Poll R → F → Type 0) where
  -- the same polls, whose outputs come with their slots
  abbrev with_slot : ℕ → F → Poll (ℕ × R) → F → Type 0
  with_slot i f (Ready came) left = (came.0 ≡ i) × polled i f (Ready came.1) left
  with_slot i f Pending left = polled i f Pending left

  to_any : (m : Slots F) (k : ℕ) (y : R) → MayGiveAt polled m k y → AnyMayGive with_slot m (k, y)
  to_any m k y may = (k, may.0, may.1, (may.2.0, may.2.1, may.2.2, may.2.3, (refl, may.2.4)))

  from_any : (m : Slots F) (k : ℕ) (y : R) → AnyMayGive with_slot m (k, y) → MayGiveAt polled m k y
  from_any m k y any = subst (λ (i : ℕ). MayGiveAt polled m i y) (sym any.3.4.0) (any.1, any.2, (any.3.0, any.3.1, any.3.2, any.3.3, any.3.4.1))

  -- pending polls add nothing to what a slot may give
  passed_at : (names : List ℕ) (m left : Slots F) (k : ℕ) (y : R) → FoldsTo (Passes polled) m names left → MayGiveAt polled left k y → MayGiveAt polled m k y
  passed_at names m left k y passes may = from_any m k y (gives_passed with_slot names m left (k, y) passes (to_any left k y may))

  -- nor does an output, whose slot is emptied
  freed_at : (m new : Slots F) (i k : ℕ) (x y : R) → Yields polled m i x new → MayGiveAt polled (with_slot_freed new i) k y → MayGiveAt polled m k y
  freed_at m new i k x y h may = from_any m k y (gives_others with_slot m new i (i, x) (k, y) (record { value = h.value; held = h.held; left = h.left; gave = (refl, h.gave); now_holds = h.now_holds }) (to_any (with_slot_freed new i) k y may))

module _ {F W O S : Type 0} (future : SlotFutureOf F W O) (source : ReadySourceOf S W) where
  -- what a join sees of the set
  abbrev pub placed : PlacedPollsOf (Bounded F S) O
  placed = record {
    can_poll = λ (b : Bounded F S). AllHeld future.can_poll b.slots;
    gives = SlotsGive future source;
    needs = λ (b : Bounded F S). source.needs b.source;
    may_give = λ (b : Bounded F S). MayGiveAt future.polled b.slots;
  }

  pub output_came : (old before new : Bounded F S) (i : ℕ) (x : O) (cx left : Context) → RegistersAndTakes (itself future) source old (Ready (i, x)) before cx left → new ≡ record before { slots = with_slot_freed before.slots i } → PollsPlaced slots_waiting placed old (Ready (i, x)) new cx left
  output_came old before new i x cx left h is =
      let takes = h.takes in
      record {
        gave = (before, h, is);
        frees = (waits_at old.slots.places i ∙ (sym (takes.same_slots i) ∙ some), ap slots_waiting is ∙ (map-set is_some before.slots.places i None ∙ ap (λ (waiting : List Bool). set waiting i false) (same_waiting old.slots.places before.slots.places takes.capacity takes.same_slots)));
        own = passed_at future.polled takes.names old.slots takes.passed i x takes.passes (takes.ends.2.value, takes.ends.2.held, ([], takes.ends.2.value, takes.ends.2.left, refl, takes.ends.2.gave));
        narrows = λ k y may. passed_at future.polled takes.names old.slots takes.passed k y takes.passes (freed_at future.polled takes.passed before.slots i k x y takes.ends.2 (subst (λ (b : Bounded F S). MayGiveAt future.polled b.slots k y) is may));
        registered = tt;
        kept = h.kept;
        again = subst (λ (b : Bounded F S). AllHeld future.can_poll b.slots) (sym is) others_held;
      }
    where
      some : is_some (value_in before.slots i) ≡ true
      some = some_from_end (future.polled i) _ _ (takes_held (itself future) source _ _ _ _ _ _ h.takes)

      others_held : AllHeld future.can_poll (with_slot_freed before.slots i)
      others_held j =
          elim (cases_eq j i) [
            | inl same ↦ let none : value_in (with_slot_freed before.slots i) j ≡ None = ap (value_in (with_slot_freed before.slots i)) same ∙ value_in-with_slot_freed before.slots i in rw none tt
            | inr other ↦ subst (λ (o : Option F). IfSome o future.can_poll) (sym (value_in-with_slot_freed_other before.slots i j other)) (h.takes.others j other)
          ]

  pub nothing_came : (old new : Bounded F S) (cx left : Context) → RegistersAndTakes (itself future) source old Pending new cx left → PollsPlaced slots_waiting placed old Pending new cx left
  nothing_came old new cx left h =
      let takes = h.takes in
      record {
        gave = h;
        frees = same_waiting old.slots.places new.slots.places takes.capacity takes.same_slots;
        own = tt;
        narrows = λ k y. passed_at future.polled takes.names old.slots new.slots k y (rw takes.ends.0 takes.passes);
        registered = takes.covered;
        kept = h.kept;
        again = takes.pollable;
      }

-- what may come at place k of a new set, item k may give
pub own_item : {F O S : Type 0} (polled : ℕ → F → Poll O → F → Type 0) (made : ℕ → S → Type 0) (marks : S → ℕ → Woke → S → Type 0) (limit : ℕ) (items : List F) (held : Bounded F S) → HoldsEach made marks limit items held
    → (k : ℕ) (item : F) (x : O) → slice_get items k ≡ Some item → MayGiveAt polled held.slots k x → ItemMayGive polled k item x
own_item polled made marks limit items held holds k item x of_item may =
    let is : value_in held.slots k ≡ Some item = rw holds.slots_hold (get_or-map Some items k item None (slice_get_within items k item of_item) ∙ ap Some (get_or_from_slice_get items k item item of_item)) in
    subst (λ (f : _). MayGive (polled k) f x) (Some-same (sym may.1 ∙ is)) may.2
