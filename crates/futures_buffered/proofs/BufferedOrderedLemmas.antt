-- What a push, and one poll, leave of an ordered queue as what a buffer holds.
use Rattle.futures_buffered.proofs.Common.{◌≡◌, ◌⊎◌, ℕ, ◌≤◌, List, [], ◌∷◌, length, Option, Some, None, ◌<◌, true, refl, sym, ap, subst, inl, inr, arith, ◌∙◌, map, cond, Bool, FoldsTo, cases_eq, eq-eqb, get_or-le-sum_by, sum_by-set, Context, Poll, Ready, Pending, Slots, value_in, with_slot_freed, value_in-with_slot_freed_other, Woke, MayGive, held_in, AllHeld-push, CanPollFuture, PollsNumbered, held_with, AddsBack, ComesInOrder, EachHasOne, Entry, OrderedGives, starts_running, EachRunning, OrderedBounded, PollsOrderedBounded, PushesNumber, SetGives, SetMayGive, ReadySourceOf, PollOneOf, Numbered, in_slot, in_slots, as_many_of, comes_behind, empty_of, fewer_of, no_more_of, unused_none, stream_of, LeavesHeld, PollsFutureQueue, PushAddsOutput, MayGiveInSlot, queue_len, queue_slots, held_within}
use Rattle.futures_buffered_ordered.proofs.FuturesOrderedBoundedLemmas.{queue_gives_of}
use Rattle.futures_buffered_ordered.proofs.OrderedStreamLemmas.{bounded_answers}
use Rattle.futures_buffered.proofs.BufferUnorderedLemmas.{held-inserts}

module _ {F : Type 0} (i : ℕ) where
  one_here : (o : Option (Numbered F)) (f : Numbered F) → o ≡ Some f → f.number ≡ i → in_slot i o ≡ 1
  one_here o f e is = rw (e, is) (ap (λ (b : Bool). cond b 1 0) (eq-eqb i i refl))

  -- a slot that holds a future with this number counts
  counts_one : (m : Slots (Numbered F)) (s : ℕ) (f : Numbered F) → value_in m s ≡ Some f → f.number ≡ i → 0 < in_slots i m
  counts_one m s f e is = omega (arith, one_here (value_in m s) f e is, get_or-le-sum_by (in_slot i) m.places s None (held_within m s f (sym e)))

  -- and it is the only one where there is one at most
  pub one_slot : (m : Slots (Numbered F)) (s t : ℕ) (f g : Numbered F) → value_in m s ≡ Some f → f.number ≡ i → value_in m t ≡ Some g → g.number ≡ i → in_slots i m ≤ 1 → t ≡ s
  one_slot m s t f g here is there also one =
      elim (cases_eq t s) [
        | inl same ↦ same
        | inr other ↦
            let own : in_slot i (value_in m s) ≡ 1 = one_here (value_in m s) f here is in
            let without = sum_by-set (in_slot i) m.places s None None (held_within m s f (sym here)) in
            let left = counts_one (with_slot_freed m s) t g (value_in-with_slot_freed_other m s t other ∙ there) also in
            absurd (omega (arith, own, without, left, one))
      ]

module _ {F A : Type 0} (polled : ℕ → F → Poll A → F → Type 0) (slot : ℕ) where
  -- pending polls of a numbered future are those of the future, and keep its number
  waits_future : (later : List (Numbered F)) (f g : Numbered F) → FoldsTo (λ a b c. PollsNumbered polled slot a Pending b × (c ≡ b)) f later g → FoldsTo (λ a b c. polled slot a Pending b × (c ≡ b)) f.future (map (λ n. n.future) later) g.future × (g.number ≡ f.number)
  waits_future [] f g h = (ap (λ (n : Numbered F). n.future) h, sym (ap (λ (n : Numbered F). n.number) h))
  waits_future (b ∷ later) f g h =
      let rest = waits_future later h.0 g h.2 in
      ((h.0.future, (h.1.0.0, ap (λ (n : Numbered F). n.future) h.1.1), rest.0), rest.1 ∙ (ap (λ (n : Numbered F). n.number) h.1.1 ∙ h.1.0.1))

  -- a numbered future may give what its future may give, with its number
  may_number : (f : Numbered F) (i : ℕ) (y : A) → MayGive (PollsNumbered polled slot) f (i, y) → (f.number ≡ i) × MayGive (polled slot) f.future y
  may_number f i y may =
      let waited = waits_future may.0 f may.1 may.3 in
      (sym waited.1 ∙ sym may.4.2, (map (λ n. n.future) may.0, may.1.future, may.2.future, waited.0, may.4.0))

module _ {F A S : Type 0} (polled : ℕ → F → Poll A → F → Type 0) (marks : S → ℕ → Woke → S → Type 0) (old new : OrderedBounded F A S) (item : F) (each : EachHasOne held_with old) (added : AddsBack (PushesNumber marks) old item new) where
  abbrev number : ℕ
  number = added.0

  abbrev put : Numbered F
  put = record { future = item; number = added.0 }

  -- an output that the set may give it might have given before, or it is one of the item, with its number
  more : (out : ℕ × A) → SetMayGive polled new.set out → SetMayGive polled old.set out ⊎ ((out.0 ≡ number) × MayGiveInSlot polled item out.1)
  more (i, y) h =
      let may = may_number polled h.0 h.1 i y h.3 in
      elim (held-inserts old.set.slots new.set.slots added.1.pushed.0 h.0 put h.1 added.1.pushed.1.inserted h.2) [
        | inl is ↦ inr (sym may.0 ∙ ap (λ (n : Numbered F). n.number) is, (h.0, subst (λ (n : Numbered F). MayGive (polled h.0) n.future y) is may.1))
        | inr before ↦ inl (h.0, h.1, before, h.3)
      ]

  none : (y : A) → SetMayGive polled old.set (number, y) → ⊥
  none y h =
      let one = counts_one number old.set.slots h.0 h.1 h.2 (may_number polled h.0 h.1 number y h.3).0 in
      absurd (omega (arith, one, each.as_many number, unused_none number old.entries added.1.unused))

  -- so one output more comes, behind all others
  pub push_adds : PushAddsOutput true (ComesInOrder (SetMayGive polled)) (MayGiveInSlot polled item) old None new
  push_adds = record { adds = comes_behind (SetMayGive polled) (MayGiveInSlot polled) (PushesNumber marks) old new item added more none; value = tt; overtakes = tt }

-- each future may be polled, where those held and the new one may be
pub pushed_can : {F A S : Type 0} (marks : S → ℕ → Woke → S → Type 0) (can_poll : F → Type 0) (old new : OrderedBounded F A S) (item : F) → AddsBack (PushesNumber marks) old item new → EachRunning can_poll old.set → can_poll item → EachRunning can_poll new.set
pushed_can marks can_poll old new item added held fit = AllHeld-push (CanPollFuture can_poll) old.set.slots added.1.pushed.0 (record { future = item; number = added.0 }) new.set.slots added.1.pushed.1.inserted held fit

-- a front that runs is an entry
pub starts_some : {A : Type 0} (es : List (Entry A)) → starts_running es ≡ true → 0 < length es
starts_some [] e = cc
starts_some (x ∷ xs) e = omega arith

module _ {R F W A S : Type 0} (rule : PollOneOf R F W A) (source : ReadySourceOf S W) (old new : OrderedBounded F A S) where
  queue_counts : (answer : Poll (Option A)) → OrderedGives (SetGives rule source) held_in old answer new → LeavesHeld queue_len old answer new
  queue_counts (Ready None) h = empty_of (SetGives rule source) held_in old new (Ready None) h
  queue_counts (Ready (Some x)) h = fewer_of (SetGives rule source) held_in old new (Ready (Some x)) h
  queue_counts Pending h =
      (as_many_of (SetGives rule source) held_in old new Pending h, subst (λ (es : List (Entry A)). 0 < length es) (sym h.last_step.2) (starts_some h.before.entries h.last_step.0))

  module _ (answer : Poll (Option A)) (cx left : Context) (fits : (0 < queue_slots old) × (queue_len old ≤ queue_slots old)) (poll : PollsOrderedBounded rule source old answer new cx left) where
    gives : OrderedGives (SetGives rule source) held_in old answer new
    gives = queue_gives_of rule source old new answer cx left poll

    -- the queue holds no more than it has slots
    pub still_fits : (0 < queue_slots new) × (queue_len new ≤ queue_slots new)
    still_fits =
        let same = poll.queue.set.capacity in
        (omega (arith, same, fits.0), omega (arith, same, fits.1, no_more_of (SetGives rule source) held_in old new answer gives))

    -- a poll of the queue is one of what a buffer holds
    pub polls_queue : PollsFutureQueue (PollsOrderedBounded rule source) queue_len queue_slots (stream_of (λ queue. EachRunning rule.can_poll queue.set) (λ queue place. (0 < held_in queue.set) × source.needs queue.set.source place) (ComesInOrder (SetMayGive rule.polled))) old answer new cx left
    polls_queue =
        record {
          polled = poll;
          counts = queue_counts answer gives;
          same_room = poll.queue.set.capacity;
          some = still_fits.0;
          bound = still_fits.1;
          as_stream = bounded_answers rule source old new answer cx left poll;
        }
