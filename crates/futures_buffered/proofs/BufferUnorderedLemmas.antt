-- What a push, and one poll, leave of a bounded set as what a buffer holds.
use Rattle.futures_buffered.proofs.Common.{◌≡◌, ◌⊎◌, ℕ, ◌+◌, ◌<◌, [], Option, Some, None, false, is_some, cond, sym, subst, ap, inl, inr, arith, ◌∙◌, count_by-le-length, get_or-le-sum_by, cases_eq, Context, Poll, Ready, Pending, Slots, value_in, held_count, Inserts, Woke, ReadySourceOf, SlotFutureOf, MayGive, AllHeld, ComesFrom, Bounded, Pushes, held_in, slots_in, PollsBounded, itself, AllHeld-push, value_inserted, value_inserted_other, stream_of, AddsOutput, LeavesHeld, PollsFutureQueue, PushAddsOutput, PushLeavesQueue, MayGiveInSlot, same_Some, held_within}
use Rattle.futures_buffered_unordered.proofs.PollsBoundedLemmas.{answers_as_stream}

-- a value held after an insertion is the one that went in, or was held before
pub held-inserts : {F : Type 0} (old new : Slots F) (i j : ℕ) (f g : F) → Inserts old i f new → value_in new j ≡ Some g → (g ≡ f) ⊎ (value_in old j ≡ Some g)
held-inserts old new i j f g into found = elim (cases_eq j i) [
  | inl same ↦ inl (same_Some _ _ (sym found ∙ (ap (λ (n : ℕ). value_in new n) same ∙ value_inserted old new i f into)))
  | inr other ↦ inr (sym (value_inserted_other old new i f into j other) ∙ found)
]

-- a value that is held counts
pub some_held : {F : Type 0} (m : Slots F) (i : ℕ) (f : F) → value_in m i ≡ Some f → 0 < held_count m
some_held {F} m i f found =
    omega (arith, rw found at (get_or-le-sum_by (λ (o : Option F). cond (is_some o) 1 0) m.places i None (held_within m i f (sym found))))

-- a push that returned no answer
pub one_more : {A Q : Type 0} (count room : Q → ℕ) (old new : Q) → count new ≡ count old + 1 → room new ≡ room old → PushLeavesQueue {A = A} count room old None new
one_more count room old new one same_room = record { one_more = one; stays = tt; same_room = same_room }

module _ {F S : Type 0} (marks : S → ℕ → Woke → S → Type 0) (old new : Bounded F S) (f : F) (pushed : Pushes marks old f new) where
  -- one output more may come, of the future that went in
  pub push_adds : {A : Type 0} (polled : ℕ → F → Poll A → F → Type 0) → PushAddsOutput false (λ set. ComesFrom polled set.slots) (MayGiveInSlot polled f) old None new
  push_adds polled = record { adds = adds; value = tt; overtakes = tt }
    where
      adds : AddsOutput false (ComesFrom polled old.slots) (MayGiveInSlot polled f) (ComesFrom polled new.slots)
      adds x came =
          let any = came.1.ends.0 in
          elim (held-inserts old.slots new.slots pushed.0 any.0 f any.1 pushed.1.inserted any.2) [
            | inl is ↦ inr (any.0, subst (λ g. MayGive (polled any.0) g x) is any.3)
            | inr was ↦ inl ([], record { each = tt; ends = ((any.0, any.1, was, any.3), some_held old.slots any.0 any.1 was) })
          ]

  -- each future may be polled, where those held and the new one may be
  pub pushed_can : (can_poll : F → Type 0) → AllHeld can_poll old.slots → can_poll f → AllHeld can_poll new.slots
  pushed_can can_poll held fit = AllHeld-push can_poll old.slots pushed.0 f new.slots pushed.1.inserted held fit

module _ {F A S W : Type 0} (future : SlotFutureOf F W A) (source : ReadySourceOf S W) (old new : Bounded F S) where
  set_counts : (answer : Poll (Option A)) (cx left : Context) → PollsBounded (itself future) source old answer new cx left → LeavesHeld held_in old answer new
  set_counts (Ready None) cx left poll = (poll.gave.0, poll.gave.1)
  set_counts (Ready (Some x)) cx left poll = poll.fewer
  set_counts Pending cx left poll = (poll.same, omega (arith, poll.gave.0, poll.same))

  -- a poll of the set is one of what a buffer holds
  pub polls_set : (answer : Poll (Option A)) (cx left : Context) → 0 < slots_in old → PollsBounded (itself future) source old answer new cx left
      → PollsFutureQueue (PollsBounded (itself future) source) held_in slots_in (stream_of (λ set. AllHeld future.can_poll set.slots) (λ set place. (0 < held_in set) × source.needs set.source place) (λ set. ComesFrom future.polled set.slots)) old answer new cx left
  polls_set answer cx left some poll =
      record {
        polled = poll;
        counts = set_counts answer cx left poll;
        same_room = poll.capacity;
        some = omega (arith, some, poll.capacity);
        bound = count_by-le-length is_some new.slots.places;
        as_stream = answers_as_stream (itself future) source old new answer cx left poll;
      }
