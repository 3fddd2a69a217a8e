-- What a contract sees of a bounded ordered queue: the words on ordered queues, for a bounded set.
use Rattle.futures_buffered_ordered.specs.Below.{FoldsTo, Context, Poll, Ready, Pending, slot_count, Woke, Bounded}
use Rattle.futures_buffered_ordered.specs.Below.{IsNewSet, Pushes, held_in, slots_in, PollOneOf, PollsBounded}
use Rattle.std.specs.Prelude.{◌≡◌, ℕ, ◌+◌, ◌*◌, ◌<◌, ◌≤◌, List, [], ◌∷◌, length, Option}
use Rattle.futures_buffered_unordered.specs.Held.{AllHeld, AnyMayGive}
use Rattle.futures_buffered_core.specs.declared.ready_source.ReadySource.{Ghosts as ReadySourceOf}
use Rattle.futures_buffered_unordered.specs.StreamAnswers.{OfSomeTask}
use Rattle.futures_buffered_ordered.specs.Numbered.{CanPollFuture, NumberedPollsOf, PollsNumbered, of_numbered}
use Rattle.futures_buffered_ordered.specs.OrderedEntries.{Ordered, IsNewQueue, AddsEachBack, BesideTask, LastStep}
use Rattle.futures_buffered_ordered.specs.OrderedEntries.{PollsOrdered, SetYields, with_task}
use Rattle.futures_buffered_ordered.specs.declared.numbered.Numbered.{Numbered}

-- the bounded set of numbered futures, the entries, and how many entries had a place when the queue was made
abbrev pub OrderedBounded : Type 0 → Type 0 → Type 0 → Type 0
OrderedBounded F A S = Ordered (Bounded (Numbered F) S) A

module _ {F S : Type 0} where
  -- a future was pushed into the set, with number i
  abbrev pub PushesNumber : (S → ℕ → Woke → S → Type 0) → Bounded (Numbered F) S → F → ℕ
      → Bounded (Numbered F) S → Type 0
  PushesNumber marks old future i new = Pushes marks old (record { future = future; number = i }) new

  -- each slot holds a future
  abbrev pub SetIsFull : Bounded (Numbered F) S → Type 0
  SetIsFull set = held_in set ≡ slot_count set.slots

  -- the number of slots and the limit do not change
  pub record SameSize (old new : Bounded (Numbered F) S) : Type 0 where
    pub capacity : slot_count new.slots ≡ slot_count old.slots
    pub limit : new.limit ≡ old.limit

  -- What a push at one end makes of a queue that has fewer entries than slots. `adds` says what it is to add at this
  -- end.
  pub record PushesEntry {A : Type 0} (adds : OrderedBounded F A S → F → OrderedBounded F A S → Type 0)
      (old : OrderedBounded F A S) (future : F) (new : OrderedBounded F A S) : Type 0 where
    -- the future was added at this end
    pub pushed : adds old future new
    -- the number of slots does not change
    pub capacity : slots_in new.set ≡ slots_in old.set

  -- as many futures are in progress as the queue has slots; kept outputs do not count
  abbrev pub QueueIsFull : {A : Type 0} → OrderedBounded F A S → Type 0
  QueueIsFull q = SetIsFull q.set

  -- the set is new, with `cap` slots and this limit; there is no entry, and at least `cap` entries have a place
  abbrev pub IsNewBoundedQueue : {A : Type 0} → (ℕ → S → Type 0) → ℕ → ℕ → OrderedBounded F A S → Type 0
  IsNewBoundedQueue made cap limit = IsNewQueue (IsNewSet made cap limit) cap

  -- these items were added at the back, in order, to a new queue with a slot for each
  pub record HoldsInOrder {A : Type 0} (made : ℕ → S → Type 0) (marks : S → ℕ → Woke → S → Type 0)
      (limit : ℕ) (items : List F) (q : OrderedBounded F A S) : Type 0 where
    pub start : OrderedBounded F A S
    pub is_new : IsNewBoundedQueue made (length items) limit start
    pub added : AddsEachBack (PushesNumber marks) start items q

  -- P holds of each future in progress
  abbrev pub EachRunning : (F → Type 0) → Bounded (Numbered F) S → Type 0
  EachRunning P set = AllHeld (CanPollFuture P) set.slots

module _ {F A S : Type 0} (polled : ℕ → F → Poll A → F → Type 0) where
  -- some future may give this output, with this number
  abbrev pub SetMayGive : Bounded (Numbered F) S → ℕ × A → Type 0
  SetMayGive set = AnyMayGive (PollsNumbered polled) set.slots

module _ {R F W A S : Type 0} (rule : PollOneOf R F W A) (source : ReadySourceOf S W) where
  -- how the set of a queue is polled, if `rule` says how one future is polled
  abbrev pub bounded_polls : NumberedPollsOf (Bounded (Numbered F) S) R A
  bounded_polls = record {
    can_poll = EachRunning rule.can_poll;
    gives = PollsBounded (of_numbered rule) source;
    needs = λ set n. (0 < held_in set) × source.needs set.source n;
  }

  -- one poll of the set, of some task; an output comes with its number
  abbrev pub SetGives : Bounded (Numbered F) S → Poll (Option (ℕ × A)) → Bounded (Numbered F) S → Type 0
  SetGives = OfSomeTask (PollsBounded (of_numbered rule) source)

  -- One poll of a bounded queue, over the queue and the task. It is for definitions and laws, which can quote no
  -- impl.
  abbrev pub PollsOrderedBounded : OrderedBounded F A S → Poll (Option A) → OrderedBounded F A S
      → Context → Context → Type 0
  PollsOrderedBounded = PollsOrdered held_in SameSize bounded_polls

  -- how many ready slots were taken by the polls of the set that returned an output each
  abbrev pub names_of_row : (old : Ordered (Bounded (Numbered F) S × Context) A)
      (row : List (ℕ × A)) (new : Ordered (Bounded (Numbered F) S × Context) A)
      → FoldsTo (SetYields (BesideTask (PollsBounded (of_numbered rule) source))) old row new → ℕ
  names_of_row old [] new row = 0
  names_of_row old (out ∷ outs) new row =
      length row.1.gave.gave.1.2.takes.names + 1 + names_of_row row.0 outs new row.2

  -- how many ready slots the last step took; 0 if it did not poll the set
  abbrev pub names_of_last : (old : Ordered (Bounded (Numbered F) S × Context) A)
      (answer : Poll (Option A)) (new : Ordered (Bounded (Numbered F) S × Context) A)
      → LastStep (BesideTask (PollsBounded (of_numbered rule) source)) old answer new → ℕ
  names_of_last old (Ready _) new step = 0
  names_of_last old Pending new step = length step.1.gave.1.takes.names

  -- each poll takes at most `limit` ready slots for each future that is in progress as the poll begins
  abbrev pub TakesFewNames : Type 0
  TakesFewNames = (old : OrderedBounded F A S) (answer : Poll (Option A))
      (new : OrderedBounded F A S) (cx left : Context)
      → (poll : PollsOrderedBounded old answer new cx left)
      → names_of_row (with_task old cx) poll.gave.yielded poll.gave.before poll.gave.row
      + names_of_last poll.gave.before answer (with_task new left) poll.gave.last_step
      ≤ old.set.limit * held_in old.set
