-- A poll of a bounded set: what it has asked so far, how it ends, and the poll as one of a stream.
use Rattle.futures_buffered_unordered.proofs.Common.{◌≡◌, ◌⊎◌, inl, inr, ℕ, ◌+◌, ◌<◌, true, List, [], ◌∷◌, ◌++◌, map, length, Option, Some, None, is_some, refl, sym, ap, subst, arith, append-nil, length-set, ◌∙◌, FoldsTo, FoldsTo-push, length_push, map_push, Covers, Keeps, Context, Poll, Ready, Pending, Slots, value_in, held_count, slot_count, with_slot_freed, with_value, Taken, Slot, Empty, Pause, StreamAnswers, stream_of, AllHeld, ComesFrom, EndsWith, Passes, Bounded, IsWoken, held_in, EndsPending, PollOneOf, PollsBounded, ReadySourceOf, RegistersAndTakes, TakesNames, unless_registered}
use Rattle.std.specs.Option.{option_to_list}
use Rattle.futures_buffered_unordered.proofs.HeldLemmas.{AllHeld-with, others-with, count-with, same-with, value_in-with_value, passes_pending}
use Rattle.futures_buffered_unordered.proofs.StreamAnswersLemmas.{answers_of, covers_fewer}
use Rattle.futures_buffered_unordered.proofs.FuturesUnorderedBoundedLemmas.{rest_of, same_of, value_of}

module _ {R F W A S : Type 0} (rule : PollOneOf R F W A) (source : ReadySourceOf S W) where
  -- so many names came, and each value that was polled is pending
  pub record SoFar (old : Bounded F S) (count : ℕ) (slots : Slots F) (now : S) : Type 0 where
    pub names : List ℕ
    pub counted : length names ≡ count
    pub answers : FoldsTo source.steps.takes old.source (map Slot names) now
    pub passes : FoldsTo (Passes rule.polled) old.slots names slots
    pub pollable : AllHeld rule.can_poll slots
    pub held : held_count slots ≡ held_count old.slots
    pub same_slots : (j : ℕ) → is_some (value_in slots j) ≡ is_some (value_in old.slots j)
    pub capacity : slot_count slots ≡ slot_count old.slots

  pub SoFar-start : (old : Bounded F S) (slots : Slots F) (now : S) → slots ≡ old.slots → now ≡ old.source → AllHeld rule.can_poll slots → SoFar old 0 slots now
  SoFar-start old slots now same_slots same_source all =
      record {
        names = [];
        counted = refl;
        answers = sym same_source;
        passes = sym same_slots;
        pollable = all;
        held = ap held_count same_slots;
        same_slots = λ j. ap (λ (m : Slots F). is_some (value_in m j)) same_slots;
        capacity = ap slot_count same_slots;
      }

  -- one more name, which gave no output
  SoFar-step : (old : Bounded F S) (count i : ℕ) (slots new : Slots F) (now left : S) → SoFar old count slots now → source.steps.takes now (Slot i) left → Passes rule.polled slots i new → AllHeld rule.can_poll new → held_count new ≡ held_count slots → ((j : ℕ) → is_some (value_in new j) ≡ is_some (value_in slots j)) → slot_count new ≡ slot_count slots
      → SoFar old (count + 1) new left
  SoFar-step old count i slots new now left so taken passes pollable held same capacity =
      record {
        names = so.names ++ i ∷ [];
        counted = omega (arith, length_push so.names i, so.counted);
        answers = rw (map_push Slot so.names i) (FoldsTo-push source.steps.takes old.source (map Slot so.names) now (Slot i) left so.answers taken);
        passes = FoldsTo-push (Passes rule.polled) old.slots so.names slots i new so.passes passes;
        pollable = pollable;
        held = held ∙ so.held;
        same_slots = λ j. same j ∙ so.same_slots j;
        capacity = capacity ∙ so.capacity;
      }

  pub SoFar-skip : (old : Bounded F S) (count i : ℕ) (slots : Slots F) (now left : S) → SoFar old count slots now → source.steps.takes now (Slot i) left → value_in slots i ≡ None → SoFar old (count + 1) slots left
  SoFar-skip old count i slots now left so taken e = SoFar-step old count i slots slots now left so taken (rw e refl) so.pollable refl (λ j. refl) refl

  pub SoFar-pending : (old : Bounded F S) (count i : ℕ) (slots : Slots F) (now left : S) (f f2 : F) → SoFar old count slots now → source.steps.takes now (Slot i) left → Some f ≡ value_in slots i → rule.polled i f Pending f2 → rule.can_poll f2 → SoFar old (count + 1) (with_value slots i f2) left
  SoFar-pending old count i slots now left f f2 so taken e h again =
      SoFar-step old count i slots (with_value slots i f2) now left so taken (passes_pending rule.polled slots i f f2 (sym e) h) (AllHeld-with rule.can_poll slots i f2 so.pollable again) (count-with slots i f f2 e) (λ j. same-with slots i j f f2 e) (length-set slots.places i (Some f2))

  module _ (old : Bounded F S) (count limit : ℕ) (slots : Slots F) (now : S) (so : SoFar old count slots now) (same : limit ≡ old.limit) (cx left : Context) where
    -- the value of the slot named last was ready
    pub takes_ready : (i : ℕ) (after : S) (f f2 : F) (x : A) → count < old.limit → source.steps.takes now (Slot i) after → Some f ≡ value_in slots i → rule.polled i f (Ready x) f2 → (rule.goes_on x → rule.can_poll f2) → left ≡ cx → Covers left (source.needs after)
        → TakesNames rule source old (Ready (i, x)) (record { slots = with_value slots i f2; source = after; limit = limit }) cx left
    takes_ready i after f f2 x below taken e h goes stays covers =
        record {
          names = so.names;
          last = Some (Slot i);
          came = FoldsTo-push source.steps.takes old.source (map Slot so.names) now (Slot i) after so.answers taken;
          passed = slots;
          passes = so.passes;
          ends = (omega (arith, so.counted), refl, record { value = f; held = sym e; left = f2; gave = h; now_holds = refl }, stays);
          count = count-with slots i f f2 e ∙ so.held;
          same_slots = λ j. same-with slots i j f f2 e ∙ so.same_slots j;
          capacity = length-set slots.places i (Some f2) ∙ so.capacity;
          limit = same;
          covered = covers;
          kept = rw stays (λ fact holds. holds);
          pollable = tt;
          others = others-with rule.can_poll slots i f2 so.pollable;
          continues = λ more. AllHeld-with rule.can_poll slots i f2 so.pollable (goes more);
        }

    -- no value was ready
    takes_pending : (last : Option Taken) (after : S) → FoldsTo source.steps.takes old.source (map Slot so.names ++ option_to_list last) after → EndsPending old.limit count last cx left → Covers left (source.needs after) → Keeps cx left
        → TakesNames rule source old Pending (record { slots = slots; source = after; limit = limit }) cx left
    takes_pending last after came ended covers keeps =
        record {
          names = so.names;
          last = last;
          came = came;
          passed = slots;
          passes = so.passes;
          ends = (refl, subst (λ (n : ℕ). EndsPending old.limit n last cx left) (sym so.counted) ended);
          count = so.held;
          same_slots = so.same_slots;
          capacity = so.capacity;
          limit = same;
          covered = covers;
          kept = keeps;
          pollable = so.pollable;
          others = tt;
          continues = tt;
        }

    pub takes_last : (last : Taken) (after : S) → source.steps.takes now last after → EndsPending old.limit count (Some last) cx left → Covers left (source.needs after) → Keeps cx left
        → TakesNames rule source old Pending (record { slots = slots; source = after; limit = limit }) cx left
    takes_last last after taken = takes_pending (Some last) after (FoldsTo-push source.steps.takes old.source (map Slot so.names) now last after so.answers taken)

    pub takes_all : EndsPending old.limit count None cx left → Covers left (source.needs now) → Keeps cx left
        → TakesNames rule source old Pending (record { slots = slots; source = now; limit = limit }) cx left
    takes_all = takes_pending None now (subst (λ (given : List Taken). FoldsTo source.steps.takes old.source given now) (sym (append-nil (map Slot so.names))) so.answers)

  -- a value that gave an output is what its last poll left, in its slot
  pub takes_held : (old new : Bounded F S) (i : ℕ) (x : A) (cx left : Context) → TakesNames rule source old (Ready (i, x)) new cx left → EndsWith (rule.polled i) x (value_in new.slots i)
  takes_held old new i x cx left takes =
      let it = takes.ends.2 in
      let holds : value_in new.slots i ≡ Some it.left = ap (λ (m : Slots F). value_in m i) it.now_holds ∙ value_in-with_value takes.passed i it.value it.left (sym it.held) in
      rw holds (it.value, it.gave)

  -- a registration, and the round after it
  pub takes_after : (old new : Bounded F S) (then : S) (answer : Poll (ℕ × A)) (cx task left : Context) → source.steps.registers old.source then → source.registers_poll old.source cx task → Keeps cx task
      → TakesNames rule source (record old { source = then }) answer new task left → RegistersAndTakes rule source old answer new cx left
  takes_after old new then answer cx task left registers heard keeps takes = record {
    source_then = then;
    task_then = task;
    registers = registers;
    registers_task = heard;
    takes = takes;
    kept = λ fact holds. takes.kept fact (keeps fact holds);
  }

-- a round of a set whose task is registered already
pub takes_registered : {R F W A S : Type 0} (rule : PollOneOf R F W A) (source : ReadySourceOf S W) (old new : Bounded F S) (answer : Poll (ℕ × A)) (cx left : Context) → TakesNames rule source old answer new cx left → RegistersAndTakes rule (unless_registered true source) old answer new cx left
takes_registered {R} {F} {W} {A} {S} rule source old new answer cx left it =
    record {
      source_then = old.source;
      task_then = cx;
      registers = refl;
      registers_task = refl;
      takes = grind arith;
      kept = it.kept;
    }

module _ {R F W A S : Type 0} (rule : PollOneOf R F W A) (source : ReadySourceOf S W) (old new : Bounded F S) (cx left : Context) where
  -- a round of a set whose task is registered already leaves the task, or wakes it
  pub output_leaves : (i : ℕ) (x : A) → RegistersAndTakes rule (unless_registered true source) old (Ready (i, x)) new cx left → left ≡ cx
  output_leaves i x asks = asks.takes.ends.3 ∙ asks.registers_task

  pub pending_leaves : RegistersAndTakes rule (unless_registered true source) old Pending new cx left → (left ≡ cx) ⊎ IsWoken left
  pending_leaves asks = by_last asks.takes.last asks.takes.ends.1
    where
      by_last : (last : Option Taken) → EndsPending old.limit (length asks.takes.names) last asks.task_then left → (left ≡ cx) ⊎ IsWoken left
      by_last (Some Empty) h = inl (h.1 ∙ asks.registers_task)
      by_last (Some Pause) h = inr h.1
      by_last (Some (Slot i)) h = absurd h
      by_last None h = inr h.1

-- and so does a poll
pub poll_leaves : {R F W A S : Type 0} (rule : PollOneOf R F W A) (source : ReadySourceOf S W) (old new : Bounded F S) (answer : Poll (Option A)) (cx left : Context) → PollsBounded rule (unless_registered true source) old answer new cx left → (left ≡ cx) ⊎ IsWoken left
poll_leaves rule source old new (Ready None) cx left it = inl it.gave.2
poll_leaves rule source old new (Ready (Some x)) cx left it = inl (output_leaves rule source old it.gave.1.1 cx left it.gave.1.0 x it.gave.1.2)
poll_leaves rule source old new Pending cx left it = pending_leaves rule source old new cx left it.gave.1

-- from one round of a set that holds a value to a poll
module _ {R F W A S : Type 0} (rule : PollOneOf R F W A) (source : ReadySourceOf S W) (old new : Bounded F S) (cx left : Context) (some : 0 < held_in old) where
  pub polls_pending : RegistersAndTakes rule source old Pending new cx left → PollsBounded rule source old Pending new cx left
  polls_pending asks =
      let it = asks.takes in
      record {
        gave = (some, asks);
        fewer = tt;
        same = it.count;
        capacity = it.capacity;
        limit = it.limit;
        covered = it.covered;
        kept = asks.kept;
        pollable = it.pollable;
      }

  pub polls_output : (i : ℕ) (x : A) (before : Bounded F S) → RegistersAndTakes rule source old (Ready (i, x)) before cx left → new ≡ record before { slots = with_slot_freed before.slots i } → held_in new + 1 ≡ held_in before → slot_count new.slots ≡ slot_count before.slots → AllHeld rule.can_poll new.slots → PollsBounded rule source old (Ready (Some x)) new cx left
  polls_output i x before asks emptied fewer capacity pollable =
      let it = asks.takes in
      record {
        gave = (some, (i, before, asks, emptied));
        fewer = fewer ∙ it.count;
        same = tt;
        capacity = capacity ∙ it.capacity;
        limit = ap (λ (b : Bounded F S). b.limit) emptied ∙ it.limit;
        covered = tt;
        kept = asks.kept;
        pollable = pollable;
      }

module _ {R F W A S : Type 0} (rule : PollOneOf R F W A) (source : ReadySourceOf S W) where
  -- a poll of a set is one of a stream
  pub answers_as_stream : (old new : Bounded F S) (answer : Poll (Option A)) (cx left : Context) → PollsBounded rule source old answer new cx left
      → StreamAnswers (stream_of (λ set. AllHeld rule.can_poll set.slots) (λ set n. (0 < held_count set.slots) × source.needs set.source n) (λ set. ComesFrom rule.polled set.slots)) old answer new cx left
  answers_as_stream old new answer cx left it =
      answers_of _ old new answer cx left (value_of rule source old new answer cx left it) (rest_of rule source old new answer cx left it) (same_of rule source old new answer cx left it) it.pollable (covers_fewer answer left (source.needs new.source) _ (λ n waits. waits.1) it.covered) it.kept
