-- What a contract sees of an ordered queue, and what its calls make of it. The set that holds the futures in progress
-- may be any that takes a number with a future and returns it with the output.
use Rattle.futures_buffered_ordered.specs.Below.{FoldsTo, slice_get, Context, Poll, Ready, Pending, NewFault}
use Rattle.std.specs.Prelude.{◌≡◌, ◌≢◌, ◌⊎◌, ◌↔◌, ℕ, ◌+◌, ◌<◌, ◌≤◌, ◌==◌, Bool, true, false, List, [], ◌∷◌, ◌++◌}
use Rattle.std.specs.Prelude.{length, Option, Some, None, count_by, slice_set, Result, Err, IfErr, OnOk, OnErr, IsErr}
use Rattle.futures.specs.Task.{Covers, Keeps}
use Rattle.futures.specs.Poll.{OnPending}
use Rattle.futures.specs.Runs.{Runs, Leads, Ends}
use Rattle.futures_buffered_table.specs.declared.answer.NewFault.TheVariants.{TooLarge}
use Rattle.futures_buffered_ordered.specs.declared.numbered_polls.NumberedPolls.{Ghosts as NumberedPollsOf}
use Rattle.futures_buffered_ordered.specs.declared.ordered_entries.TheConstants.{MAX_LEN}
pub use Rattle.futures_buffered_ordered.specs.declared.numbered_set.NumberedSet.{Ghosts as NumberedSetOf}

-- an entry of a queue: its future is in progress, with this number, or its output waits for its turn
pub data Entry (A : Type 0) : Type 0 where
  Running : ℕ → Entry A
  Kept : A → Entry A

-- The set that holds the futures in progress, each with a number; the entries from the front to the back; and how many
-- entries had a place when the queue was made. An entry in progress has the number of its future.
pub record Ordered (Q A : Type 0) : Type 0 where
  pub set : Q
  pub entries : List (Entry A)
  pub room : ℕ

module _ {A : Type 0} where
  -- the entry's future is in progress
  abbrev pub is_running : Entry A → Bool
  is_running (Running _) = true
  is_running (Kept _) = false

  -- there is a front, and its future is in progress
  abbrev pub starts_running : List (Entry A) → Bool
  starts_running [] = false
  starts_running (Running _ ∷ _) = true
  starts_running (Kept _ ∷ _) = false

  -- whether an entry is in progress with number i
  abbrev pub runs_with : ℕ → Entry A → Bool
  runs_with i (Running j) = j == i
  runs_with i (Kept x) = false

  -- no entry in progress has number i
  abbrev pub IsUnused : ℕ → List (Entry A) → Type 0
  IsUnused i entries = (k : ℕ) → slice_get entries k ≢ Some (Running i)

  -- no two entries in progress have the same number
  abbrev pub NoNumberTwice : List (Entry A) → Type 0
  NoNumberTwice entries = (j k i : ℕ) → slice_get entries j ≡ Some (Running i) → slice_get entries k ≡ Some (Running i) → j ≡ k

module _ {Q A : Type 0} where
  -- each entry in progress has a future of its own in the set, with its number, and the set holds no other future
  pub record EachHasOne (with_number : ℕ → Q → ℕ) (q : Ordered Q A) : Type 0 where
    pub as_many : (i : ℕ) → with_number i q.set ≡ count_by (runs_with i) q.entries
    pub once : NoNumberTwice q.entries

  -- n is the length of a queue. Its set holds as many futures as `count` says, and as many with a number as
  -- `with_number` says.
  pub record IsLength (with_number : ℕ → Q → ℕ) (count : Q → ℕ) (q : Ordered Q A) (n : ℕ) : Type 0 where
    -- n is the number of entries
    pub value : n ≡ length q.entries
    -- each entry in progress has a future of its own
    pub each : EachHasOne with_number q
    -- there are no more futures in progress than entries
    pub in_progress : count q.set ≤ length q.entries

  -- the set is new, there is no entry, and at least `n` entries have a place
  pub record IsNewQueue (is_new : Q → Type 0) (n : ℕ) (q : Ordered Q A) : Type 0 where
    pub new_set : is_new q.set
    pub no_entries : q.entries ≡ []
    pub has_room : n ≤ q.room

  -- the queue over this set, without entries; `room` does not change
  abbrev pub without_entries : Q → Ordered Q A → Ordered Q A
  without_entries set q = record { set = set; entries = []; room = q.room }

  -- a push may fail: its entry may need an allocation, the set may refuse the future, or the queue has `MAX_LEN`
  -- entries
  abbrev pub MayRefuse : (Q → Type 0) → Ordered Q A → Type 0
  MayRefuse set_may_refuse q = (q.room ≤ length q.entries) ⊎ set_may_refuse q.set ⊎ (length q.entries ≡ MAX_LEN)

  -- such a push may fail, and the queue does not change
  abbrev pub RefusesOne : (Q → Type 0) → Ordered Q A → Ordered Q A → Type 0
  RefusesOne set_may_refuse old new = MayRefuse set_may_refuse old × (new ≡ old)

  -- the queue takes no more futures: it has `MAX_LEN` entries, or its set refuses each push
  abbrev pub QueueIsAtBound : (Q → Type 0) → Ordered Q A → Type 0
  QueueIsAtBound set_refuses q = (length q.entries ≡ MAX_LEN) ⊎ set_refuses q.set

-- A push from `old` to `new` fails, and returns `back`.
pub record HandsBack {F Q A : Type 0} (set_may_refuse : Q → Type 0) (old : Ordered Q A) (future back : F)
    (new : Ordered Q A) : Type 0 where
  -- `back` is the future of the push
  pub same : back ≡ future
  -- the queue does not change
  pub stays : new ≡ old
  -- one of the reasons of `MayRefuse` held
  pub may_refuse : MayRefuse set_may_refuse old

-- What a push at one end, from `old` to `new`, makes of a queue. `adds` says what it is to add at this end: it is
-- `AddsBack` or `AddsFront`, over the pushes of the set.
module _ {F Q A : Type 0} (adds : (Q → F → ℕ → Q → Type 0) → Ordered Q A → F → Ordered Q A → Type 0)
    (numbers : NumberedSetOf Q F) (old : Ordered Q A) (future : F) where
  -- a push that returns the future if it fails
  pub record PushesOrHandsBack (result : Result (Unit {0}) F) (new : Ordered Q A) : Type 0 where
    -- if the push succeeds, the future was added at this end
    pub pushed : OnOk result (adds numbers.pushes old future new)
    -- if the push fails, the future is returned and the queue does not change
    pub back : IfErr result (λ back. HandsBack numbers.may_refuse old future back new)
    -- the push fails if the queue takes no more futures
    pub large : QueueIsAtBound numbers.refuses old → IsErr result
    -- `keeps` holds of the set before and after
    pub set : numbers.keeps old.set new.set

  -- a push that drops the future if it fails, and returns the reason
  pub record AddsOrStays (result : Result (Unit {0}) NewFault) (new : Ordered Q A) : Type 0 where
    -- if the push succeeds, the future was added at this end
    pub pushed : OnOk result (adds numbers.pushes old future new)
    -- if the push fails, the queue does not change
    pub stays : OnErr result (new ≡ old)
    -- if the push fails, one of the reasons of `MayRefuse` held
    pub may_refuse : OnErr result (MayRefuse numbers.may_refuse old)
    -- it fails with `TooLarge` if and only if the queue takes no more futures
    pub large : (result ≡ Err TooLarge) ↔ QueueIsAtBound numbers.refuses old
    -- `keeps` holds of the set before and after
    pub set : numbers.keeps old.set new.set

module _ {F Q A : Type 0} (pushes : Q → F → ℕ → Q → Type 0) where
  -- the future was pushed into the set, with a number that no entry in progress had
  pub record PushesNumbered (old : Ordered Q A) (future : F) (i : ℕ) (new : Ordered Q A) : Type 0 where
    pub unused : IsUnused i old.entries
    pub pushed : pushes old.set future i new.set
    pub room : new.room ≡ old.room

  -- the future was pushed into the set, and its entry is after all others
  abbrev pub AddsBack : Ordered Q A → F → Ordered Q A → Type 0
  AddsBack old future new = (i : ℕ) × PushesNumbered old future i new × (new.entries ≡ old.entries ++ Running i ∷ [])

  -- the future was pushed into the set, and its entry is before all others
  abbrev pub AddsFront : Ordered Q A → F → Ordered Q A → Type 0
  AddsFront old future new = (i : ℕ) × PushesNumbered old future i new × (new.entries ≡ Running i ∷ old.entries)

  -- these futures were added at the back, in order
  abbrev pub AddsEachBack : Ordered Q A → List F → Ordered Q A → Type 0
  AddsEachBack = FoldsTo AddsBack

module _ {Q A : Type 0} (gives : Q → Poll (Option (ℕ × A)) → Q → Type 0) where
  -- The front is in progress, and the set is polled. The future with number `out.0` gives `out.1`. Its entry, at place
  -- `at`, then keeps that output.
  pub record SetYields (old : Ordered Q A) (out : ℕ × A) (new : Ordered Q A) : Type 0 where
    pub front_runs : starts_running old.entries ≡ true
    pub gave : gives old.set (Ready (Some out)) new.set
    pub at : ℕ
    pub was_running : slice_get old.entries at ≡ Some (Running out.0)
    pub entries : new.entries ≡ slice_set old.entries at (Kept out.1)
    pub room : new.room ≡ old.room

  -- How a poll ends. `None`: there is no entry, and nothing changes. `Some`: the front's output was kept, and is
  -- returned without a poll of the set. `Pending`: the front is in progress, and a poll of the set was Pending.
  abbrev pub LastStep : Ordered Q A → Poll (Option A) → Ordered Q A → Type 0
  LastStep old (Ready None) new = (old.entries ≡ []) × (new ≡ old)
  LastStep old (Ready (Some x)) new = (old.entries ≡ Kept x ∷ new.entries) × (new.set ≡ old.set) × (new.room ≡ old.room)
  LastStep old Pending new =
      (starts_running old.entries ≡ true) × gives old.set Pending new.set
      × (new.entries ≡ old.entries) × (new.room ≡ old.room)

  -- One poll: some polls of the set that each gave an output, and then the last step. Each output leaves one future
  -- fewer in progress.
  pub record OrderedGives (count : Q → ℕ) (old : Ordered Q A) (answer : Poll (Option A))
      (new : Ordered Q A) : Type 0 where
    pub yielded : List (ℕ × A)
    pub before : Ordered Q A
    pub row : FoldsTo SetYields old yielded before
    pub count_left : length yielded + count before.set ≡ count old.set
    pub last_step : LastStep before answer new

-- a queue whose set is paired with its task
abbrev pub with_task : {Q A : Type 0} → Ordered Q A → Context → Ordered (Q × Context) A
with_task q cx = record { set = (q.set, cx); entries = q.entries; room = q.room }

-- a poll of a set that is paired with its task
abbrev pub BesideTask : {Q A : Type 0} → (Q → Poll (Option (ℕ × A)) → Q → Context → Context → Type 0) → Q × Context
    → Poll (Option (ℕ × A)) → Q × Context → Type 0
BesideTask gives old answer new = gives old.0 answer new.0 old.1 new.1

-- `count` says how many futures a set holds, and `keeps` what its calls keep of it. `polls` is what its type has as
-- `NumberedPolls<R>`; the rule R says how one held future is polled.
module _ {Q R A : Type 0} (count : Q → ℕ) (keeps : Q → Q → Type 0) (polls : NumberedPollsOf Q R A) where
  -- What one poll leaves of a queue and of the task.
  pub record LeavesQueue {B : Type 0} (old : Ordered Q A) (answer : Poll B) (new : Ordered Q A) (cx left : Context)
      : Type 0 where
    -- `keeps` holds of the set before and after, and `room` does not change
    pub set : keeps old.set new.set
    pub room : new.room ≡ old.room
    -- a pending queue has a future in progress
    pub holds : OnPending answer (0 < count new.set)
    -- the task of a pending queue is registered where its set waits, or is woken
    pub covered : OnPending answer (Covers left (polls.needs new.set))
    -- the task keeps each earlier registration and wake
    pub kept : Keeps cx left
    -- each future in progress may be polled again
    pub pollable : polls.can_poll new.set

  -- One poll, which takes the queue from `old` to `new` and the task from `cx` to `left`.
  pub record PollsOrdered (old : Ordered Q A) (answer : Poll (Option A)) (new : Ordered Q A) (cx left : Context)
      : Type 0 where
    -- The result, and whether the task is woken. While the front is in progress the set is polled, and each output is
    -- kept in its entry. The result is then the front's output, `None`, or the set's Pending. Each poll of the set says
    -- whether the task is woken. A result of `None`, or of a kept output, does not change the task.
    pub gave : OrderedGives (BesideTask polls.gives) (λ set. count set.0)
        (with_task old cx) answer (with_task new left)
    -- what the poll keeps of the queue, how the task is registered, and what may be polled again
    pub queue : LeavesQueue old answer new cx left

-- an output of each element, in order, and then `None`
abbrev pub InTurn : {E A : Type 0} → (E → A → Type 0) → List E → Runs A
InTurn gives [] = Ends
InTurn gives (e ∷ es) = Leads (gives e) (InTurn gives es)

module _ {Q A : Type 0} (may_give : Q → ℕ × A → Type 0) where
  -- an entry in progress gives what the future with its number may give, and an entry with a kept output gives that
  -- output
  abbrev pub EntryGives : Q → Entry A → A → Type 0
  EntryGives set (Running i) y = may_give set (i, y)
  EntryGives set (Kept x) y = y ≡ x

  -- what a queue yields: an output of each entry, from the front to the back, and then `None`
  abbrev pub ComesInOrder : Ordered Q A → Runs A
  ComesInOrder q = InTurn (EntryGives q.set) q.entries
