-- A poll of a future with the number of its entry, and how many futures of a bounded set have a number. Then what the
-- calls of any set of such futures make of it.
use Rattle.futures_buffered_ordered.specs.Below.{Context, Poll, Ready, Pending, Bounded, PollOneOf}
use Rattle.std.specs.Prelude.{◌≡◌, ℕ, ◌+◌, ◌==◌, cond, Bool, false, Option, Some, None, count_by, IfNone}
use Rattle.futures.specs.Task.{Covers, Keeps}
use Rattle.futures.specs.Poll.{IfReady, OnPending}
use Rattle.futures_buffered_unordered.specs.Groups.{outputs_in}
use Rattle.futures_buffered_ordered.specs.declared.numbered.Numbered.{Numbered}
use Rattle.futures_buffered_ordered.specs.declared.numbered.PollNumbered.{PollNumbered}
pub use Rattle.futures_buffered_ordered.specs.declared.numbered_polls.NumberedPolls.{Ghosts as NumberedPollsOf}

-- the future may be polled
abbrev pub CanPollFuture : {F : Type 0} → (F → Type 0) → Numbered F → Type 0
CanPollFuture can_poll numbered = can_poll numbered.future

-- the future is polled, and its number does not change; an output comes with the number
abbrev pub PollsNumbered : {F A : Type 0} → (ℕ → F → Poll A → F → Type 0) → ℕ → Numbered F
    → Poll (ℕ × A) → Numbered F → Type 0
PollsNumbered polled slot old Pending new = polled slot old.future Pending new.future × (new.number ≡ old.number)
PollsNumbered polled slot old (Ready (i, x)) new =
    polled slot old.future (Ready x) new.future × (new.number ≡ old.number) × (i ≡ old.number)

-- the rule, for futures with a number
abbrev pub of_numbered : {R F W A : Type 0} → PollOneOf R F W A → PollOneOf (PollNumbered R) (Numbered F) W (ℕ × A)
of_numbered rule = record {
  can_poll = CanPollFuture rule.can_poll;
  polled = PollsNumbered rule.polled;
  goes_on = λ _. ⊥;
}

-- whether a slot holds a future with number i
abbrev pub has_number : {F : Type 0} → ℕ → Option (Numbered F) → Bool
has_number i None = false
has_number i (Some numbered) = numbered.number == i

-- how many futures with number i a bounded set holds
abbrev pub held_with : {F S : Type 0} → ℕ → Bounded (Numbered F) S → ℕ
held_with i set = count_by (has_number i) set.slots.places

-- 1 if the number is i, otherwise 0
abbrev pub one_at : ℕ → ℕ → ℕ
one_at i j = cond (j == i) 1 0

-- how many outputs with number i a result has
abbrev pub outputs_with : {A : Type 0} → ℕ → Poll (Option (ℕ × A)) → ℕ
outputs_with i Pending = 0
outputs_with i (Ready None) = 0
outputs_with i (Ready (Some out)) = one_at i out.0

-- A push put the value, which has a number, into a set, and took the set from `old` to `new`.
pub record PushesInto {F Q : Type 0} (pushes : Q → F → ℕ → Q → Type 0) (count : Q → ℕ) (with_number : ℕ → Q → ℕ)
    (keeps : Q → Q → Type 0) (old : Q) (value : Numbered F) (new : Q) : Type 0 where
  -- the future was pushed, with its number
  pub went_in : pushes old value.future value.number new
  -- the set holds one future more
  pub one_more : count new ≡ count old + 1
  -- one more future has this number, and of each other number there are as many as before
  pub numbers : (i : ℕ) → with_number i new ≡ with_number i old + one_at i value.number
  -- `keeps` holds of the set before and after
  pub set : keeps old new

-- One poll of a set of numbered futures, which takes the set from `old` to `new` and the task from `cx` to `left`.
-- `polls` is what the set's type has as `NumberedPolls<R>`. `count` says how many futures the set holds, and
-- `with_number` how many with a number. `keeps` says what its calls keep of it.
pub record PollsNumberedSet {Q R A : Type 0} (polls : NumberedPollsOf Q R A) (count : Q → ℕ) (with_number : ℕ → Q → ℕ)
    (keeps : Q → Q → Type 0) (old : Q) (answer : Poll (Option (ℕ × A))) (new : Q) (cx left : Context) : Type 0 where
  -- the result, and whether the task is woken
  pub gave : polls.gives old answer new cx left
  -- the result is `None` only if the set was empty
  pub empty : IfReady answer (λ o. IfNone o (count old ≡ 0))
  -- an output leaves one future fewer, and any other result leaves as many as before
  pub fewer : count new + outputs_in answer ≡ count old
  -- the number of an output leaves with it, and of each other number there are as many as before
  pub numbers : (i : ℕ) → with_number i new + outputs_with i answer ≡ with_number i old
  -- `keeps` holds of the set before and after
  pub set : keeps old new
  -- the task of a pending set is registered where the set waits, or is woken
  pub covered : OnPending answer (Covers left (polls.needs new))
  -- the task keeps each earlier registration and wake
  pub kept : Keeps cx left
  -- each future in the set may be polled again
  pub pollable : polls.can_poll new
