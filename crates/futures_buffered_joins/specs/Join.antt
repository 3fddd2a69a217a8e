-- What a join is made of, what one poll makes of it and of its task, and what it may be ready with. A clause names the
-- set and the rule by the ghost members of their types: `Q.waiting Q.PlacedPolls R.JoinRule`.
use Rattle.std.specs.Prelude.{◌≡◌, ℕ, ◌<◌, List, [], Bool, length, map, replicate, slice_set}
use Rattle.std.specs.Prelude.{Option, Some, None, IfSome, IsSome, IsSomeAnd, Result, Ok, Err}
use Rattle.std.specs.List.{FoldsTo}
use Rattle.futures.specs.Poll.{IfReady, OnPending}
use Rattle.futures.specs.Task.{Covers, Keeps}
use Rattle.futures.specs.declared.task.context.Context.{Context}
use Rattle.futures.specs.declared.task.Poll.{Poll}
use Rattle.futures.specs.declared.task.Poll.TheVariants.{Ready, Pending}
use Rattle.futures_buffered_core.specs.Drawn.{Items}
use Rattle.futures_buffered_table.specs.declared.answer.NewFault.{NewFault}
use Rattle.futures_buffered_unordered.specs.Extended.{MakesFull}
use Rattle.futures_buffered_joins.specs.JoinRule.{Outcome}
pub use Rattle.futures_buffered_joins.specs.declared.join_rule.JoinRule.{Ghosts as JoinRuleOf}
use Rattle.futures_buffered_joins.specs.declared.outputs.Places.{Places}
use Rattle.futures_buffered_joins.specs.Outputs.{CameInOrder, MayComeAll, WaitsOrCame, output_in, waiting_count}
use Rattle.futures_buffered_joins.specs.Placed.{AnyPlaceGives, PlacedPollsOf, PollsPlaced}

-- how many places a join has; 0 once it has ended
abbrev pub join_places : {Q A : Type 0} → Option (Places Q A) → ℕ
join_places None = 0
join_places (Some places) = length places.outputs

-- the set holds these items, each at its place, and no output has come
pub record IsNewJoin {F Q A : Type 0} (holds : List F → Q → Type 0) (items : List F) (places : Places Q A) : Type 0 where
  pub waits_for : holds items places.set
  pub none_done : places.outputs ≡ replicate (length items) None

-- the result of a constructor that makes a join of items, with a place for each item
abbrev pub MakesJoin : {U F I Q A : Type 0} → Items U F I → (List F → Q → Type 0)
    → Result (Option (Places Q A)) NewFault → Type 0
MakesJoin from holds = MakesFull from join_places (λ items join. IsSomeAnd join (IsNewJoin holds items))

-- `may_give` says what the future of a place may give. `output_of` says which output is kept as a value, and which
-- output ends the join with an error.
module _ {Q O A E : Type 0} (may_give : Q → ℕ → O → Type 0) (output_of : Result A E → O) where
  -- these may be all outputs, one for each place, in order: each has come, or the future that waits at its place may
  -- give it
  abbrev pub MayBeAll : Places Q A → List A → Type 0
  MayBeAll places = MayComeAll (λ k x. may_give places.set k (output_of (Ok x))) places.outputs

  -- What a join may be ready with. A join that has ended: no outputs. Any other join: one output of each place, or an
  -- error that one of the futures may give.
  abbrev pub JoinMayGive : Option (Places Q A) → Outcome A E → Type 0
  JoinMayGive None (Ok outputs) = outputs ≡ []
  JoinMayGive None (Err e) = ⊥
  JoinMayGive (Some places) (Ok outputs) = MayBeAll places outputs
  JoinMayGive (Some places) (Err e) = AnyPlaceGives may_give places.set (output_of (Err e))

-- the result of a poll, as `seen` shows the answer in it
abbrev pub as_seen : {B C : Type 0} → (B → C) → Poll B → Poll C
as_seen seen (Ready answer) = Ready (seen answer)
as_seen seen Pending = Pending

module _
    {Q O R A E B : Type 0}
    (waiting : Q → List Bool)
    (placed : PlacedPollsOf Q O)
    (rule : JoinRuleOf R O A E B)
  where
    -- One poll of the set, by a task, gave the output of the future at this place, at which nothing had come. What is
    -- kept of the output fills the place. The other places do not change.
    pub record Fills (old : Places Q A × Context) (filled : ℕ × A) (new : Places Q A × Context) : Type 0 where
      pub gave : PollsPlaced waiting placed old.0.set (Ready (filled.0, rule.output_of (Ok filled.1))) new.0.set old.1 new.1
      pub was_waiting : output_in old.0.outputs filled.0 ≡ None
      pub now_done : new.0.outputs ≡ slice_set old.0.outputs filled.0 (Some filled.1)

    -- one poll of the set gave an output that ends the join with this error
    abbrev pub Fails : Places Q A → Context → Context → E → Type 0
    Fails before cx left e = (place : ℕ) × (after : Q)
        × PollsPlaced waiting placed before.set (Ready (place, rule.output_of (Err e))) after cx left

    -- a future waits, one poll of the set was Pending, and the outputs do not change
    pub record PollsPending (before new : Places Q A) (cx left : Context) : Type 0 where
      pub some_waiting : 0 < waiting_count (waiting before.set)
      pub is_pending : PollsPlaced waiting placed before.set Pending new.set cx left
      pub same_outputs : new.outputs ≡ before.outputs

    -- Some outputs came, in order, and filled their places. Then the poll ended, and `ends` holds of the join and the
    -- task as these outputs left them.
    pub record FillsThen (ends : Places Q A → Context → Type 0) (old : Places Q A) (cx : Context) : Type 0 where
      pub row : List (ℕ × A)
      pub before : Places Q A
      pub between : Context
      pub filled : FoldsTo Fills (old, cx) row (before, between)
      pub ended : ends before between

    -- How a poll ends, by its result, from the join and the task in the last two arguments. `Ok`: no future waits, all
    -- outputs are returned, in the order of their places, the join has ended, and the task does not change. `Err`: a
    -- future gave this error, and the join has ended, whatever it waited for. `Pending`: a poll of the set was Pending,
    -- and says whether the task is woken.
    abbrev pub EndsJoin : Poll (Outcome A E) → Option (Places Q A) → Context → Places Q A → Context → Type 0
    EndsJoin (Ready (Ok outputs)) new left before cx = (waiting_count (waiting before.set) ≡ 0)
        × (before.outputs ≡ map Some outputs) × (new ≡ None) × (left ≡ cx)
    EndsJoin (Ready (Err e)) new left before cx = Fails before cx left e × (new ≡ None)
    EndsJoin Pending new left before cx = IsSomeAnd new (λ now. PollsPending before now cx left)

    -- What a poll of a join returns. If the join has ended: no outputs, at once, and the task does not change.
    -- Otherwise: some outputs come, and then the poll ends.
    abbrev pub JoinGives : Option (Places Q A) → Poll (Outcome A E) → Option (Places Q A) → Context → Context → Type 0
    JoinGives None (Ready (Ok outputs)) new cx left = (outputs ≡ []) × (new ≡ None) × (left ≡ cx)
    JoinGives None (Ready (Err e)) new cx left = ⊥
    JoinGives None Pending new cx left = ⊥
    JoinGives (Some old) answer new cx left = FillsThen (EndsJoin answer new left) old cx

    -- One poll of a join, which takes the join from `old` to `new` and the task from `cx` to `left`.
    pub record PollsJoin (old : Option (Places Q A)) (answer : Poll B) (new : Option (Places Q A))
        (cx left : Context) : Type 0 where
      -- the result, and whether the task is woken
      pub gave : JoinGives old (as_seen rule.seen answer) new cx left
      -- the join is ready only with what it might be ready with before, and then holds nothing more
      pub value : IfReady answer (λ x. JoinMayGive placed.may_give rule.output_of old (rule.seen x))
      pub ended : IfReady answer (λ _. new ≡ None)
      -- a pending poll adds nothing to what the join may be ready with
      pub same : OnPending answer ((x : Outcome A E)
          → JoinMayGive placed.may_give rule.output_of new x → JoinMayGive placed.may_give rule.output_of old x)
      -- the task of a pending join is registered where its set waits, or is woken
      pub registered : OnPending answer (Covers left (λ n. IsSomeAnd new (λ places. placed.needs places.set n)))
      -- the task keeps each earlier registration and wake
      pub kept : Keeps cx left
      -- each future that a pending join waits for may be polled again
      pub again : OnPending answer (IfSome new (λ places. placed.can_poll places.set))
      -- a pending join waits at exactly those places at which no output has come
      pub places : OnPending answer (IfSome new (λ places. WaitsOrCame (waiting places.set) places.outputs))

    -- What the polls of the set in one poll of a join make of its places, from `old` to `new`. `Ok`: each output has
    -- come. `Ok` and `Err`: the poll may return any answer that shows all outputs, or the error.
    abbrev pub FillsUntil : Places Q A → Poll (Result (Unit {0}) E) → Places Q A → Context → Context → Type 0
    FillsUntil old (Ready (Ok done)) new cx left =
        ((k : ℕ) → k < length new.outputs → IsSome (output_in new.outputs k))
        × ((answer : B) (outputs : List A) → new.outputs ≡ map Some outputs → rule.seen answer ≡ Ok outputs
        → PollsJoin (Some old) (Ready answer) None cx left)
    FillsUntil old (Ready (Err e)) new cx left = (answer : B) → rule.seen answer ≡ Err e
        → PollsJoin (Some old) (Ready answer) None cx left
    FillsUntil old Pending new cx left = PollsJoin (Some old) Pending (Some new) cx left

    -- a poll of the join, by some task, was Pending, and led from `old` to `new`
    abbrev pub StaysPending : Places Q A → Places Q A → Places Q A → Type 0
    StaysPending old left new = (cx : Context) × (after : Context)
        × JoinGives (Some old) Pending (Some left) cx after × (new ≡ left)

    -- After any pending polls, a join of these items may be ready only with one output of each item, each at its item's
    -- place.
    abbrev pub JoinsByPlace : {F : Type 0} → (List F → Q → Type 0) → (ℕ → F → O → Type 0) → Type 0
    JoinsByPlace {F} holds item_gives = (items : List F) (first last : Places Q A)
        (later : List (Places Q A)) (outputs : List A)
        → IsNewJoin holds items first
        → FoldsTo StaysPending first later last
        → JoinMayGive placed.may_give rule.output_of (Some last) (Ok outputs)
        → CameInOrder (λ k item x. item_gives k item (rule.output_of (Ok x))) items outputs
