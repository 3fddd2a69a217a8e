-- What a push leaves of a queue of futures, and what a poll makes of it and of the task.
use Rattle.futures_buffered.specs.Below.{Context, Poll, Pending, Ready, StreamAnswers}
use Rattle.std.specs.Prelude.{◌≡◌, ℕ, ◌+◌, ◌<◌, ◌≤◌, List, Option, Some, None, IfSome, IfNone, OnSome, Bool, true}
use Rattle.std.specs.Prelude.{false, ◌⊎◌}
use Rattle.futures.specs.Runs.{Runs, Within, Leads, Chains, Ends}
use Rattle.futures_buffered_unordered.specs.StreamAnswers.{StreamOf}

-- `x` may come, at once or after other outputs
abbrev pub MayCome : {A : Type 0} → Runs A → A → Type 0
MayCome {A} source x = (before : List A) × source before (Some x)

-- one more output may come, of which `P` holds: after all others if the order is kept, otherwise at any place
abbrev pub AddsOutput : {A : Type 0} → Bool → Runs A → (A → Type 0) → Runs A → Type 0
AddsOutput true old P new = Within (Chains old (Leads P Ends)) new
AddsOutput {A = A} false old P new = (x : A) → MayCome new x → MayCome old x ⊎ P x

-- a push of a queue whose pushes return no answer
abbrev pub OnlyPushes : {F A Q : Type 0} → (Q → F → Q → Type 0) → Q → F → Option A → Q → Type 0
OnlyPushes pushes old item None new = pushes old item new
OnlyPushes pushes old item (Some answer) new = ⊥

-- What a push leaves of what a queue holds. `given` is the answer that the push returned, if any. `count` says how many
-- the queue holds, and `room` how many it can hold.
pub record PushLeavesQueue {A Q : Type 0} (count room : Q → ℕ) (old : Q) (given : Option A) (new : Q) : Type 0 where
  -- without an answer, the queue holds one more
  pub one_more : IfNone given (count new ≡ count old + 1)
  -- with an answer, the queue does not change
  pub stays : OnSome given (new ≡ old)
  -- the queue can hold as many as before
  pub same_room : room new ≡ room old

-- What a push adds to what may come from a queue, which `yields` says. `item_gives` holds of what the item may give.
pub record PushAddsOutput {A Q : Type 0} (in_order : Bool) (yields : Q → Runs A) (item_gives : A → Type 0) (old : Q)
    (given : Option A) (new : Q) : Type 0 where
  -- without an answer, an output of the item may come, in addition to those that might come before
  pub adds : IfNone given (AddsOutput in_order (yields old) item_gives (yields new))
  -- an answer is one that the item may give
  pub value : IfSome given item_gives
  -- an answer comes before what is held, so the queue does not keep the order
  pub overtakes : OnSome given (in_order ≡ false)

-- how many a poll leaves held, by its answer: it returns `None` if nothing is held, and changes nothing then
abbrev pub LeavesHeld : {A Q : Type 0} → (Q → ℕ) → Q → Poll (Option A) → Q → Type 0
LeavesHeld count old (Ready None) new = (count old ≡ 0) × (new ≡ old)
LeavesHeld count old (Ready (Some _)) new = count new + 1 ≡ count old
LeavesHeld count old Pending new = (count new ≡ count old) × (0 < count new)

-- One poll, which takes a queue from `old` to `new` and the task from `cx` to `left`. `polls` is what the queue says of
-- each of its polls, `count` says how many it holds, and `room` how many it can hold. `stream` has its ghost members as
-- a stream.
pub record PollsFutureQueue {A Q : Type 0} (polls : Q → Poll (Option A) → Q → Context → Context → Type 0)
    (count room : Q → ℕ) (stream : StreamOf Q A) (old : Q) (answer : Poll (Option A)) (new : Q) (cx left : Context)
    : Type 0 where
  -- what the poll returns, and what it makes of the queue and of the task, by the queue's own relation
  pub polled : polls old answer new cx left
  pub counts : LeavesHeld count old answer new
  -- the queue can hold as many as before, and at least one
  pub same_room : room new ≡ room old
  pub some : 0 < room new
  -- the queue holds no more than that
  pub bound : count new ≤ room new
  -- as a stream: what may come, where the task is registered, and that the queue may be polled again after an output or
  -- `Pending`
  pub as_stream : StreamAnswers stream old answer new cx left
