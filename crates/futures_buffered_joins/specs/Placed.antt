-- What one poll of a set of futures, each at a place of its own, returns and leaves.
use Rattle.std.specs.Prelude.{◌≡◌, ℕ, Bool, true, false, List, slice_index_or, slice_set}
use Rattle.futures.specs.Poll.{IfReady, OnPending}
use Rattle.futures.specs.Task.{Covers, Keeps}
use Rattle.futures.specs.declared.task.context.Context.{Context}
use Rattle.futures.specs.declared.task.Poll.{Poll}
use Rattle.futures.specs.declared.task.Poll.TheVariants.{Ready, Pending}
pub use Rattle.futures_buffered_joins.specs.declared.placed_set.PlacedPolls.{Ghosts as PlacedPollsOf}

-- An output frees the place at which its future waited, and no other. A pending poll frees none.
abbrev pub FreesPlace : {O : Type 0} → List Bool → Poll (ℕ × O) → List Bool → Type 0
FreesPlace before (Ready came) after = (slice_index_or before came.0 false ≡ true)
    × (after ≡ slice_set before came.0 false)
FreesPlace before Pending after = after ≡ before

-- the future of some place may give x
abbrev pub AnyPlaceGives : {Q O : Type 0} → (Q → ℕ → O → Type 0) → Q → O → Type 0
AnyPlaceGives may_give set x = (k : ℕ) × may_give set k x

-- `waiting` says at which places futures wait. A clause names it, and the polls, by the ghost members of the set's
-- type: `Q.waiting Q.PlacedPolls`
module _ {Q O : Type 0} (waiting : Q → List Bool) (placed : PlacedPollsOf Q O) where
  -- One poll, which takes the set from `old` to `new` and the task from `cx` to `left`.
  pub record PollsPlaced (old : Q) (answer : Poll (ℕ × O)) (new : Q) (cx left : Context) : Type 0 where
    -- the result, and whether the task is woken, in the words of the set's own poll
    pub gave : placed.gives old answer new cx left
    -- an output frees its place, and a pending poll frees none
    pub frees : FreesPlace (waiting old) answer (waiting new)
    -- an output is one that the future at its place might give
    pub own : IfReady answer (λ came. placed.may_give old came.0 came.1)
    -- no future may give what it could not give before
    pub narrows : (k : ℕ) (x : O) → placed.may_give new k x → placed.may_give old k x
    -- the task of a pending set is registered where the set waits, or is woken
    pub registered : OnPending answer (Covers left (placed.needs new))
    -- the task keeps each earlier registration and wake
    pub kept : Keeps cx left
    -- each future that waits may be polled again
    pub again : placed.can_poll new
