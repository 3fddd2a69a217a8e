-- One poll of a future that takes some turns.
use Rattle.futures_buffered.specs.Below.{FoldsTo, Covers, Keeps, Context, Poll, Pending, IfReady, OnPending, IsWoken}
use Rattle.std.specs.Prelude.{◌≡◌, ◌⊎◌, ℕ, ◌<◌, List, length, Option, Some, None, IfSome}

-- What a future says of its polls.
pub record TurnsOf (V A : Type 0) : Type 1 where
  -- the future may be polled
  pub can_poll : V → Type 0
  -- the places of a task's wakes at which a pending future waits
  pub needs : V → ℕ → Type 0
  -- what the future may give
  pub gives : V → A → Type 0
  -- what holds of the future once it was ready
  pub is_over : V → Type 0
  -- how many turns one poll takes at most
  pub limit : V → ℕ
  -- one turn: the future before, the answer if the poll ends with this turn, the future after, and the task before and
  -- after
  pub turns : V → Option (Poll A) → V → Context → Context → Type 0

-- the result of a poll so far: `Pending` as long as another turn may follow
abbrev pub so_far : {A : Type 0} → Option (Poll A) → Poll A
so_far None = Pending
so_far (Some answer) = answer

module _ {V A : Type 0} (future : TurnsOf V A) where
  -- What a turn, or the whole poll, leaves of a future and of its task.
  pub record TurnLeaves (old : V) (answer : Poll A) (new : V) (cx left : Context) : Type 0 where
    -- if the poll is ready, the answer is one that the future might give, and the future is over
    pub value : IfReady answer (future.gives old)
    pub ended : IfReady answer (λ _. future.is_over new)
    -- if the poll is pending, the future may give only what it might have given before, and may be polled again
    pub same : OnPending answer ((x : A) → future.gives new x → future.gives old x)
    pub again : OnPending answer (future.can_poll new)
    -- the limit does not change
    pub limit : future.limit new ≡ future.limit old
    -- the task keeps each earlier registration and wake
    pub kept : Keeps cx left

  -- One turn, which takes a future from `old` to `new` and the task from `cx` to `left`.
  pub record TakesTurn (old : V) (result : Option (Poll A)) (new : V) (cx left : Context) : Type 0 where
    -- what the turn makes, in the words of the future
    pub turn : future.turns old result new cx left
    -- what the turn leaves
    pub leaves : TurnLeaves old (so_far result) new cx left
    -- if the turn ends a pending poll, the task is registered where the future waits, or is woken
    pub registered : IfSome result (λ answer. OnPending answer (Covers left (future.needs new)))

  -- One poll, which takes a future from `old` to `new` and the task from `cx` to `left`.
  pub record PollsInTurns (old : V) (answer : Poll A) (new : V) (cx left : Context) : Type 0 where
    -- some turns, after each of which another may follow
    pub turns : List (Unit {0})
    pub before : V × Context
    pub row : FoldsTo (λ old _ new. future.turns old.0 None new.0 old.1 new.1) (old, cx) turns before
    -- The poll ends with one more turn. Or the limit is reached, and the poll ends without one: then the poll is
    -- pending and the task is woken. The limit is at least one turn.
    pub ends : ((length turns < future.limit old) × future.turns before.0 (Some answer) new before.1 left)
        ⊎ ((length turns ≡ future.limit old) × (answer ≡ Pending) × (new ≡ before.0) × IsWoken left)
    pub some : 0 < future.limit old
    -- what stays, what the future may give, and that a pending future may be polled again
    pub leaves : TurnLeaves old answer new cx left
    -- the task of a pending future is registered where the future waits, or is woken
    pub registered : OnPending answer (Covers left (future.needs new))
