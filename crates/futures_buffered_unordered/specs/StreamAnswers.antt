-- What `futures` requires of each poll of a stream.
use Rattle.std.specs.Prelude.{[], ℕ, Option, IfSome, OnSome}
use Rattle.futures.specs.Task.{Covers, Keeps}
use Rattle.futures.specs.Runs.{Runs, After, Within}
use Rattle.futures.specs.Poll.{IfReady, OnPending}
use Rattle.futures.specs.declared.task.context.Context.{Context}
use Rattle.futures.specs.declared.task.Poll.{Poll}
pub use Rattle.futures.specs.declared.stream.Stream.{Ghosts as StreamOf}

-- the ghost members of a stream, for a value that is polled as one but has no impl
abbrev pub stream_of : {T A : Type 0} → (T → Type 0) → (T → ℕ → Type 0) → (T → Runs A) → StreamOf T A
stream_of can_poll needs yields = record { can_poll = can_poll; needs = needs; yields = yields }

-- one poll as this relation says, of some task
abbrev pub OfSomeTask : {Q B : Type 0} → (Q → B → Q → Context → Context → Type 0) → Q → B → Q → Type 0
OfSomeTask polls old answer new = (cx : Context) × (left : Context) × polls old answer new cx left

-- One poll, which takes a stream from `old` to `new` and the task from `cx` to `left`. A clause names the stream by the
-- ghost members of its type: `⟦<FuturesUnordered<F, S> as Stream>⟧`.
pub record StreamAnswers
    {T A : Type 0}
    (stream : StreamOf T A)
    (old : T)
    (answer : Poll (Option A))
    (new : T)
    (cx left : Context)
    : Type 0 where
  -- the result is one that might come first from `old`
  pub value : IfReady answer (stream.yields old [])
  -- whatever may come from `new` after an item might have come from `old`, after that item
  pub rest : IfReady answer (λ o. IfSome o (λ x. After (stream.yields old) x (stream.yields new)))
  -- whatever may come from `new` after a pending poll might have come from `old`
  pub same : OnPending answer (Within (stream.yields old) (stream.yields new))
  -- the stream may be polled again after an item
  pub goes : IfReady answer (λ o. OnSome o (stream.can_poll new))
  -- the stream may be polled again after a pending poll
  pub again : OnPending answer (stream.can_poll new)
  -- the task of a pending stream is registered where the stream waits, or is woken
  pub registered : OnPending answer (Covers left (stream.needs new))
  -- the task keeps each earlier registration and wake
  pub kept : Keeps cx left
