-- What holds after every poll holds after each answer.
use Rattle.futures_buffered_unordered.proofs.Common.{arith, ℕ, [], Option, IfSome, OnSome, Covers, Keeps, IfReady, OnPending, After, Within, StreamAnswers, StreamOf, Context, Poll, Ready, Pending}

pub after_item : {A P : Type 0} (answer : Poll (Option A)) → P → IfReady answer (λ o. OnSome o P)
after_item answer p = grind arith

pub while_pending : {B P : Type 0} (answer : Poll B) → P → OnPending answer P
while_pending answer p = grind arith

-- a task that hears of some places hears of fewer
pub covers_fewer : {B : Type 0} (answer : Poll B) (cx : Context) (needs fewer : ℕ → Type 0) → ((n : ℕ) → fewer n → needs n) → OnPending answer (Covers cx needs) → OnPending answer (Covers cx fewer)
covers_fewer (Ready x) cx needs fewer within h = tt
covers_fewer Pending cx needs fewer within h = (h.0, λ n waits. h.1 n (within n waits))

-- one poll of a stream that may be polled again after any answer
pub answers_of : {T A : Type 0} (stream : StreamOf T A) (old new : T) (answer : Poll (Option A)) (cx left : Context) → IfReady answer (stream.yields old []) → IfReady answer (λ o. IfSome o (λ x. After (stream.yields old) x (stream.yields new))) → OnPending answer (Within (stream.yields old) (stream.yields new))
    → stream.can_poll new → OnPending answer (Covers left (stream.needs new)) → Keeps cx left → StreamAnswers stream old answer new cx left
answers_of stream old new answer cx left value rest same pollable registered kept =
    record {
      value = value;
      rest = rest;
      same = same;
      goes = after_item answer pollable;
      again = while_pending answer pollable;
      registered = registered;
      kept = kept;
    }
