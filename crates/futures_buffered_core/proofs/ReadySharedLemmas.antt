-- What a dequeue of a shared source returns, and what its poller does at the place.
use Rattle.futures_buffered_core.proofs.Common.{◌≡◌, ℕ, ◌<◌, List, length, ap, arith, Taken, Slot, Empty, Pause, AtomicStep, CallsAtStub, IsNameBelow, GivesUp, Poller, PublishesOwn, publisher_of}
use mathlib.Core.Logic.{inl, inr}

-- a taking that names only slots below n, told of what n is
pub name_below : (n m : ℕ) (taken : Taken) → ((slot : ℕ) → taken ≡ Slot slot → slot < n) → n ≡ m → IsNameBelow m taken
name_below n m taken below same = grind arith

module _ {O : Type 0} where
  -- if the side publishes its waker, so does the publisher that the source shows
  own_shown : (made : ℕ) (old new : Poller O) → GivesUp made old new → PublishesOwn made (publisher_of old) (publisher_of new)
  own_shown made old new gives = (gives.2, (old.alone, gives.3))

  -- what the side does in a dequeue, as a source shows it
  pub calls_shown : (n : ℕ) (made : List AtomicStep) (taken : Taken) (head : ℕ) (old new : Poller O)
      → CallsAtStub (λ steps before after. GivesUp (length steps) before after) n made taken head old new
      → CallsAtStub (λ steps. PublishesOwn (length steps)) n made taken head (publisher_of old) (publisher_of new)
  calls_shown n made (Slot i) head old new same = ap publisher_of same
  calls_shown n made Empty head old new gives = own_shown _ old new gives
  calls_shown n made Pause head old new (inl (at, gives)) = inl (at, own_shown _ old new gives)
  calls_shown n made Pause head old new (inr (away, same)) = inr (away, ap publisher_of same)
