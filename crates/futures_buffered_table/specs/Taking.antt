-- The shapes of a dequeue: which steps it makes, with what was found, for each result. There is no other shape. In
-- each, `h` is the poller's head before these steps, and `head` its head after them.
use Rattle.std.specs.Prelude.{◌≡◌, ◌≢◌, ◌<◌, ◌≤◌, ◌⊎◌, ℕ, suc, List, [], ◌∷◌, ◌++◌}
use Rattle.futures_buffered_table.specs.Types.{Taken, Slot, Empty, Pause, AtomicStep, LinkClear, TailSwap, LinkWrite}
use Rattle.futures_buffered_table.specs.Types.{LinkRead, TailRead, Unmark, Start, Moved, StubLinked, Polls, View}
use Rattle.atomic_table.specs.declared.shared.Seat.{Seat}
use Rattle.futures_buffered_table.specs.ReadyList.{AddsSteps, IsInRole, ListIdentity}

-- the seat is to read the link of its head, a slot: the head moved there from the stub, or the stub is after it now
abbrev pub ReadsSlot : ListIdentity → ℕ → Seat ℕ View → Type 0
ReadsSlot list head seat = IsInRole list (Polls head Moved) seat ⊎ IsInRole list (Polls head StubLinked) seat

-- the link of `h` points to the entry `head`: the slot `h` is returned, and its unmark is the last step
abbrev pub IsHanded : ℕ → List AtomicStep → Taken → ℕ → Type 0
IsHanded h shape answer head = (shape ≡ LinkRead h (suc head) ∷ Unmark h ∷ []) × (answer ≡ Slot h)

-- the stub is after the slot `h`, whose link is read again: it points to no entry, or `h` is returned
abbrev pub IsReadAgain : ℕ → List AtomicStep → Taken → ℕ → Type 0
IsReadAgain h shape answer head =
    ((shape ≡ LinkRead h 0 ∷ []) × (answer ≡ Pause) × (head ≡ h)) ⊎ IsHanded h shape answer head

-- `h` is a slot whose link pointed to no entry, and the tail is another entry
abbrev pub IsBeforeTail : ℕ → List AtomicStep → Taken → ℕ → Type 0
IsBeforeTail h shape answer head = (t : ℕ) × (t ≢ h) × (shape ≡ TailRead t ∷ []) × (answer ≡ Pause) × (head ≡ h)

-- `h` is a slot whose link pointed to no entry, and is the tail: the stub is enqueued after it
abbrev pub IsAtTail : ℕ → ℕ → List AtomicStep → Taken → ℕ → Type 0
IsAtTail n h shape answer head = (p : ℕ) × (rest : List AtomicStep)
    × (shape ≡ TailRead h ∷ LinkClear n ∷ TailSwap n p ∷ LinkWrite p n ∷ rest)
    × IsReadAgain h rest answer head

-- `h` is a slot, and its link pointed to no entry
abbrev pub IsAtLast : ℕ → ℕ → List AtomicStep → Taken → ℕ → Type 0
IsAtLast n h shape answer head = IsBeforeTail h shape answer head ⊎ IsAtTail n h shape answer head

-- h is a slot
abbrev pub IsFromSlot : ℕ → ℕ → List AtomicStep → Taken → ℕ → Type 0
IsFromSlot n h shape answer head = IsHanded h shape answer head
    ⊎ ((rest : List AtomicStep) × (shape ≡ LinkRead h 0 ∷ rest) × IsAtLast n h rest answer head)

-- the head is the stub, and its link points to no entry: Empty if the tail is the stub too, otherwise Pause
abbrev pub IsAtStub : ℕ → List AtomicStep → Taken → ℕ → Type 0
IsAtStub n shape answer head = (t : ℕ) × (shape ≡ LinkRead n 0 ∷ TailRead t ∷ []) × (head ≡ n)
    × (((t ≡ n) × (answer ≡ Empty)) ⊎ ((t ≢ n) × (answer ≡ Pause)))

-- the head is the stub, and moves to the slot to which its link points
abbrev pub IsFromStub : ℕ → List AtomicStep → Taken → ℕ → Type 0
IsFromStub n shape answer head = (q : ℕ) × (rest : List AtomicStep)
    × (shape ≡ LinkRead n (suc q) ∷ rest) × IsFromSlot n q rest answer head

-- a whole dequeue: `h` is the stub or a slot
abbrev pub IsTaking : ℕ → ℕ → List AtomicStep → Taken → ℕ → Type 0
IsTaking n h shape answer head = ((h ≡ n) × IsAtStub n shape answer head)
    ⊎ ((h ≡ n) × IsFromStub n shape answer head) ⊎ ((h ≢ n) × IsFromSlot n h shape answer head)

-- How a dequeue changes what it calls before it can return Empty; the seat had made the steps `made`. If the dequeue
-- returns no slot and its head is the stub, entry n, there is one call, as `leaves` says. Otherwise there is none. The
-- call comes after the link of the stub is read, and before any other step.
abbrev pub CallsAtStub : {B : Type 0} → (List AtomicStep → B → B → Type 0) → ℕ → List AtomicStep
    → Taken → ℕ → B → B → Type 0
CallsAtStub leaves n made (Slot i) head before after = after ≡ before
CallsAtStub leaves n made Empty head before after = leaves (made ++ LinkRead n 0 ∷ []) before after
CallsAtStub leaves n made Pause head before after =
    ((head ≡ n) × leaves (made ++ LinkRead n 0 ∷ []) before after)
    ⊎ ((head ≢ n) × (after ≡ before))

-- What the part of a dequeue leaves that continues from the slot `h` at the head; its steps have this shape. The part
-- returns the head after it, and what the dequeue returns.
pub record TakesFromSlot
    (list : ListIdentity)
    (h : ℕ)
    (has_shape : ℕ → ℕ → List AtomicStep → Taken → ℕ → Type 0)
    (old : Seat ℕ View)
    (result : ℕ × Taken)
    (new : Seat ℕ View)
    : Type 0 where
  -- the seat is between two dequeues, and its head is an entry
  pub role : IsInRole list (Polls result.0 Start) new × (result.0 ≤ list.capacity)
  -- the dequeue does not return Empty
  pub never : result.1 ≢ Empty
  -- if it returns Pause, the head does not change
  pub stays : result.1 ≡ Pause → result.0 ≡ h
  -- a slot that it returns is below the capacity
  pub named : (slot : ℕ) → result.1 ≡ Slot slot → slot < list.capacity
  -- the steps that it made
  pub shape : (shape : List AtomicStep) × AddsSteps old new shape × has_shape list.capacity h shape result.1 result.0
