-- What one atomic step of a seat does, over words and a view. It changes one word and the role of the seat, and returns
-- a reply. The entries are the slots 0 to n - 1 and the stub, entry n. A link is 0 for none, or k + 1 for the entry k.
use Rattle.std.specs.Prelude.{ℕ, zero, suc, ◌+◌, ◌≤◌, ◌==◌, [], ◌∷◌, ◌++◌, if◌then◌else◌}
use Rattle.futures_buffered_table.specs.Types.{Fresh, Already, Slot, Empty, Pause, AtomicStep, MarkSwap, LinkClear}
use Rattle.futures_buffered_table.specs.Types.{TailSwap, LinkWrite, LinkRead, TailRead, Unmark, Phase, Start, AtStub}
use Rattle.futures_buffered_table.specs.Types.{Moved, NoNext, Last, StubCleared, StubPut, StubLinked, InHand, Role}
use Rattle.futures_buffered_table.specs.Types.{Idle, Won, Cleared, Swapped, Polls, View, StepReply, More}
use Rattle.futures_buffered_table.specs.declared.step.StepReply.TheVariants.{Woke, Taken}
use Rattle.futures_buffered_table.specs.Words.{tail_at}

-- the word that a step of a seat in this role changes; `slot` is the slot that an idle seat is to wake
abbrev pub word_of_role : ℕ → ℕ → Role → ℕ
word_of_role n slot Idle = slot
word_of_role n slot (Won e) = n + e
word_of_role n slot (Cleared e) = tail_at n
word_of_role n slot (Swapped e p) = n + p
word_of_role n slot (Polls h Start) = n + h
word_of_role n slot (Polls h AtStub) = tail_at n
word_of_role n slot (Polls h Moved) = n + h
word_of_role n slot (Polls h NoNext) = tail_at n
word_of_role n slot (Polls h Last) = n + n
word_of_role n slot (Polls h StubCleared) = tail_at n
word_of_role n slot (Polls h (StubPut p)) = n + p
word_of_role n slot (Polls h StubLinked) = n + h
word_of_role n slot (Polls h (InHand e)) = e

-- what that word becomes, by what was found there; a read does not change it
abbrev pub put_by_role : ℕ → Role → ℕ → ℕ
put_by_role n Idle found = 1
put_by_role n (Won e) found = 0
put_by_role n (Cleared e) found = e
put_by_role n (Swapped e p) found = suc e
put_by_role n (Polls h Start) found = found
put_by_role n (Polls h AtStub) found = found
put_by_role n (Polls h Moved) found = found
put_by_role n (Polls h NoNext) found = found
put_by_role n (Polls h Last) found = 0
put_by_role n (Polls h StubCleared) found = n
put_by_role n (Polls h (StubPut p)) found = suc n
put_by_role n (Polls h StubLinked) found = found
put_by_role n (Polls h (InHand e)) found = 0

-- the role of the poller after it read the link of its head `h` as a dequeue began
abbrev pub after_first_read : ℕ → ℕ → ℕ → Role
after_first_read n h zero = if h == n then Polls h AtStub else Polls h NoNext
after_first_read n h (suc q) = if h == n then Polls q Moved else Polls q (InHand h)

-- The role of the poller after it read the link of its head `h`, a slot. The phase is `none` if the link points to no
-- entry.
abbrev pub after_slot_read : ℕ → Phase → ℕ → Role
after_slot_read h none zero = Polls h none
after_slot_read h none (suc q) = Polls q (InHand h)

-- the role of the seat after the step
abbrev pub next_role : ℕ → ℕ → Role → ℕ → Role
next_role n slot Idle zero = Won slot
next_role n slot Idle (suc k) = Idle
next_role n slot (Won e) found = Cleared e
next_role n slot (Cleared e) found = Swapped e found
next_role n slot (Swapped e p) found = Idle
next_role n slot (Polls h Start) found = after_first_read n h found
next_role n slot (Polls h AtStub) found = Polls h Start
next_role n slot (Polls h Moved) found = after_slot_read h NoNext found
next_role n slot (Polls h NoNext) found = if found == h then Polls h Last else Polls h Start
next_role n slot (Polls h Last) found = Polls h StubCleared
next_role n slot (Polls h StubCleared) found = Polls h (StubPut found)
next_role n slot (Polls h (StubPut p)) found = Polls h StubLinked
next_role n slot (Polls h StubLinked) found = after_slot_read h Start found
next_role n slot (Polls h (InHand e)) found = Polls h Start

-- the step, as the seat's list of steps has it
abbrev pub step_of_role : ℕ → ℕ → Role → ℕ → AtomicStep
step_of_role n slot Idle found = MarkSwap slot found
step_of_role n slot (Won e) found = LinkClear e
step_of_role n slot (Cleared e) found = TailSwap e found
step_of_role n slot (Swapped e p) found = LinkWrite p e
step_of_role n slot (Polls h Start) found = LinkRead h found
step_of_role n slot (Polls h AtStub) found = TailRead found
step_of_role n slot (Polls h Moved) found = LinkRead h found
step_of_role n slot (Polls h NoNext) found = TailRead found
step_of_role n slot (Polls h Last) found = LinkClear n
step_of_role n slot (Polls h StubCleared) found = TailSwap n found
step_of_role n slot (Polls h (StubPut p)) found = LinkWrite p n
step_of_role n slot (Polls h StubLinked) found = LinkRead h found
step_of_role n slot (Polls h (InHand e)) found = Unmark e

-- what the step returns: `More` if its call continues
abbrev pub reply_of_role : ℕ → Role → ℕ → StepReply
reply_of_role n Idle zero = More
reply_of_role n Idle (suc k) = Woke Already
reply_of_role n (Won e) found = More
reply_of_role n (Cleared e) found = More
reply_of_role n (Swapped e p) found = Woke Fresh
reply_of_role n (Polls h Start) found = More
reply_of_role n (Polls h AtStub) found = if found == n then Taken Empty else Taken Pause
reply_of_role n (Polls h Moved) found = More
reply_of_role n (Polls h NoNext) found = if found == h then More else Taken Pause
reply_of_role n (Polls h Last) found = More
reply_of_role n (Polls h StubCleared) found = More
reply_of_role n (Polls h (StubPut p)) found = More
reply_of_role n (Polls h StubLinked) zero = Taken Pause
reply_of_role n (Polls h StubLinked) (suc q) = More
reply_of_role n (Polls h (InHand i)) found = Taken (Slot i)

-- the view after the step
abbrev pub next_view : ℕ → View → ℕ → View
next_view slot v found = record {
  stub = v.stub;
  role = next_role v.stub slot v.role found;
  steps = v.steps ++ step_of_role v.stub slot v.role found ∷ [];
}

-- the numbers of this role are entries
abbrev pub InRange : ℕ → Role → Type 0
InRange n Idle = Unit {0}
InRange n (Won e) = e ≤ n
InRange n (Cleared e) = e ≤ n
InRange n (Swapped e p) = (e ≤ n) × (p ≤ n)
InRange n (Polls h (StubPut p)) = (h ≤ n) × (p ≤ n)
InRange n (Polls h (InHand i)) = (h ≤ n) × (i ≤ n)
InRange n (Polls h _) = h ≤ n
