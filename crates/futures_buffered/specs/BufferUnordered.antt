-- What a contract sees of a `BufferUnordered`: the words on buffers at a bounded set.
use Rattle.futures_buffered.specs.Below.{FoldsTo, Poll, Pending, Slots, ReadySourceOf, Bounded, Pushes, held_in}
use Rattle.futures_buffered.specs.Below.{PollsBounded, itself, OfSomeTask}
use Rattle.std.specs.Prelude.{◌≡◌, ℕ, List, Option, Result, IsPermutation, filter_map}
use Rattle.futures_buffered_unordered.specs.declared.slot_future.SlotFuture.{Ghosts as SlotFutureOf}
use Rattle.futures_buffered_unordered.specs.Held.{MayGive}
use Rattle.futures_buffered.specs.FutureQueue.{OnlyPushes}
use Rattle.futures_buffered.specs.Buffer.{Buffering, StreamOf, PollsStream, CallsInTurn, Accounts, all_drawn}
use Rattle.futures_buffered.specs.Buffer.{all_outputs}
use Rattle.futures_buffered.specs.TryBuffer.{PushesOk, WithErrors, futures_of}

-- the futures that are held, by rising slot
abbrev pub held_values : {F : Type 0} → Slots F → List F
held_values m = filter_map (λ o. o) m.places

-- pending polls took a future from `f` to `g`
abbrev pub PendsTo : {F A : Type 0} → (F → Poll A → F → Type 0) → F → F → Type 0
PendsTo {F} polled f g = (later : List F) × FoldsTo (λ a b c. polled a Pending b × (c ≡ b)) f later g

-- pending polls, all of them with the waker of one slot, took a future from `f` to `g`
abbrev pub WaitsInSlot : {F A : Type 0} → (ℕ → F → Poll A → F → Type 0) → F → F → Type 0
WaitsInSlot polled f g = (slot : ℕ) × PendsTo (polled slot) f g

-- after some pending polls a poll may return `x`, all of them with the waker of one slot
abbrev pub MayGiveInSlot : {F A : Type 0} → (ℕ → F → Poll A → F → Type 0) → F → A → Type 0
MayGiveInSlot polled f x = (slot : ℕ) × MayGive (polled slot) f x

-- After any calls of a buffer that held nothing at first, each item taken is accounted for: it has given one of the
-- outputs, or is held as pending polls left it. No output is of two items or of none, and no item is lost.
abbrev pub LosesNothing : {St F A S W : Type 0} → StreamOf St F → SlotFutureOf F W A → ReadySourceOf S W → Type 0
LosesNothing {St} {F} {A} {S} stream future source =
    (n : ℕ) (old new : Buffering St (Bounded F S))
    (calls : List (List F × Poll (Option A))) → held_in old.queue ≡ 0
    → CallsInTurn (PollsStream stream.yields) held_in n (OnlyPushes (Pushes source.marks))
    (OfSomeTask (PollsBounded (itself future) source)) old calls new
    → Accounts IsPermutation (MayGiveInSlot future.polled) (WaitsInSlot future.polled)
    (all_drawn calls) (all_outputs calls) (held_values new.queue.slots)

-- The same for a stream that returns errors also: some errors come among the outputs, and none of the futures taken is
-- lost.
abbrev pub TryLosesNothing : {St F T E S W : Type 0} → StreamOf St (Result F E) → SlotFutureOf F W (Result T E)
    → ReadySourceOf S W → Type 0
TryLosesNothing {St} {F} {T} {E} {S} stream future source =
    (n : ℕ) (old new : Buffering St (Bounded F S))
    (calls : List (List (Result F E) × Poll (Option (Result T E)))) → held_in old.queue ≡ 0
    → CallsInTurn (PollsStream stream.yields) held_in n (PushesOk (OnlyPushes (Pushes source.marks)))
    (OfSomeTask (PollsBounded (itself future) source)) old calls new
    → (outputs : List (Result T E)) × WithErrors outputs (all_outputs calls)
    × Accounts IsPermutation (MayGiveInSlot future.polled) (WaitsInSlot future.polled)
    (futures_of (all_drawn calls)) outputs (held_values new.queue.slots)
