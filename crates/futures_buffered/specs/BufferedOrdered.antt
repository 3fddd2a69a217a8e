-- What a contract sees of a `BufferedOrdered`: the words on buffers at a bounded ordered queue.
use Rattle.futures_buffered.specs.Below.{Poll, Slots, value_in, slot_count, ReadySourceOf, held_in, itself}
use Rattle.futures_buffered.specs.Below.{OrderedBounded, PushesNumber, SetGives}
use Rattle.std.specs.Prelude.{◌≡◌, ℕ, List, length, Option, Some, Result}
use Rattle.futures_buffered_unordered.specs.declared.slot_future.SlotFuture.{Ghosts as SlotFutureOf}
use Rattle.futures_buffered_ordered.specs.OrderedEntries.{AddsBack, Entry, Kept, OrderedGives, Running}
use Rattle.futures_buffered_ordered.specs.declared.numbered.Numbered.{Numbered}
use Rattle.futures_buffered.specs.FutureQueue.{OnlyPushes}
use Rattle.futures_buffered.specs.Buffer.{StreamOf, Buffering, PollsStream, CallsInTurn, Accounts, all_drawn}
use Rattle.futures_buffered.specs.Buffer.{all_outputs}
use Rattle.futures_buffered.specs.BufferUnordered.{PendsTo, MayGiveInSlot}
use Rattle.futures_buffered.specs.TryBuffer.{PushesOk, WithErrors, futures_of}

-- how many entries a queue has, futures in progress and outputs that are kept
abbrev pub queue_len : {F A S : Type 0} → OrderedBounded F A S → ℕ
queue_len queue = length queue.entries

-- how many futures can be in progress
abbrev pub queue_slots : {F A S : Type 0} → OrderedBounded F A S → ℕ
queue_slots queue = slot_count queue.set.slots

-- a future became an entry: a slot holds the future with the number of the entry, as pending polls with the waker of
-- that slot left it; or the future gave the output that is kept
abbrev pub BecomesEntry : {F A : Type 0} → (ℕ → F → Poll A → F → Type 0) → Slots (Numbered F) → F → Entry A → Type 0
BecomesEntry {F = F} polled slots future (Running number) = (slot : ℕ) × (now : F)
    × (value_in slots slot ≡ Some (record { future = now; number = number }))
    × PendsTo (polled slot) future now
BecomesEntry polled slots future (Kept output) = MayGiveInSlot polled future output

-- After any calls of a buffer that held nothing at first, the outputs so far are those of the first items taken, in
-- order. The other items are the entries held, in the same order.
abbrev pub GivesInOrder : {St F A S W : Type 0} → StreamOf St F → SlotFutureOf F W A → ReadySourceOf S W → Type 0
GivesInOrder {St} {F} {A} {S} stream future source =
    (n : ℕ) (old new : Buffering St (OrderedBounded F A S))
    (calls : List (List F × Poll (Option A))) → queue_len old.queue ≡ 0
    → held_in old.queue.set ≡ 0
    → CallsInTurn (PollsStream stream.yields) queue_len n (OnlyPushes (AddsBack (PushesNumber source.marks)))
    (OrderedGives (SetGives (itself future) source) held_in) old calls new
    → Accounts (λ drawn items. drawn ≡ items) (MayGiveInSlot future.polled)
    (BecomesEntry future.polled new.queue.set.slots)
    (all_drawn calls) (all_outputs calls) new.queue.entries

-- The same for a stream that returns errors also: some errors come among the outputs.
abbrev pub TryGivesInOrder : {St F T E S W : Type 0} → StreamOf St (Result F E) → SlotFutureOf F W (Result T E)
    → ReadySourceOf S W → Type 0
TryGivesInOrder {St} {F} {T} {E} {S} stream future source =
    (n : ℕ) (old new : Buffering St (OrderedBounded F (Result T E) S))
    (calls : List (List (Result F E) × Poll (Option (Result T E)))) → queue_len old.queue ≡ 0
    → held_in old.queue.set ≡ 0
    → CallsInTurn (PollsStream stream.yields) queue_len n
    (PushesOk (OnlyPushes (AddsBack (PushesNumber source.marks))))
    (OrderedGives (SetGives (itself future) source) held_in) old calls new
    → (outputs : List (Result T E)) × WithErrors outputs (all_outputs calls)
    × Accounts (λ drawn items. drawn ≡ items) (MayGiveInSlot future.polled)
    (BecomesEntry future.polled new.queue.set.slots)
    (futures_of (all_drawn calls)) outputs new.queue.entries
