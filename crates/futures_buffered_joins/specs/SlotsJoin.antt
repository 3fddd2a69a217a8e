-- What a set of slots is to a join: place k is slot k. A clause names the futures and the source by the ghost members
-- of their types: `F.SlotFuture S.ReadySource`.
use Rattle.std.specs.Prelude.{◌≡◌, ℕ, Bool, List, map, is_some, Some}
use Rattle.futures.specs.declared.task.Poll.{Poll}
use Rattle.futures.specs.declared.task.Poll.TheVariants.{Ready, Pending}
use Rattle.futures.specs.declared.task.context.Context.{Context}
pub use Rattle.futures_buffered_core.specs.declared.ready_source.ReadySource.{Ghosts as ReadySourceOf}
use Rattle.futures_buffered_core.specs.SlotMap.{Slots, value_in, with_slot_freed}
use Rattle.futures_buffered_unordered.specs.Held.{MayGive}
use Rattle.futures_buffered_unordered.specs.FuturesUnorderedBounded.{Bounded}
use Rattle.futures_buffered_unordered.specs.PollsBounded.{RegistersAndTakes, itself}
pub use Rattle.futures_buffered_unordered.specs.declared.slot_future.SlotFuture.{Ghosts as SlotFutureOf}

-- a future waits at a place if and only if the slot holds one
abbrev pub slots_waiting : {F S : Type 0} → Bounded F S → List Bool
slots_waiting set = map is_some set.slots.places

module _ {F O : Type 0} (polled : ℕ → F → Poll O → F → Type 0) where
  -- the future in this slot may give x, polled with the waker of the slot
  abbrev pub MayGiveAt : Slots F → ℕ → O → Type 0
  MayGiveAt slots k x = (f : F) × (value_in slots k ≡ Some f) × MayGive (polled k) f x

  -- this item may give x, polled with the waker of slot k
  abbrev pub ItemMayGive : ℕ → F → O → Type 0
  ItemMayGive k = MayGive (polled k)

module _ {F W O S : Type 0} (future : SlotFutureOf F W O) (source : ReadySourceOf S W) where
  -- One poll of the set. The slot of an output is emptied.
  abbrev pub SlotsGive : Bounded F S → Poll (ℕ × O) → Bounded F S → Context → Context → Type 0
  SlotsGive old (Ready came) new cx left = (before : Bounded F S)
      × RegistersAndTakes (itself future) source old (Ready came) before cx left
      × (new ≡ record before { slots = with_slot_freed before.slots came.0 })
  SlotsGive old Pending new cx left = RegistersAndTakes (itself future) source old Pending new cx left
