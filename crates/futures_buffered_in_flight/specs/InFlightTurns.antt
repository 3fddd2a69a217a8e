-- What the start of a future that waits, and a turn of a poll, make of a set of futures in flight.
use Rattle.std.specs.Prelude.{◌≡◌, ◌+◌, ◌≤◌, ◌⊎◌, ℕ, Option, Some, None, Result, Ok, length}
use Rattle.std.specs.List.{AllByRecursion}
use Rattle.futures.specs.declared.task.Poll.{Poll}
use Rattle.futures.specs.declared.task.Poll.TheVariants.{Ready, Pending}
use Rattle.futures.specs.Queued.{AllPollable}
use Rattle.futures_buffered_core.specs.SlotMap.{held_count, with_slot_freed}
use Rattle.futures_buffered_in_flight.specs.InFlight.{Flights, FutureOf, CanPollAll}
use Rattle.futures_buffered_in_flight.specs.InFlight.{FlightsGiveNoMore, IsHeld, MayCome, WaitGives, run_count, runs_in}
use Rattle.futures_buffered_in_flight.specs.Ledger.{Reading, Stub}
use Rattle.futures_buffered_in_flight.specs.declared.in_flight.Came.{Came}
use Rattle.futures_buffered_in_flight.specs.declared.run.Key.{Key}
use Rattle.futures_buffered_in_flight.specs.declared.run.Run.{Run}
use Rattle.futures_buffered_in_flight.specs.declared.run.Waits.{Waits}

-- how many futures a poll of the set of `futures` leaves there: each, if it is pending; one less, if it returns an output
abbrev pub RunsLeft : {A : Type 0} → ℕ → Poll (Option A) → ℕ → Type 0
RunsLeft old (Ready (Some x)) new = new + 1 ≡ old
RunsLeft old (Ready None) new = old ≡ 0
RunsLeft old Pending new = new ≡ old

module _ {F A T : Type 0} where
  -- an output was taken with the key and the tag of its future, which was held, and whose slot is free now
  pub record Takes (old : Flights F T) (ticket : Stub) (answer : Result A Reading) (came : Came A T) (new : Flights F T) : Type 0 where
    pub key : came.key ≡ ticket.key
    pub output : answer ≡ Ok came.output
    pub was_held : IsHeld old came.key came.tag
    pub freed : new.slots ≡ with_slot_freed old.slots came.key.slot
    pub fewer : held_count new.slots + 1 ≡ held_count old.slots
    pub room : new.cancelled ≡ old.cancelled

module _ {F A T : Type 0} (future : FutureOf F A) where
  -- one future more runs or waits, which may give what `value` may; the slots, the cancelled futures and the next
  -- number do not change
  pub record Flies (old : Flights F T) (value : Waits F) (new : Flights F T) : Type 0 where
    pub running : AllPollable (λ (run : Run F). future.can_poll run.future) (runs_in new.running)
    pub waiting : AllByRecursion (λ (w : Waits F). future.can_poll w.future) new.waiting
    pub gives : (came : Key × Option A) → MayCome future new came → MayCome future old came ⊎ WaitGives future value came
    pub counts : run_count new.running + length new.waiting ≡ run_count old.running + length old.waiting + 1
    pub slots : new.slots ≡ old.slots
    pub rest : (new.cancelled ≡ old.cancelled) × (new.next ≡ old.next)

  -- starts of futures that wait: slots and next number do not change, no more cancelled futures are left, and no future
  -- gives more than before
  pub record Starts (old new : Flights F T) : Type 0 where
    pub slots : new.slots ≡ old.slots
    pub keys : new.next ≡ old.next
    pub room : new.cancelled ≤ old.cancelled
    pub less : FlightsGiveNoMore future old new
    pub again : CanPollAll future new
