-- What a contract sees of a set of futures in flight that an adaptor or an ordered queue holds. It accepts each future
-- while a slot is free, and no future is cancelled. `grows` says whether the set grows. A clause describes the futures
-- by the ghost members of their type: `F.Future`.
use Rattle.std.specs.Prelude.{◌≡◌, ◌<◌, ◌≤◌, ◌==◌, ℕ, Bool, false, true, Option, Some, None, count_by}
use Rattle.futures.specs.declared.task.Poll.{Poll}
use Rattle.futures.specs.declared.task.Poll.TheVariants.{Ready, Pending}
use Rattle.futures.specs.declared.task.context.Context.{Context}
use Rattle.futures_buffered_core.specs.SlotMap.{held_count}
use Rattle.futures_buffered_in_flight.specs.InFlight.{FutureOf, Flights, CanPollAll, HasNoRoom, IsUsedUp, PollsInFlight}
use Rattle.futures_buffered_in_flight.specs.InFlight.{WentIn, flight_slots}
use Rattle.futures_buffered_in_flight.specs.declared.in_flight.Came.{Came}
use Rattle.futures_buffered_in_flight.specs.declared.in_flight.Place.{Place}

-- whether a slot holds a future under this tag
abbrev pub has_tag : ℕ → Option (Place ℕ) → Bool
has_tag i None = false
has_tag i (Some place) = place.tag == i

-- how many futures are held under tag i
abbrev pub flights_with : {F : Type 0} → ℕ → Flights F ℕ → ℕ
flights_with i s = count_by (has_tag i) s.slots.places

-- there are as many slots as before, or no fewer if the set grows
abbrev pub KeepsRoom : {F T : Type 0} → Bool → Flights F T → Flights F T → Type 0
KeepsRoom false old new = flight_slots new ≡ flight_slots old
KeepsRoom true old new = flight_slots old ≤ flight_slots new

-- a push of a future with a number may be refused: no slot is free, or in a set that grows there is no room
abbrev pub MayRefuseNumber : {F : Type 0} → Bool → Flights F ℕ → Type 0
MayRefuseNumber false s = flight_slots s ≤ held_count s.slots
MayRefuseNumber true s = HasNoRoom s

-- each such push is refused, also if no allocation fails
abbrev pub RefusesNumbers : {F : Type 0} → Bool → Flights F ℕ → Type 0
RefusesNumbers false s = flight_slots s ≤ held_count s.slots
RefusesNumbers true s = IsUsedUp s

module _ {F A T : Type 0} (future : FutureOf F A) where
  -- each future may be polled, none is cancelled, there is a slot, and no more futures are held than there are slots
  pub record CanPollQueue (s : Flights F T) : Type 0 where
    pub each : CanPollAll future s
    pub none_cancelled : s.cancelled ≡ 0
    pub some : 0 < flight_slots s
    pub bound : held_count s.slots ≤ flight_slots s

  -- one push into a set that accepts each future: the future was added under this tag, and the set may be polled
  abbrev pub PushesQueued : Bool → Flights F T → F → T → Flights F T → Type 0
  PushesQueued grows old pushed tag new = WentIn future grows tag old pushed new × CanPollQueue new

  -- One poll, as `PollsInFlight` says; the set may be polled again. Of an output, the poll returns the part that `part`
  -- says.
  abbrev pub PollsQueued : {B : Type 0} → (Came A T → B) → Flights F T → Poll (Option B) → Flights F T
      → Context → Context → Type 0
  PollsQueued part old (Ready None) new cx left = PollsInFlight future old (Ready None) new cx left × CanPollQueue new
  PollsQueued part old (Ready (Some x)) new cx left = (came : Came A T) × (x ≡ part came)
      × PollsInFlight future old (Ready (Some came)) new cx left × CanPollQueue new
  PollsQueued part old Pending new cx left = PollsInFlight future old Pending new cx left × CanPollQueue new
