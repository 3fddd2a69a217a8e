-- What a set of futures in flight is to a join: place k is slot k. A clause names the futures by the ghost members of
-- their type: `F.Future`.
use Rattle.std.specs.Prelude.{ℕ, Bool, List, map, is_some, Option, Some, IfSome, Result}
use Rattle.futures.specs.declared.task.Poll.{Poll}
use Rattle.futures.specs.declared.task.Poll.TheVariants.{Ready, Pending}
use Rattle.futures.specs.declared.task.context.Context.{Context}
use Rattle.futures_buffered_core.specs.Drawn.{Items}
use Rattle.futures_buffered_table.specs.declared.answer.NewFault.{NewFault}
use Rattle.futures_buffered_in_flight.specs.InFlight.{FutureOf, Flights, CanPollAll, FliesInOrder, PollsInFlight}
use Rattle.futures_buffered_joins.specs.declared.outputs.Places.{Places}
use Rattle.futures_buffered_joins.specs.Join.{MakesJoin}

-- the places of a join of futures in flight
abbrev pub Flying : Type 0 → Type 0 → Type 0
Flying F A = Places (Flights F (Unit {0})) A

-- a future waits at a place if and only if the slot is taken
abbrev pub flights_waiting : {F : Type 0} → Flights F (Unit {0}) → List Bool
flights_waiting set = map is_some set.slots.places

module _ {F O : Type 0} (future : FutureOf F O) where
  -- One poll of the set. An output has the key of its future, whose slot is the place.
  abbrev pub FlightsGive : Flights F (Unit {0}) → Poll (ℕ × O) → Flights F (Unit {0}) → Context → Context → Type 0
  FlightsGive old (Ready came) new cx left = (push : ℕ) × PollsInFlight future old
      (Ready (Some (record { key = record { slot = came.0; push = push }; tag = tt; output = came.1 })))
      new cx left
  FlightsGive old Pending new cx left = PollsInFlight future old Pending new cx left

  -- each future of the join may be polled; a join that has ended may be polled too
  abbrev pub CanPollFlying : {A : Type 0} → Option (Flying F A) → Type 0
  CanPollFlying join = IfSome join (λ places. CanPollAll future places.set)

  -- the result of a constructor that makes a join of items, with a place for each item
  abbrev pub MakesFlying : {A U I : Type 0} → Items U F I → Result (Option (Flying F A)) NewFault → Type 0
  MakesFlying from = MakesJoin from (FliesInOrder future)
