-- What a contract sees of an ordered queue of futures in flight: the definitions on ordered queues, for a queue in
-- flight. A clause describes the futures by the ghost members of their type: `F.Future`. `grows` says whether the queue
-- grows. Such a queue may have more entries than slots, since a kept output needs no slot.
use Rattle.std.specs.Prelude.{◌≡◌, ◌⊎◌, ◌+◌, ◌<◌, ◌≤◌, ◌^◌, ℕ, Bool, false, true, [], Option, length, IfNone, IfSome, OnSome}
use Rattle.std.specs.Prelude.{Result, IfErr, IsErr, List, OnOk, max}
use Rattle.std.specs.List.{FoldsTo}
use Rattle.futures.specs.Poll.{IfReady, OnPending}
use Rattle.futures.specs.Runs.{Runs, After, Within, Leads, Chains, Ends}
use Rattle.futures.specs.Task.{Covers, Keeps}
use Rattle.futures.specs.declared.task.Poll.{Poll}
use Rattle.futures.specs.declared.task.context.Context.{Context}
use Rattle.futures_buffered_core.specs.SlotMap.{held_count}
use Rattle.futures_buffered_unordered.specs.FuturesUnorderedBounded.{IsWoken}
use Rattle.futures_buffered_ordered.specs.OrderedEntries.{Ordered, AddsBack, AddsFront, BesideTask, ComesInOrder, IsNewQueue}
use Rattle.futures_buffered_ordered.specs.OrderedEntries.{MayRefuse, OrderedGives, with_task}
use Rattle.futures_buffered_ordered.specs.OrderedEntriesInvariant.{IsNumbered}
use Rattle.futures_buffered_in_flight.specs.InFlight.{Flights, FlightsWaitAt, FutureOf, HasNoRoom, IsNewInFlight, IsUsedUp}
use Rattle.futures_buffered_in_flight.specs.InFlight.{TagGives, flight_slots}
use Rattle.futures_buffered_in_flight.specs.InFlightQueue.{CanPollQueue, KeepsRoom, PollsQueued, PushesQueued, flights_with}

-- how many slots there are: in a bounded queue, how many entries there can be
abbrev pub ordered_room : {F A : Type 0} → Ordered (Flights F ℕ) A → ℕ
ordered_room q = flight_slots q.set

-- there are as many entries as slots
abbrev pub OrderedIsFull : {F A : Type 0} → Ordered (Flights F ℕ) A → Type 0
OrderedIsFull q = flight_slots q.set ≤ length q.entries

-- there are n slots, no future and no entry, and a place for n entries at least
abbrev pub IsNewInOrder : {F A : Type 0} → ℕ → Ordered (Flights F ℕ) A → Type 0
IsNewInOrder n = IsNewQueue (IsNewInFlight n) n

-- there are as many slots as before, no future and no entry; and a place for an entry of each slot, unless the queue
-- grows
abbrev pub IsCleared : {F A : Type 0} → Bool → Ordered (Flights F ℕ) A → Ordered (Flights F ℕ) A → Type 0
IsCleared false old new = IsNewInOrder (flight_slots old.set) new
IsCleared true old new = (new.entries ≡ []) × IsNewInFlight (flight_slots old.set) new.set

-- the place at which a pending poll waits
abbrev pub OrderedWaitsAt : {F A : Type 0} → Ordered (Flights F ℕ) A → ℕ → Type 0
OrderedWaitsAt q = FlightsWaitAt q.set

-- There are at most as many entries as slots, a place for as many, and fewer than 2 ^ 62 slots.
pub record HasPlaces {F A : Type 0} (q : Ordered (Flights F ℕ) A) : Type 0 where
  pub bound : length q.entries ≤ flight_slots q.set
  pub fits : flight_slots q.set ≤ q.room
  pub small : flight_slots q.set < 2 ^ 62

-- How the queue keeps itself: the futures are those of the entries in progress, there is a slot, and a bounded queue has
-- its places.
pub record KeepsInOrder {F A : Type 0} (grows : Bool) (q : Ordered (Flights F ℕ) A) : Type 0 where
  pub numbered : IsNumbered flights_with (λ set. held_count set.slots) q
  pub some : 0 < flight_slots q.set
  pub bounded : grows ≡ false → HasPlaces q

-- a push may be refused: a bounded queue is full; in a queue that grows the entry might have needed an allocation, the
-- set had no room, or there were as many entries as there can be
abbrev pub MayRefuseFuture : {F A : Type 0} → Bool → Ordered (Flights F ℕ) A → Type 0
MayRefuseFuture false q = OrderedIsFull q
MayRefuseFuture true q = MayRefuse HasNoRoom q

-- each push is refused: a bounded queue is full; into a queue that grows 2 ^ 64 - 1 pushes were made
abbrev pub RefusesFutures : {F A : Type 0} → Bool → Ordered (Flights F ℕ) A → Type 0
RefusesFutures false q = OrderedIsFull q
RefusesFutures true q = IsUsedUp q.set

module _ {F A : Type 0} (future : FutureOf F A) where
  -- each future in progress may be polled, and none is cancelled
  abbrev pub CanPollOrdered : Ordered (Flights F ℕ) A → Type 0
  CanPollOrdered q = CanPollQueue future q.set

  -- what may come: an output of each entry, of its own future, from the front to the back, and then `None`
  abbrev pub ComesOfEach : Ordered (Flights F ℕ) A → Runs A
  ComesOfEach = ComesInOrder (TagGives future)

  -- One push, from `old` to `new`. `adds` says at which end the entry of the future is, and `with_one` what may come if
  -- an output of one future more does.
  pub record PushesInTurn
      (grows : Bool)
      (adds : (Flights F ℕ → F → ℕ → Flights F ℕ → Type 0) → Ordered (Flights F ℕ) A → F → Ordered (Flights F ℕ) A → Type 0)
      (with_one : (A → Type 0) → Runs A → Runs A)
      (old : Ordered (Flights F ℕ) A)
      (pushed : F)
      (new : Ordered (Flights F ℕ) A)
      : Type 0 where
    -- the future is added, and its entry at this end
    pub added : adds (PushesQueued future grows) old pushed new
    pub one_more : length new.entries ≡ length old.entries + 1
    -- an output of the future may come there, and otherwise what might come before
    pub comes : Within (with_one (future.gives pushed) (ComesOfEach old)) (ComesOfEach new)
    -- there are as many slots as before, or no fewer if the queue grows
    pub same_room : KeepsRoom grows old.set new.set
    -- the queue may be polled
    pub again : CanPollOrdered new

  -- the future was added after all others: its output comes last
  abbrev pub EntersBack : Bool → Ordered (Flights F ℕ) A → F → Ordered (Flights F ℕ) A → Type 0
  EntersBack grows = PushesInTurn grows AddsBack (λ gives runs. Chains runs (Leads gives Ends))

  -- the future was added before all others: its output comes first
  abbrev pub EntersFront : Bool → Ordered (Flights F ℕ) A → F → Ordered (Flights F ℕ) A → Type 0
  EntersFront grows = PushesInTurn grows AddsFront Leads

  -- these items were pushed one after another into a new queue with a slot for each, and with one slot at least
  pub record HoldsInTurn (grows : Bool) (items : List F) (q : Ordered (Flights F ℕ) A) : Type 0 where
    pub start : Ordered (Flights F ℕ) A
    pub is_new : IsNewInOrder (max 1 (length items)) start
    pub pushed : FoldsTo (EntersBack grows) start items q
    pub one_each : length q.entries ≡ length items

  -- One push that returns the future if it is refused: `pushes` says what becomes of the queue otherwise.
  pub record PushesOrComesBack
      (grows : Bool)
      (pushes : Ordered (Flights F ℕ) A → F → Ordered (Flights F ℕ) A → Type 0)
      (old : Ordered (Flights F ℕ) A)
      (pushed : F)
      (result : Result (Unit {0}) F)
      (new : Ordered (Flights F ℕ) A)
      : Type 0 where
    -- if the push succeeds, the future is added
    pub went_in : OnOk result (pushes old pushed new)
    -- if the push is refused, it returns the future, and nothing changes
    pub back : IfErr result (λ back. (back ≡ pushed) × (new ≡ old))
    -- the push is refused only if it may be, and always if each push is refused
    pub room : IsErr result → MayRefuseFuture grows old
    pub full : RefusesFutures grows old → IsErr result
    -- the queue may be polled
    pub again : CanPollOrdered new

  -- One poll, which takes the queue from `old` to `new` and the task from `cx` to `left`.
  pub record AnswersInTurn
      (grows : Bool)
      (old : Ordered (Flights F ℕ) A)
      (answer : Poll (Option A))
      (new : Ordered (Flights F ℕ) A)
      (cx left : Context)
      : Type 0 where
    -- while the front is in progress the futures are polled, and each output is kept in the entry of its number; then
    -- comes the front's output, `None` or `Pending`
    pub gave : OrderedGives (BesideTask (PollsQueued future (λ came. (came.tag, came.output))))
        (λ set. held_count set.0.slots) (with_task old cx) answer (with_task new left)
    -- `None` comes only if there was no entry, and changes nothing; an output leaves one entry fewer
    pub empty : IfReady answer (λ o. IfNone o ((length old.entries ≡ 0) × (new ≡ old)))
    pub fewer : IfReady answer (λ o. OnSome o (length new.entries + 1 ≡ length old.entries))
    -- a pending poll leaves as many entries as before, and a future is in progress
    pub same_count : OnPending answer (length new.entries ≡ length old.entries)
    pub holds : OnPending answer (0 < held_count new.set.slots)
    -- there are as many slots as before, the entries have places as before, and there are no more entries than slots,
    -- unless the queue grows
    pub same_room : (flight_slots new.set ≡ flight_slots old.set) × (new.room ≡ old.room)
    pub bound : grows ≡ false → length new.entries ≤ flight_slots new.set
    -- the task of a pending queue is registered where its futures wait, or is woken
    pub registered : OnPending answer (Covers left (FlightsWaitAt new.set))
    -- no future of a pending queue waits for memory, or the task is woken
    pub started : OnPending answer ((new.set.waiting ≡ []) ⊎ IsWoken left)
    -- what the task was registered for or woken for before still holds
    pub kept : Keeps cx left
    -- the queue may be polled
    pub again : CanPollOrdered new

  -- What polling until the output of the front, or `None`, makes of the queue.
  pub record CameInTurn (old : Ordered (Flights F ℕ) A) (came : Option A) (new : Ordered (Flights F ℕ) A)
      : Type 0 where
    -- this might come first from the old queue
    pub gave : ComesOfEach old [] came
    -- what may come from the new queue might have come from the old queue after this output
    pub rest : IfSome came (λ x. After (ComesOfEach old) x (ComesOfEach new))
    -- `None` comes if and only if there was no entry, and changes nothing; an output leaves one entry fewer
    pub empty : IfNone came ((length old.entries ≡ 0) × (new ≡ old))
    pub fewer : OnSome came (length new.entries + 1 ≡ length old.entries)
    -- there are as many slots as before
    pub same_room : flight_slots new.set ≡ flight_slots old.set
    -- the queue may be polled
    pub again : CanPollOrdered new
