-- What a contract sees of a set of futures in flight. A clause describes the futures by the ghost members of their
-- type: `F.Future`.
use Rattle.std.specs.Prelude.{◌≡◌, ◌+◌, ◌-◌, ◌^◌, ◌<◌, ◌≤◌, ◌⊎◌, min, ℕ, Bool, false, true, List, [], length, slice_get, Option, Some, None}
use Rattle.std.specs.Prelude.{IfSome, IsSomeAnd, Result, IfOk, IfErr, IsErr, option_map}
use Rattle.std.specs.List.{AllByRecursion}
use Rattle.futures.specs.declared.task.Poll.{Poll}
use Rattle.futures.specs.declared.task.Poll.TheVariants.{Ready, Pending}
use Rattle.futures.specs.declared.task.context.Context.{Context}
pub use Rattle.futures.specs.declared.future.Future.{Ghosts as FutureOf}
use Rattle.futures.specs.declared.stream.futures_unordered.FuturesUnordered.{FuturesUnordered}
use Rattle.futures.specs.Poll.{OnPending}
use Rattle.futures.specs.Queued.{AllPollable, AnyGives, AnyMay, Gathers, set_len, set_places}
use Rattle.futures.specs.Runs.{Runs}
use Rattle.futures.specs.Task.{Covers, Keeps}
use Rattle.futures_buffered_core.specs.SlotMap.{Slots, value_in, held_count, with_slot_freed, no_slots}
use Rattle.futures_buffered_core.specs.SlotMap.{GrowsByOne, Inserts}
use Rattle.futures_buffered_unordered.specs.FuturesUnorderedBounded.{IsWoken}
use Rattle.futures_buffered_in_flight.specs.Ledger.{Account}
use Rattle.futures_buffered_in_flight.specs.declared.run.Run.{Run}
use Rattle.futures_buffered_in_flight.specs.declared.run.Waits.{Waits}
use Rattle.futures_buffered_in_flight.specs.declared.run.Key.{Key}
use Rattle.futures_buffered_in_flight.specs.declared.in_flight.Place.{Place}
use Rattle.futures_buffered_in_flight.specs.declared.in_flight.Came.{Came}

-- the slots, each with the tag and the push number of its future; the set of `futures`; the futures that wait for
-- memory; how many cancelled futures have not ended; the number of the next push; and the ledger of the futures that
-- have not ended, of which no promise speaks
pub record Flights (F T : Type 0) : Type 0 where
  pub slots : Slots (Place T)
  pub running : Option (FuturesUnordered (Run F))
  pub waiting : List (Waits F)
  pub cancelled : ℕ
  pub next : ℕ
  pub ledger : Account

-- the futures in the set of `futures`, at the numbers of their tasks
abbrev pub runs_in : {F : Type 0} → Option (FuturesUnordered (Run F)) → List (Option (Run F))
runs_in None = []
runs_in (Some set) = set_places set

-- how many futures the set of `futures` has
abbrev pub run_count : {F : Type 0} → Option (FuturesUnordered (Run F)) → ℕ
run_count None = 0
run_count (Some set) = set_len set

-- how many slots there are
abbrev pub flight_slots : {F T : Type 0} → Flights F T → ℕ
flight_slots s = length s.slots.places

-- how many futures occupy room: the futures held, and the cancelled futures that have not ended
abbrev pub room_taken : {F T : Type 0} → Flights F T → ℕ
room_taken s = held_count s.slots + s.cancelled

-- what comes of a run has its key, and only an output that its future may give
abbrev pub GivesWithKey : {F A : Type 0} → (F → A → Type 0) → Run F → Key × Option A → Type 0
GivesWithKey gives run came = (came.0 ≡ run.ticket.key) × IfSome came.1 (gives run.future)

-- the answer of a poll without keys and tags
abbrev pub without_key : {A T : Type 0} → Poll (Option (Came A T)) → Poll (Option A)
without_key (Ready came) = Ready (option_map (λ c. c.output) came)
without_key Pending = Pending

-- the future of this key is held, under this tag
abbrev pub IsHeld : {F T : Type 0} → Flights F T → Key → T → Type 0
IsHeld s key tag = value_in s.slots key.slot ≡ Some (record { tag = tag; push = key.push })

-- the next push has the last number: 2 ^ 64 - 1 pushes were made
abbrev pub IsUsedUp : {F T : Type 0} → Flights F T → Type 0
IsUsedUp s = 2 ^ 64 ≤ s.next + 1

-- as many futures occupy room as there are slots, or 2 ^ 64 - 1 pushes were made
abbrev pub HasNoRoom : {F T : Type 0} → Flights F T → Type 0
HasNoRoom s = (flight_slots s ≤ room_taken s) ⊎ IsUsedUp s

-- each push is refused, also if no allocation fails: there is no room in a set that does not grow, or 2 ^ 64 - 1 pushes
-- were made; `grows` says whether the set grows
abbrev pub RefusesAll : {F T : Type 0} → Bool → Flights F T → Type 0
RefusesAll false s = HasNoRoom s
RefusesAll true s = IsUsedUp s

-- there is one slot more, which is the next to be used, and the rest does not change
pub record MakesSlot {F T : Type 0} (old wide : Flights F T) : Type 0 where
  pub slots : GrowsByOne old.slots wide.slots
  pub futures : (wide.running ≡ old.running) × (wide.waiting ≡ old.waiting)
  pub rest : (wide.cancelled ≡ old.cancelled) × (wide.next ≡ old.next)

-- There was room, and nothing changes. Or as many futures occupied room as there were slots, and there is one slot
-- more.
abbrev pub MakesRoom : {F T : Type 0} → Flights F T → Flights F T → Type 0
MakesRoom old wide = ((HasNoRoom old → ⊥) × (wide ≡ old))
    ⊎ ((flight_slots old ≤ room_taken old) × MakesSlot old wide)

-- there are n slots, all free, and no future
abbrev pub IsNewInFlight : {F T : Type 0} → ℕ → Flights F T → Type 0
IsNewInFlight n s = (s.slots ≡ no_slots n) × (s.running ≡ None) × (s.waiting ≡ []) × (s.cancelled ≡ 0)

-- the place at which a pending poll waits: the place of the set of `futures`
abbrev pub FlightsWaitAt : {F T : Type 0} → Flights F T → ℕ → Type 0
FlightsWaitAt s source = IsSomeAnd s.running (λ set. source ≡ set.tasks.source.id)

module _ {F T : Type 0} where
  -- The future of this key is cancelled: its slot is free, no output of it comes, and it occupies room until it has
  -- ended. No other future changes.
  pub record Cancels (old : Flights F T) (key : Key) (tag : T) (new : Flights F T) : Type 0 where
    pub was_held : IsHeld old key tag
    pub freed : new.slots ≡ with_slot_freed old.slots key.slot
    pub fewer : held_count new.slots + 1 ≡ held_count old.slots
    pub room : new.cancelled ≡ old.cancelled + 1
    pub others : (new.running ≡ old.running) × (new.waiting ≡ old.waiting)
    pub keys : new.next ≡ old.next

  -- what a cancel returns: the tag of the future of this key, or `None`, which changes nothing, if no future of this
  -- key is held
  abbrev pub CancelsOrNone : Flights F T → Key → Option T → Flights F T → Type 0
  CancelsOrNone old key None new = (new ≡ old) × ((tag : T) → IsHeld old key tag → ⊥)
  CancelsOrNone old key (Some tag) new = Cancels old key tag new

module _ {F A : Type 0} (future : FutureOf F A) where
  -- what a future that waits may give, with its key: nothing under the last number, with which no future starts
  abbrev pub WaitGives : Waits F → Key × Option A → Type 0
  WaitGives w came = (came.0 ≡ w.ticket.key) × (w.ticket.key.push + 1 < 2 ^ 64) × IfSome came.1 (future.gives w.future)

module _ {F A T : Type 0} (future : FutureOf F A) where
  -- a future that runs or waits may give this, with its key
  abbrev pub MayCome : Flights F T → Key × Option A → Type 0
  MayCome s came = AnyGives (GivesWithKey future.gives) (runs_in s.running) came
      ⊎ AnyMay (WaitGives future) s.waiting came

  -- the future of this slot may give x
  abbrev pub SlotGives : Flights F T → ℕ → A → Type 0
  SlotGives s slot x = (place : Place T) × (value_in s.slots slot ≡ Some place)
      × MayCome s (record { slot = slot; push = place.push }, Some x)

  -- a future that is held under this tag may give this output
  abbrev pub TagGives : Flights F T → T × A → Type 0
  TagGives s out = (key : Key) × IsHeld s key out.0 × MayCome s (key, Some out.1)

  -- the future of some slot may give x
  abbrev pub AnySlotGives : Flights F T → A → Type 0
  AnySlotGives s x = (tag : T) × TagGives s (tag, x)

  -- there are as many slots as items, each with a future, and slot k may give only what item k may give
  pub record FliesInOrder (items : List F) (set : Flights F T) : Type 0 where
    pub as_many : flight_slots set ≡ length items
    pub all_wait : held_count set.slots ≡ length items
    -- what slot k may give, item k may give
    pub own : (k : ℕ) (item : F) (x : A) → slice_get items k ≡ Some item
        → SlotGives set k x → future.gives item x

  -- what may come: as many outputs as futures are held, each of which the future of some slot may give, and then `None`
  abbrev pub ComesFromSlots : Flights F T → Runs A
  ComesFromSlots s = Gathers (AnySlotGives s) (held_count s.slots)

  -- no future gives what it could not give before
  abbrev pub FlightsGiveNoMore : Flights F T → Flights F T → Type 0
  FlightsGiveNoMore old new = (came : Key × Option A) → MayCome new came → MayCome old came

  -- Each future may be polled. No future that is held ends without its output.
  pub record CanPollAll (s : Flights F T) : Type 0 where
    pub running : AllPollable (λ (run : Run F). future.can_poll run.future) (runs_in s.running)
    pub waiting : AllByRecursion (λ (w : Waits F). future.can_poll w.future) s.waiting
    -- what may come has the number of a push before the next
    pub older : (came : Key × Option A) → MayCome s came → came.0.push < s.next
    -- as many futures run or wait as are held, or cancelled and have not ended
    pub counts : run_count s.running + length s.waiting ≡ held_count s.slots + s.cancelled

  -- a future was added to a free slot, under this tag and this key; it runs, or waits for memory
  pub record EntersAt (old : Flights F T) (pushed : F) (tag : T) (key : Key) (new : Flights F T) : Type 0 where
    -- the key has the number of this push, and the number of the next push is one more, unless this is the last number
    pub numbered : (key.push ≡ old.next) × (new.next ≡ min (old.next + 1) (2 ^ 64 - 1))
    pub went_in : Inserts old.slots key.slot (record { tag = tag; push = key.push }) new.slots
    pub one_more : held_count new.slots ≡ held_count old.slots + 1
    -- one future more runs or waits
    pub runs : run_count new.running + length new.waiting ≡ run_count old.running + length old.waiting + 1
    -- as many cancelled futures have not ended as before
    pub room : new.cancelled ≡ old.cancelled
    -- under this key comes only what the future may give
    pub own : (x : A) → MayCome new (key, Some x) → future.gives pushed x
    -- no other future gives what it could not give before
    pub others : (came : Key × Option A) → MayCome new came
        → MayCome old came ⊎ ((came.0 ≡ key) × IfSome came.1 (future.gives pushed))
    -- the set may be polled
    pub again : CanPollAll new

  -- a future was added to a free slot, under this tag and this key; a set that grows makes a slot first if there was no
  -- room
  abbrev pub Enters : Bool → Flights F T → F → T → Key → Flights F T → Type 0
  Enters false old pushed tag key new = EntersAt old pushed tag key new
  Enters true old pushed tag key new = (wide : Flights F T) × MakesRoom old wide × EntersAt wide pushed tag key new

  -- One push of a future with this tag; `grows` says whether the set grows. If the push is refused, it returns `given`.
  pub record PushesInFlight {B : Type 0} (grows : Bool) (old : Flights F T) (pushed : F) (tag : T) (given : B)
      (result : Result Key B) (new : Flights F T) : Type 0 where
    -- if the push succeeds, the future is added
    pub went_in : IfOk result (λ key. Enters grows old pushed tag key new)
    -- if the push is refused, it returns `given`, and nothing changes
    pub back : IfErr result (λ back. (back ≡ given) × (new ≡ old))
    -- the push is refused only if there is no room, and always if each push is refused
    pub full : RefusesAll grows old → IsErr result
    pub room : IsErr result → HasNoRoom old

  -- a future was added under this tag, with some key
  abbrev pub WentIn : Bool → T → Flights F T → F → Flights F T → Type 0
  WentIn grows tag old pushed new = (key : Key) × Enters grows old pushed tag key new

  -- an output that the future of this key may give: the future was held under this tag, and its slot is free now
  pub record ComesByKey (old : Flights F T) (came : Came A T) (new : Flights F T) : Type 0 where
    pub was_held : IsHeld old came.key came.tag
    pub gave : MayCome old (came.key, Some came.output)
    pub freed : new.slots ≡ with_slot_freed old.slots came.key.slot
    pub fewer : held_count new.slots + 1 ≡ held_count old.slots

  -- `None` if no future is held, which leaves no cancelled future; an output; or `Pending`, if a future is held
  abbrev pub GivesByKey : Flights F T → Poll (Option (Came A T)) → Flights F T → Type 0
  GivesByKey old (Ready None) new = (held_count old.slots ≡ 0) × (new.slots ≡ old.slots) × (new.cancelled ≡ 0)
      × (old.cancelled ≡ 0 → new ≡ old)
  GivesByKey old (Ready (Some came)) new = ComesByKey old came new
  GivesByKey old Pending new = (0 < held_count old.slots) × (new.slots ≡ old.slots)

  -- One poll, which takes the set from `old` to `new` and the task from `cx` to `left`.
  pub record PollsInFlight (old : Flights F T) (answer : Poll (Option (Came A T))) (new : Flights F T)
      (cx left : Context) : Type 0 where
    -- an output with its key, `None` if and only if no future is held, or `Pending`; nothing here says which other task
    -- is woken
    pub gave : GivesByKey old answer new
    -- no future gives what it could not give before
    pub narrows : FlightsGiveNoMore old new
    -- the number of the next push does not change, and no more cancelled futures are left than before
    pub keys : new.next ≡ old.next
    pub room : new.cancelled ≤ old.cancelled
    -- after a pending poll no future is cancelled, or the task is woken
    pub ended : OnPending answer ((new.cancelled ≡ 0) ⊎ IsWoken left)
    -- no future waits for memory, or the task is woken
    pub started : (new.waiting ≡ []) ⊎ IsWoken left
    -- the task of a pending set is registered where the set waits, or is woken
    pub registered : OnPending answer (Covers left (FlightsWaitAt new))
    -- what the task was registered for or woken for before still holds
    pub kept : Keeps cx left
    -- the set may be polled, so each future that is held runs or waits
    pub again : CanPollAll new

  -- polling until the next output, or `None`, makes of the set what one poll by some task does
  abbrev pub CameInFlight : Flights F T → Option (Came A T) → Flights F T → Type 0
  CameInFlight old came new = (cx : Context) × (left : Context) × PollsInFlight old (Ready came) new cx left
