-- The place of the task's waker, and what the poller did there.
use Rattle.std.specs.Prelude.{◌≡◌, ℕ, Bool, List, Option, Some, None, length, refl}
use Rattle.std.specs.Coded.{Coded, code_by, coded×, coded_ℕ, coded_bool, coded_option}
use Rattle.futures_buffered_table.specs.declared.answer.Woke.TheVariants.{Fresh, Already}
use Rattle.futures_buffered_table.specs.declared.view.AtomicStep.{AtomicStep}
use Rattle.futures_buffered_table.specs.Waking.{IsWake}
use Rattle.futures_buffered_table.specs.ReadyList.{Poller as PollSeat, Waker}
use Rattle.futures_buffered_place.specs.declared.place.Put.{Put as Answer}
use Rattle.futures_buffered_place.specs.declared.place.Put.TheVariants.{Kept, Busy}
use Rattle.futures_buffered_place.specs.History.{PlaceId, place_id_code, History, history_code, PutsIn, TakesOut, Seated, no_history}

-- the source of `futures` at which the task registers, and the place in which its wakers look
pub record Awaited : Type 0 where
  pub source : ℕ
  pub place : PlaceId

abbrev pub awaited_code : Coded Awaited
awaited_code = code_by (ℕ × PlaceId) (coded× coded_ℕ place_id_code)
    (λ a. (a.source, a.place)) (λ p. record { source = p.0; place = p.1 }) (λ _. refl)

-- the poller's side: its place, whether it alone publishes there, the steps that it made there, and the waker that it
-- has
pub record Poller (O : Type 0) : Type 0 where
  pub place : PlaceId
  pub alone : Bool
  pub did : History O
  pub own : Option O

abbrev pub poller_code : {O : Type 0} → Coded O → Coded (Poller O)
poller_code {O} code = code_by (PlaceId × (Bool × (History O × Option O)))
    (coded× place_id_code (coded× coded_bool (coded× (history_code code) (coded_option code))))
    (λ p. (p.place, (p.alone, (p.did, p.own)))) (λ p. record { place = p.0; alone = p.1.0; did = p.1.1.0; own = p.1.1.1 }) (λ _. refl)

-- what the poller of a source did at its place, and the waker that it keeps, if any
pub record Publisher (O : Type 0) : Type 0 where
  pub did : History O
  pub own : Option O

-- what one wake made: the seat of its steps at the list, and the seat of its steps at the place if it looked there
pub record MadeWake (O : Type 0) : Type 0 where
  pub listed : Waker
  pub placed : Option (Seated O)

-- both seats of one poller: its seat of the list, and its side of the place
pub record Side (O : Type 0) : Type 0 where
  pub poll : PollSeat
  pub task : Poller O

module _ {O : Type 0} where
  -- the side has this waker, and has made these steps
  abbrev pub IsNewPoller : Option O → History O → Poller O → Type 0
  IsNewPoller own did new = (new.own ≡ own) × (new.did ≡ did)

  -- the result of a publication: `Kept` with the waker that it replaced, or `Busy` with the waker that it returned, if
  -- another call was at the place
  abbrev pub answer_of : Option O → Option O → Answer O
  answer_of before None = Kept before
  answer_of before (Some outer) = Busy outer

  -- One publication of the waker, after `made` steps at the list. Either the waker is kept, and the one before, if any,
  -- was taken. Or another call was at the place, and the waker is not kept.
  abbrev pub PutsOrMeets : ℕ → Bool → O → History O → History O → Type 0
  PutsOrMeets made alone x old new = (answer : Answer O) × PutsIn made alone x old answer new

  -- the waker that the side has is published, if it has one
  abbrev pub PutsOwn : ℕ → Bool → Option O → History O → History O → Type 0
  PutsOwn made alone None old new = new ≡ old
  PutsOwn made alone (Some x) old new = PutsOrMeets made alone x old new

  -- the side is at the same place, and has no waker: the one that it had was published, after `made` steps at the list
  abbrev pub GivesUp : ℕ → Poller O → Poller O → Type 0
  GivesUp made old new = (new.place ≡ old.place) × (new.alone ≡ old.alone) × (new.own ≡ None)
      × PutsOwn made old.alone old.own old.did new.did

  -- what a side did, and the waker that it keeps
  abbrev pub publisher_of : Poller O → Publisher O
  publisher_of side = record { did = side.did; own = side.own }

  -- a publisher that made no step, and keeps no waker
  abbrev pub new_publisher : Publisher O
  new_publisher = record { did = no_history; own = None }

  -- One publication of the waker, after `made` steps at the list, by a poller that publishes alone or beside others.
  abbrev pub Publishes : ℕ → O → History O → History O → Type 0
  Publishes made x old new = (alone : Bool) × PutsOrMeets made alone x old new

  -- the waker that the publisher keeps is published, if it keeps one, and it keeps none
  abbrev pub PublishesOwn : ℕ → Publisher O → Publisher O → Type 0
  PublishesOwn made old new = (new.own ≡ None) × ((alone : Bool) × PutsOwn made alone old.own old.did new.did)

  -- If the side had no waker, it has the one that it took, if any. Otherwise it keeps its own, and makes no step.
  abbrev pub HasBack : ℕ → Option O → History O → Option O → History O → Type 0
  HasBack made None old own new = TakesOut made old own new
  HasBack made (Some mine) old own new = (own ≡ Some mine) × (new ≡ old)

  -- If the side has no waker, it takes the one that is kept, or none. Otherwise it makes no step.
  abbrev pub TakesBack : ℕ → Option O → History O → History O → Type 0
  TakesBack made None old new = (x : Option O) × TakesOut made old x new
  TakesBack made (Some own) old new = new ≡ old

  -- a seat of this place took the waker or found none to take, after `made` steps at the list
  abbrev pub LooksAfter : ℕ → PlaceId → Seated O → Type 0
  LooksAfter made place seat = (seat.place ≡ place) × ((outer : Option O) × TakesOut made no_history outer seat.did)

  -- what is after the steps at the list: nothing if the slot was marked, otherwise one look for the task's waker
  abbrev pub IsWholeAt : ℕ → PlaceId → List AtomicStep → Option (Seated O) → Type 0
  IsWholeAt i place steps None = IsWake i steps Already
  IsWholeAt i place steps (Some seat) = IsWake i steps Fresh × LooksAfter (length steps) place seat

  -- one wake of the slot i, whose task's waker is at this place
  abbrev pub IsWholeWake : ℕ → PlaceId → MadeWake O → Type 0
  IsWholeWake i place made = IsWholeAt i place made.listed.steps made.placed
