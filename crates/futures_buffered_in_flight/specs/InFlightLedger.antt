-- What a set in flight keeps of its ledger: each future that was pushed and has not ended is held or cancelled.
use Rattle.std.specs.Prelude.{◌≡◌, ◌+◌, ◌≤◌, ◌==◌, ℕ, Bool, true, cond, count_by, List, length, Option, Some, None, Result, Err, MatchResult, ⊤}
use Rattle.std.specs.List.{AllByRecursion}
use Rattle.futures.specs.Queued.{AllPollable, AnyGives}
use Rattle.futures_buffered_core.specs.SlotMap.{Slots, value_in}
use Rattle.futures_buffered_in_flight.specs.InFlight.{Flights, runs_in}
use Rattle.futures_buffered_in_flight.specs.Ledger.{Account, IsGivenBy, IsNotice, Reading, Stub, same_key, told_to}
use Rattle.futures_buffered_in_flight.specs.declared.run.Key.{Key}
use Rattle.futures_buffered_in_flight.specs.declared.run.Run.{Run}
use Rattle.futures_buffered_in_flight.specs.declared.run.Waits.{Waits}
use Rattle.futures_buffered_in_flight.specs.declared.in_flight.Place.{Place}

-- what comes of a run: its ticket, and an output or a notice
abbrev pub Outcome : Type 0 → Type 0
Outcome A = Stub × Result A Reading

-- what comes of a run has its ticket, and an output that its future may give, or a notice that says that it was
-- cancelled
abbrev pub RunGives : {F A : Type 0} → (F → A → Type 0) → Run F → Outcome A → Type 0
RunGives gives run came = (came.0 ≡ run.ticket) × MatchResult came.1 (gives run.future) (IsNotice run.ticket)

-- a run has its ticket, and its future may be polled
abbrev pub CanPollRun : {F : Type 0} → (F → Type 0) → Run F → Type 0
CanPollRun can_poll run = (run.ticket.live ≡ true) × can_poll run.future

-- how often a place has the future of this key, and how often that is held: once or not
abbrev pub times_in : {T : Type 0} → Key → Option (Place T) → ℕ
times_in key None = 0
times_in key (Some place) = cond (key.push == place.push) 1 0

abbrev pub times_held : {T : Type 0} → Slots (Place T) → Key → ℕ
times_held slots key = times_in key (value_in slots key.slot)

-- The slots have each future that was pushed, has not ended and was not cancelled.
pub record Agrees {T : Type 0} (slots : Slots (Place T)) (ledger : Account) (cancelled : ℕ) : Type 0 where
  -- the keys of the cancelled futures that have not ended
  pub lame : List Key
  pub as_many : length lame ≡ cancelled
  -- a key has no more tickets than futures that are held or cancelled
  pub tickets : (key : Key) → count_by (same_key key) ledger.tickets ≤ times_held slots key + count_by (same_key key) lame
  -- no notice says that a future that is held was cancelled
  pub told : (slot : ℕ) (place : Place T) → value_in slots slot ≡ Some place → told_to ledger.told slot ≤ place.push

-- what a set keeps between two calls
pub record KeepsLedger {F T : Type 0} (s : Flights F T) : Type 0 where
  pub agrees : Agrees s.slots s.ledger s.cancelled
  -- the ledger gave the ticket of each run and of each future that waits
  pub runs : AllPollable (λ (run : Run F). IsGivenBy s.ledger run.ticket) (runs_in s.running)
  pub waits : AllByRecursion (λ (w : Waits F). IsGivenBy s.ledger w.ticket) s.waiting
  -- no number is above that of the next push
  pub below : (slot : ℕ) → told_to s.ledger.told slot ≤ s.next
