-- No wake is lost. This page says who takes part if wakes of slots wake the task that polled last, which steps each may
-- make, and what never happens, whatever the order of the steps.
use Rattle.std.specs.Prelude.{◌≡◌, ◌≢◌, ◌⊎◌, ℕ, ◌<◌, ◌≤◌, ◌==◌, false, true, if◌then◌else◌, Bool, List, [], ◌∷◌, Option, Some, None, map}
use Rattle.futures_buffered_table.specs.declared.answer.Taken.TheVariants.{Empty, Pause}
use Rattle.futures_buffered_table.specs.declared.answer.Woke.TheVariants.{Fresh}
use Rattle.futures_buffered_table.specs.declared.step.Step.{Step}
use Rattle.futures_buffered_table.specs.declared.step.Step.TheVariants.{Mark, Go, Poll}
use Rattle.futures_buffered_table.specs.declared.step.StepReply.{StepReply}
use Rattle.futures_buffered_table.specs.declared.step.StepReply.TheVariants.{Woke, Taken}
use Rattle.futures_buffered_table.specs.declared.step.TheConstants.{WAKE_SEATS}
use Rattle.futures_buffered_table.specs.declared.view.Phase.TheVariants.{Start, AtStub}
use Rattle.futures_buffered_table.specs.declared.view.Role.{Role}
use Rattle.futures_buffered_table.specs.declared.view.Role.TheVariants.{Idle, Polls}
use Rattle.futures_buffered_table.specs.Effect.{reply_of_role}
use Rattle.futures_buffered_table.specs.Schedule.{Moment, after_step, at_start, found_at, view_at}
use Rattle.futures_buffered_table.specs.Step.{CanStep, role_at, seat_of}
use Rattle.futures_buffered_table.specs.View.{role_of}
use Rattle.futures_buffered_table.specs.Words.{mark}
use Rattle.futures_buffered_place.specs.declared.view.Deed.TheVariants.{Look, Win, WinFree, Lose, Put, Leave}
use Rattle.futures_buffered_lost_wakeup.specs.Agents.{Act, Errand, Rests, Looks, Turn, Parked, Registers, TakesBack, Asks, Met, Sibling, Away, LetsGo}
use Rattle.futures_buffered_lost_wakeup.specs.Agents.{IsRight, sibling_after, turn_after, wake_after, wanted_by_sibling, wanted_by_turn}

-- Who takes part.

-- which agent has the place
pub data Holder : Type 0 where
  -- the wake of this seat
  AWake : ℕ → Holder
  -- the poller
  ThePoller : Holder
  -- a sibling
  ASibling : Holder

-- what the place is between two steps
pub data Stage : Type 0 where
  -- it keeps no waker
  Vacant : Stage
  -- it keeps none, and the only poller writes its own in a poll
  Filling : Stage
  -- it keeps none, and the only poller writes a waker between two polls
  FillingBetween : Stage
  -- it keeps a waker of this task
  Kept : ℕ → Stage
  -- an agent has it
  Lent : Holder → Stage

-- the number that the word of the place holds
abbrev pub word : Stage → ℕ
word Vacant = 0
word Filling = 0
word FillingBetween = 0
word (Kept task) = 1
word (Lent holder) = 3

-- all that takes part, between two steps
pub record Scene : Type 0 where
  -- the words of the list, and the roles of its seats
  pub list : Moment
  -- what the wake of each seat does: first the wake seats of the list, from `WAKE_SEATS` on the wakes of siblings
  pub errands : ℕ → Errand
  pub stage : Stage
  -- whether the poller alone puts wakers in
  pub alone : Bool
  -- the task that polls, or polled last
  pub task : ℕ
  -- the task whose waker the poller keeps with itself, if it keeps one
  pub own : Option ℕ
  pub turn : Turn
  pub sibling : Sibling
  -- whether each task was woken since it last began to poll
  pub woken : ℕ → Bool

-- at first the list is empty, no agent is at the place, and each task is woken
abbrev pub first : ℕ → Scene
first n = record {
  list = at_start n;
  errands = λ _. Rests;
  stage = Vacant;
  alone = true;
  task = 0;
  own = None;
  turn = Parked;
  sibling = Away;
  woken = λ _. true;
}

-- the seat by which the owner of the source marks slots itself, between polls
abbrev pub owner : ℕ
owner = 63

-- Which steps each may make.

pub data Event : Type 0 where
  -- a wake or the poller makes this step of the list
  InList : Step → Event
  -- the wake of this seat makes this step at the place
  WakeDoes : ℕ → Act → Event
  -- the poller makes this step at the place
  PollerDoes : Act → Event
  -- a sibling that has a waker of this task makes this step at the place
  SiblingDoes : ℕ → Act → Event
  -- the wake of this seat wakes this task with the waker that it took
  WakeWakes : ℕ → ℕ → Event
  -- the poller wakes this task with its own waker, since it met another call at the place
  PollerWakes : ℕ → Event
  -- a sibling wakes this task with its own waker, or by the drop of the one that it replaced
  SiblingWakes : ℕ → Event
  -- a fresh wake of a sibling comes to the place
  FromSibling : ℕ → Event
  -- The first task polls. The source that registers has a waker of the second from an earlier poll, or none.
  Begin : ℕ → Option ℕ → Event
  -- the registration drops the waker of this other task, which wakes that task
  DropsOther : ℕ → Event
  -- the registration leaves the task's waker with the poller
  KeepOwn : Event
  -- the registration can make no waker, and the task is woken
  Lacks : Event
  -- a sibling that registered in this list's stead keeps the task's waker, and the task is woken
  Misses : Event
  -- the poll ends, and the task is woken
  Stop : Event
  -- a sibling is made: from here on the poller does not put in alone
  MakesSibling : Event
  -- a waker of this task is dropped elsewhere, as one that the poller replaced, and the task is woken
  IsDropped : ℕ → Event

-- what a step found is what the place holds
abbrev pub IsTrueOf : Stage → Act → Type 0
IsTrueOf stage (Look n) = word stage ≡ n
IsTrueOf stage (Win task) = stage ≡ Kept task
IsTrueOf stage WinFree = word stage ≡ 0
IsTrueOf stage (Lose n) = word stage ≡ n
IsTrueOf stage (Put task) = Unit {0}
IsTrueOf stage Leave = Unit {0}

-- what the place is after a step of this agent
abbrev pub stage_after : Holder → Act → Stage → Stage
stage_after holder (Look n) stage = stage
stage_after holder (Win task) stage = Lent holder
stage_after holder WinFree stage = Lent holder
stage_after holder (Lose n) stage = stage
stage_after holder (Put task) stage = Kept task
stage_after holder Leave stage = Vacant

-- what the poller's seat does next at the list
abbrev pub poller_role : Scene → Role
poller_role s = (view_at s.list Poll).role

-- the poller is between two dequeues
abbrev pub IsAtStart : Role → Type 0
IsAtStart (Polls head Start) = Unit {0}
IsAtStart _ = ⊥

-- the poller has read that the stub links to no slot, and reads the tail next
abbrev pub IsAtStub : Role → Type 0
IsAtStub (Polls head AtStub) = Unit {0}
IsAtStub _ = ⊥

-- the seat is between two errands; if it is the owner's, no poll is under way
abbrev pub IsBetween : Scene → ℕ → Type 0
IsBetween s seat = (s.errands seat ≡ Rests) × (seat ≡ owner → s.turn ≡ Parked)

-- this list's poller is not at the place and does not register, so a sibling may be polled
abbrev pub IsAway : Turn → Type 0
IsAway Parked = Unit {0}
IsAway Asks = Unit {0}
IsAway _ = ⊥

-- who may step at the list: a wake that is not at the place; and the poller, which has put its waker in before it reads
-- the tail at the stub
abbrev pub MayStep : Scene → Step → Type 0
MayStep s (Mark seat slot) = IsBetween s seat
MayStep s (Go seat) = IsBetween s seat
MayStep s Poll = (s.turn ≡ Asks) × (IsAtStub (poller_role s) → s.own ≡ None)

-- The event can happen now. A step at the place is true of its word, and its agent makes it there. A sibling puts in
-- beside other sources, or between two polls.
abbrev pub CanDo : ℕ → Scene → Event → Type 0
CanDo n s (InList step) = CanStep n (map role_of s.list.views) step × MayStep s step
CanDo n s (WakeDoes seat act) = IsTrueOf s.stage act × IsRight 1 None act
    × ((next : Errand) × (wake_after (s.errands seat) act ≡ Some next))
CanDo n s (PollerDoes act) = IsTrueOf s.stage act × IsRight (wanted_by_turn s.turn) s.own act
    × ((next : Turn) × (turn_after s.alone s.own s.turn act ≡ Some next))
CanDo n s (SiblingDoes mine act) = IsTrueOf s.stage act × IsRight (wanted_by_sibling s.sibling) (Some mine) act
    × (s.alone ≡ true → s.turn ≡ Parked) × IsAway s.turn × ((next : Sibling) × (sibling_after s.alone mine s.sibling act ≡ Some next))
CanDo n s (WakeWakes seat task) = s.errands seat ≡ Errand.Wakes task
CanDo n s (PollerWakes task) = s.turn ≡ Met task
CanDo n s (SiblingWakes task) = s.sibling ≡ LetsGo task
CanDo n s (FromSibling seat) = (WAKE_SEATS ≤ seat) × (s.errands seat ≡ Rests)
CanDo n s (Begin task own) = (s.turn ≡ Parked) × (s.sibling ≡ Away)
CanDo n s (DropsOther task) = (s.turn ≡ Registers) × (s.own ≡ Some task) × (task ≢ s.task)
CanDo n s KeepOwn = (s.turn ≡ Registers) × ((s.own ≡ None) ⊎ (s.own ≡ Some s.task))
CanDo n s Lacks = s.turn ≡ Registers
CanDo n s Misses = s.turn ≡ Asks
CanDo n s Stop = (s.turn ≡ Asks) × IsAtStart (poller_role s)
CanDo n s MakesSibling = (s.turn ≡ Parked) × (s.sibling ≡ Away)
CanDo n s (IsDropped task) = Unit {0}

-- What each event changes.

-- the value of one number changes
abbrev pub changed : {A : Type 0} → (ℕ → A) → ℕ → A → ℕ → A
changed values number value other = if other == number then value else values other

-- the errand of one seat changes
abbrev pub with_errand : Scene → ℕ → Errand → Scene
with_errand s seat errand = record s { errands = changed s.errands seat errand }

-- this task is woken
abbrev pub with_woken : Scene → ℕ → Scene
with_woken s task = record s { woken = changed s.woken task true }

-- a fresh wake goes to the place; the owner's does not, since a task polls again by itself
abbrev pub after_fresh : ℕ → Scene → Scene
after_fresh seat s = if seat == owner then with_woken s s.task else with_errand s seat Looks

-- what a reply of the list changes: Empty and Pause end the poll, and at Pause the task is woken
abbrev pub after_reply : ℕ → StepReply → Scene → Scene
after_reply seat (Woke Fresh) s = after_fresh seat s
after_reply seat (Taken Empty) s = record s { turn = Parked }
after_reply seat (Taken Pause) s = record (with_woken s s.task) { turn = Parked }
after_reply seat _ s = s

-- a wake makes this step at the place
abbrev pub wake_did : ℕ → Act → Option Errand → Scene → Scene
wake_did seat act None s = s
wake_did seat act (Some next) s = record (with_errand s seat next) { stage = stage_after (AWake seat) act s.stage }

-- a poller that alone puts in has the place from its look on
abbrev pub filled_by : Turn → Stage → Stage
filled_by Turn.Fills stage = Filling
filled_by _ stage = stage

-- the poller has the waker that it takes back, and none once it put its own in or is to wake it
abbrev pub own_after : Turn → Act → Option ℕ → Option ℕ
own_after TakesBack (Win task) own = Some task
own_after (Met task) act own = None
own_after next (Put task) own = None
own_after next _ own = own

-- the poller makes this step at the place
abbrev pub poller_did : Act → Option Turn → Scene → Scene
poller_did act None s = s
poller_did act (Some next) s = record s {
  turn = next;
  stage = filled_by next (stage_after ThePoller act s.stage);
  own = own_after next act s.own;
}

-- who alone puts in has the place from its look on, between two polls too
abbrev pub written_by : Sibling → Stage → Stage
written_by Sibling.Writes stage = FillingBetween
written_by _ stage = stage

-- a sibling makes this step at the place
abbrev pub sibling_did : Act → Option Sibling → Scene → Scene
sibling_did act None s = s
sibling_did act (Some next) s = record s { sibling = next; stage = written_by next (stage_after ASibling act s.stage) }

-- the scene after an event
abbrev pub after : ℕ → Scene → Event → Scene
after n s (InList step) =
    after_reply (seat_of step) (reply_of_role n (view_at s.list step).role (found_at n s.list step))
    (record s { list = after_step n s.list step })
after n s (WakeDoes seat act) = wake_did seat act (wake_after (s.errands seat) act) s
after n s (PollerDoes act) = poller_did act (turn_after s.alone s.own s.turn act) s
after n s (SiblingDoes mine act) = sibling_did act (sibling_after s.alone mine s.sibling act) s
after n s (WakeWakes seat task) = with_woken (with_errand s seat Rests) task
after n s (PollerWakes task) = record (with_woken s task) { turn = Asks }
after n s (SiblingWakes task) = record (with_woken s task) { sibling = Away }
after n s (FromSibling seat) = with_errand s seat Looks
after n s (Begin task own) = record s { turn = Registers; task = task; own = own; woken = changed s.woken task false }
after n s (DropsOther task) = record (with_woken s task) { own = None }
after n s KeepOwn = record s { own = Some s.task; turn = Asks }
after n s Lacks = record (with_woken s s.task) { turn = Asks }
after n s Misses = record (with_woken s s.task) { own = None }
after n s Stop = record (with_woken s s.task) { turn = Parked }
after n s MakesSibling = record s { alone = false }
after n s (IsDropped task) = with_woken s task

-- What never happens.

-- each event can happen when its turn comes
abbrev pub Legal : ℕ → Scene → List Event → Type 0
Legal n s [] = Unit {0}
Legal n s (event ∷ events) = CanDo n s event × Legal n (after n s event) events

-- the scene after all events, in order
abbrev pub run : ℕ → Scene → List Event → Scene
run n s [] = s
run n s (event ∷ events) = run n (after n s event) events

-- each wake has ended
abbrev pub AllRest : Scene → Type 0
AllRest s = ((seat : ℕ) → s.errands seat ≡ Rests)
    × ((seat : ℕ) → seat < WAKE_SEATS → role_at (map role_of s.list.views) seat ≡ Idle)

-- Whatever the order of events: if each wake has ended, no poll is under way, of this source or of a sibling, and the task
-- that polled last is not woken, then no slot is marked.
abbrev pub NoWakeIsLost : Type 0
NoWakeIsLost = (n : ℕ) (events : List Event) → Legal n (first n) events →
    let s = run n (first n) events in
    AllRest s → s.sibling ≡ Away → s.turn ≡ Parked → s.woken s.task ≡ false →
    (slot : ℕ) → slot < n → mark s.list.words slot ≡ 0
