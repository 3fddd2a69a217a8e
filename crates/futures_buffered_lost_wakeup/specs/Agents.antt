-- Who steps at the place of the task's waker: a wake, the poller, a sibling. Each may make the steps that the contracts
-- of the place name (`Deed`). Tasks have numbers, and of a waker the law knows the task that it wakes.
use Rattle.std.specs.Prelude.{◌≡◌, ◌≢◌, ℕ, zero, suc, Bool, if◌then◌else◌, Option, Some, None}
use Rattle.futures_buffered_place.specs.declared.view.Deed.{Deed}
use Rattle.futures_buffered_place.specs.declared.view.Deed.TheVariants.{Look, Win, WinFree, Lose, Put, Leave}

-- a step at the place, with the task of the waker that it takes or leaves
abbrev pub Act : Type 0
Act = Deed ℕ

-- what a wake does next, once its slot is in the list
pub data Errand : Type 0 where
  -- nothing: no wake of this seat is under way, or it is still at the list
  Rests : Errand
  -- it reads the word of the place
  Looks : Errand
  -- it goes for the waker that it read is kept
  Tries : Errand
  -- it has the place and this task's waker, and leaves the place empty
  Inside : ℕ → Errand
  -- it has this task's waker, and wakes the task
  Wakes : ℕ → Errand

-- where the poller is
pub data Turn : Type 0 where
  -- no poll is under way, or the poll is done with this list
  Parked : Turn
  -- a poll has begun, and registers its task
  Registers : Turn
  -- the registration goes for the waker that it read is kept
  GoesBack : Turn
  -- the registration has the place, and leaves it empty
  TakesBack : Turn
  -- the poll takes slots from the list
  Asks : Turn
  -- the poller goes for the place with its waker, since it read that one is kept
  GoesOut : Turn
  -- the poller goes for the place with its waker, since it read that none is kept
  GoesFree : Turn
  -- the poller has the place, as its word says, and leaves its waker there
  LaysOut : Turn
  -- the poller alone puts in: it has the place, though the word says that none is kept, and leaves its waker there
  Fills : Turn
  -- the poller met another call at the place, and wakes its own waker, of this task
  Met : ℕ → Turn

-- where a sibling is, a source beside this one that has a waker of an earlier poll; the poller counts as one if it puts
-- a waker in between two polls
pub data Sibling : Type 0 where
  -- it does nothing at the place
  Away : Sibling
  -- it goes for the place, since it read that a waker is kept
  GoesKept : Sibling
  -- it goes for the place, since it read that none is kept
  GoesVacant : Sibling
  -- it alone puts in: it has the place, though the word says that none is kept, and leaves its waker there
  Writes : Sibling
  -- it has the place, as the word says, and leaves its waker there, in place of a waker of this task or of none
  Has : Option ℕ → Sibling
  -- it drops the waker that it replaced, or met another call and wakes its own: this task is woken either way
  LetsGo : ℕ → Sibling

-- Each of the three functions below returns where an agent is after a step, or `None` if it makes no such step there.

-- a wake reads the word, goes for a waker that is kept, and leaves the place empty
abbrev pub wake_after : Errand → Act → Option Errand
wake_after Looks (Look zero) = Some Rests
wake_after Looks (Look (suc zero)) = Some Tries
wake_after Looks (Look (suc (suc n))) = Some Rests
wake_after Tries (Win task) = Some (Inside task)
wake_after Tries (Lose n) = Some Rests
wake_after (Inside task) Leave = Some (Wakes task)
wake_after _ _ = None

-- The poller takes a waker back when it registers, and puts in the one that it has when it asks; `alone` says whether it
-- alone puts in, and `own` whose waker it has.
abbrev pub turn_after : Bool → Option ℕ → Turn → Act → Option Turn
turn_after alone own Registers (Look zero) = Some Registers
turn_after alone own Registers (Look (suc zero)) = Some GoesBack
turn_after alone own Registers (Look (suc (suc n))) = Some Registers
turn_after alone own GoesBack (Win task) = Some TakesBack
turn_after alone own GoesBack (Lose n) = Some Registers
turn_after alone own TakesBack Leave = Some Registers
turn_after alone (Some mine) Asks (Look zero) = Some (if alone then Fills else GoesFree)
turn_after alone (Some mine) Asks (Look (suc zero)) = Some GoesOut
turn_after alone (Some mine) Asks (Look (suc (suc n))) = Some (Met mine)
turn_after alone (Some mine) GoesOut (Win task) = Some LaysOut
turn_after alone (Some mine) GoesOut (Lose n) = Some (Met mine)
turn_after alone (Some mine) GoesFree WinFree = Some LaysOut
turn_after alone (Some mine) GoesFree (Lose n) = Some (Met mine)
turn_after alone (Some mine) LaysOut (Put task) = Some Asks
turn_after alone (Some mine) Fills (Put task) = Some Asks
turn_after alone own _ _ = None

-- a sibling puts in the waker that it has, of the task `mine`, and then drops the one that it replaced
abbrev pub sibling_after : Bool → ℕ → Sibling → Act → Option Sibling
sibling_after alone mine Away (Look zero) = Some (if alone then Writes else GoesVacant)
sibling_after alone mine Away (Look (suc zero)) = Some GoesKept
sibling_after alone mine Away (Look (suc (suc n))) = Some (LetsGo mine)
sibling_after alone mine GoesKept (Win task) = Some (Has (Some task))
sibling_after alone mine GoesKept (Lose n) = Some (LetsGo mine)
sibling_after alone mine GoesVacant WinFree = Some (Has None)
sibling_after alone mine GoesVacant (Lose n) = Some (LetsGo mine)
sibling_after alone mine Writes (Put task) = Some Away
sibling_after alone mine (Has None) (Put task) = Some Away
sibling_after alone mine (Has (Some before)) (Put task) = Some (LetsGo before)
sibling_after alone mine _ _ = None

-- the word that an agent expects if it goes for the place: it loses the place only if it finds another word
abbrev pub wanted_by_turn : Turn → ℕ
wanted_by_turn Turn.GoesFree = 0
wanted_by_turn _ = 1

abbrev pub wanted_by_sibling : Sibling → ℕ
wanted_by_sibling Sibling.GoesVacant = 0
wanted_by_sibling _ = 1

-- an agent loses the place only if the word is not the one that it expects, and puts in only the waker that it has
abbrev pub IsRight : ℕ → Option ℕ → Act → Type 0
IsRight wanted own (Lose n) = n ≢ wanted
IsRight wanted own (Put task) = own ≡ Some task
IsRight wanted own _ = Unit {0}
