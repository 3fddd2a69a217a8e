-- The machine of single steps as its caller sees it, and how it follows a schedule.
use Rattle.std.specs.Prelude.{◌≡◌, ℕ, List, [], ◌∷◌, ◌++◌, map, slice_index, slice_set}
use Rattle.futures_buffered_table.specs.Types.{Role, Step, StepReply}
use Rattle.futures_buffered_table.specs.Schedule.{Legal, Moment, at_start, replies_of, run}
use Rattle.futures_buffered_table.specs.View.{role_of}
use Rattle.futures_buffered_table.specs.Step.{CanStep, role_at, seat_of, slot_of}
use Rattle.futures_buffered_table.specs.Effect.{next_role, put_by_role, reply_of_role, word_of_role}
use Rattle.futures_buffered_table.specs.Tally.{LosesNoMark}
use Rattle.futures_buffered_table.specs.Whereabouts.{Whereabouts}

-- what a caller sees of a machine between two steps
pub record Machine : Type 0 where
  pub capacity : ℕ
  pub words : List ℕ
  -- the roles of the wake seats, and then the role of the poll seat
  pub roles : List Role

-- these are the words and roles of this moment
abbrev pub AreThoseOf : List ℕ → List Role → Moment → Type 0
AreThoseOf words roles c = (words ≡ c.words) × (roles ≡ map role_of c.views)

-- a machine to which no step was made
abbrev pub IsNew : ℕ → Machine → Type 0
IsNew n m = (m.capacity ≡ n) × AreThoseOf m.words m.roles (at_start n)

-- the step can be made now
abbrev pub CanMake : Machine → Step → Type 0
CanMake m step = CanStep m.capacity m.roles step

-- how the step changes the machine, and what it returns
abbrev pub MakesStep : Machine → Step → Machine → StepReply → Type 0
MakesStep old step new reply =
    let n = old.capacity in let seat = seat_of step in let slot = slot_of step in
    let role = role_at old.roles seat in let word = word_of_role n slot role in
    let found = slice_index old.words word in
    (new.capacity ≡ n)
    × (new.words ≡ slice_set old.words word (put_by_role n role found))
    × (new.roles ≡ slice_set old.roles seat (next_role n slot role found))
    × (reply ≡ reply_of_role n role found)

-- this schedule is legal, and leads a new machine to this one
abbrev pub Leads : List Step → Machine → Type 0
Leads schedule m = Legal m.capacity (at_start m.capacity) schedule
    × AreThoseOf m.words m.roles (run m.capacity (at_start m.capacity) schedule)

-- some legal schedule led here
abbrev pub IsLedTo : Machine → Type 0
IsLedTo m = (schedule : List Step) × Leads schedule m

-- the replies of a whole schedule on a machine of this one's capacity
abbrev pub replies_to : Machine → List Step → List StepReply
replies_to m schedule = replies_of m.capacity (at_start m.capacity) schedule

-- each schedule that led to the old machine leads, with the step added at its end, to the new one, and `reply` comes
-- last
abbrev pub LeadsOn : Machine → Step → Machine → StepReply → Type 0
LeadsOn old step new reply = (schedule : List Step) → Leads schedule old →
    Leads (schedule ++ step ∷ []) new
    × (replies_to new (schedule ++ step ∷ []) ≡ replies_to old schedule ++ reply ∷ [])

-- for each schedule that leads here, by the views that it makes, each slot is in its one place and no mark is lost
abbrev pub PlacesSlots : Machine → Type 0
PlacesSlots m = (schedule : List Step) → Leads schedule m →
    let views = (run m.capacity (at_start m.capacity) schedule).views in
    Whereabouts m.capacity m.words views × LosesNoMark m.capacity m.words views
