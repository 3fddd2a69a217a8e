-- The views of seats: as they begin, are split, and go into another.
use Rattle.std.specs.Prelude.{ℕ, List, [], ◌∷◌, ◌++◌, replicate}
use Rattle.futures_buffered_table.specs.Types.{Start, Role, Idle, Polls, View}

-- what a seat is about to do
abbrev pub role_of : View → Role
role_of v = v.role

-- the poll seat's at first: its head is the stub
abbrev pub first_poller : ℕ → View
first_poller n = record { stub = n; role = Polls n Start; steps = [] }

-- the view of a new wake seat, split from another seat of its list
abbrev pub new_waker_beside : View → View
new_waker_beside v = record { stub = v.stub; role = Idle; steps = [] }

-- so many idle wake seats, and the poll seat
abbrev pub first_views : ℕ → ℕ → List View
first_views count n = replicate count (new_waker_beside (first_poller n)) ++ first_poller n ∷ []

-- the same seat, and none of its steps
abbrev pub without_steps : View → View
without_steps v = record { stub = v.stub; role = v.role; steps = [] }

-- the view of a new wake seat, split from another seat of its list, with the steps of that seat
abbrev pub waker_with_steps_of : View → View
waker_with_steps_of v = record { stub = v.stub; role = Idle; steps = v.steps }

-- the seat that another went into keeps the steps of both
abbrev pub with_steps_of : View → View → View
with_steps_of v w = record { stub = v.stub; role = v.role; steps = v.steps ++ w.steps }

-- a seat that went into another is idle, and has no steps
abbrev pub spent_view : View
spent_view = record { stub = 0; role = Idle; steps = [] }
