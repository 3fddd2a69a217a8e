-- Which seat makes a step of a schedule, and when the step can be made.
use Rattle.std.specs.Prelude.{◌≡◌, ◌≢◌, ℕ, ◌<◌, List, slice_index_or}
use Rattle.futures_buffered_table.specs.Types.{Role, Idle, Step, Mark, Go, Poll, WAKE_SEATS}

-- the seat that makes the step
abbrev pub seat_of : Step → ℕ
seat_of (Mark seat slot) = seat
seat_of (Go seat) = seat
seat_of Poll = WAKE_SEATS

-- the slot that an idle seat is to wake; 0 for other steps
abbrev pub slot_of : Step → ℕ
slot_of (Mark seat slot) = slot
slot_of (Go seat) = 0
slot_of Poll = 0

-- the role of a seat
abbrev pub role_at : List Role → ℕ → Role
role_at roles seat = slice_index_or roles seat Idle

-- A wake of a slot below the capacity begins at an idle wake seat. It continues at a wake seat that is not idle. The
-- poller can always step.
abbrev pub CanStep : ℕ → List Role → Step → Type 0
CanStep n roles (Mark seat slot) = (seat < WAKE_SEATS) × (slot < n) × (role_at roles seat ≡ Idle)
CanStep n roles (Go seat) = (seat < WAKE_SEATS) × (role_at roles seat ≢ Idle)
CanStep n roles Poll = Unit {0}
