-- What holds of every schedule, by its steps and their replies alone: in which order slots are dequeued, and what Empty
-- and Pause say. No fact here uses a word, a link or a view.
use Rattle.std.specs.Prelude.{◌≡◌, ◌⊎◌, ℕ, suc, ◌<◌, ◌==◌, if◌then◌else◌, List, [], ◌∷◌, ◌++◌}
use Rattle.futures_buffered_table.specs.Types.{Slot, Empty, Pause, Step, Mark, Go, Poll, StepReply, More, WAKE_SEATS}
use Rattle.futures_buffered_table.specs.declared.step.StepReply.TheVariants.{Taken}
use Rattle.futures_buffered_table.specs.Step.{seat_of}

-- a step that was made, with its reply; a history has the newest first
pub record Made : Type 0 where
  pub step : Step
  pub reply : StepReply

-- a wake under way: its slot, and how many of its four steps are made; `made` is 0 if no wake is under way
pub record Wake : Type 0 where
  pub slot : ℕ
  pub made : ℕ

-- the wake of the seat after this step of the seat
abbrev pub wake_after : Step → StepReply → Wake → Wake
wake_after (Mark seat i) More w = record { slot = i; made = 1 }
wake_after (Go seat) More w = record { slot = w.slot; made = suc w.made }
wake_after _ _ w = record { slot = 0; made = 0 }

-- the wake that this seat has under way
abbrev pub wake_of : ℕ → List Made → Wake
wake_of seat [] = record { slot = 0; made = 0 }
wake_of seat (t ∷ past) =
    if seat_of t.step == seat then wake_after t.step t.reply (wake_of seat past)
    else wake_of seat past

-- the third step of a wake, its tail swap, enqueues its slot
abbrev pub put_in_by : Step → StepReply → Wake → List ℕ
put_in_by (Go seat) More w = if w.made == 2 then w.slot ∷ [] else []
put_in_by _ _ w = []

-- the enqueued slots, in order
abbrev pub put_in : List Made → List ℕ
put_in [] = []
put_in (t ∷ past) = put_in past ++ put_in_by t.step t.reply (wake_of (seat_of t.step) past)

-- the slot that a reply returns, if any
abbrev pub slot_named : StepReply → List ℕ
slot_named (Taken (Slot i)) = i ∷ []
slot_named _ = []

-- the dequeued slots, in order
abbrev pub answered : List Made → List ℕ
answered [] = []
answered (t ∷ past) = answered past ++ slot_named t.reply

-- some wake seat is between its tail swap, its third step, and its link write, its fourth
abbrev pub WakerStands : List Made → Type 0
WakerStands past = (seat : ℕ) × (seat < WAKE_SEATS) × ((wake_of seat past).made ≡ 3)

-- by the kind of step: the poller continues a dequeue, the poller ends one, or a wake makes a step
abbrev pub by_kind : Type 0 → Type 0 → Type 0 → Step → StepReply → Type 0
by_kind goes_on ends wakes Poll More = goes_on
by_kind goes_on ends wakes Poll _ = ends
by_kind goes_on ends wakes _ _ = wakes

-- a dequeue is under way
abbrev pub IsUnderWay : List Made → Type 0
IsUnderWay [] = ⊥
IsUnderWay (t ∷ past) = by_kind (Unit {0}) ⊥ (IsUnderWay past) t.step t.reply

-- a dequeue is under way, and some wake seat was between tail swap and link write when a step of it was made, or since
abbrev pub WakerStood : List Made → Type 0
WakerStood [] = ⊥
WakerStood (t ∷ past) = by_kind (WakerStands past ⊎ WakerStood past) ⊥
    ((IsUnderWay past × WakerStands (t ∷ past)) ⊎ WakerStood past) t.step t.reply

-- the dequeued slots are a beginning of the enqueued slots
abbrev pub AnswersInOrder : List Made → Type 0
AnswersInOrder history = (rest : List ℕ) × (put_in history ≡ answered history ++ rest)

-- if a dequeue has just returned Empty, all slots that were enqueued before its tail read had been dequeued
abbrev pub EmptyIsTrue : List Made → Type 0
EmptyIsTrue [] = Unit {0}
EmptyIsTrue (t ∷ past) = t.reply ≡ Taken Empty → put_in past ≡ answered past

-- if a dequeue has just returned Pause, some wake seat was between its tail swap and its link write at some moment of
-- that dequeue
abbrev pub PauseHasCause : List Made → Type 0
PauseHasCause [] = Unit {0}
PauseHasCause (t ∷ past) = t.reply ≡ Taken Pause → WakerStands past ⊎ WakerStood past

-- each step has one reply, and the fact holds of the history after each of them
abbrev pub AfterEach : (List Made → Type 0) → List Made → List Step → List StepReply → Type 0
AfterEach Holds past [] [] = Unit {0}
AfterEach Holds past (s ∷ ss) (r ∷ rs) = Holds (record { step = s; reply = r } ∷ past)
    × AfterEach Holds (record { step = s; reply = r } ∷ past) ss rs
AfterEach Holds past _ _ = ⊥
