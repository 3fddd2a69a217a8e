-- Which replies are right, by the positions of marks and dequeues in a list of events.
use Rattle.std.specs.Prelude.{◌≡◌, ℕ, ◌+◌, ◌<◌, ◌≤◌, true, List, [], ◌∷◌, ◌++◌, map, take, length, Some, slice_get}
use Rattle.futures_buffered_core.specs.ReadyCore.{is_marked}
use Rattle.futures_buffered_core.specs.declared.ready_core.Event.{Event}
use Rattle.futures_buffered_core.specs.declared.ready_core.Event.TheVariants as event
use Rattle.futures_buffered_core.specs.declared.ready_core.Reply.{Reply}
use Rattle.futures_buffered_core.specs.declared.ready_core.Reply.TheVariants as reply
use Rattle.futures_buffered_table.specs.declared.answer.Woke.TheVariants.{Fresh, Already}
use Rattle.futures_buffered_table.specs.declared.answer.Taken.TheVariants.{Slot, Empty, Pause}

-- the dequeue at position `r` returned slot `i`
abbrev pub IsNamedAt : List Reply → ℕ → ℕ → Type 0
IsNamedAt replies r i = slice_get replies r ≡ Some (reply.Taken (Slot i))

-- the mark of slot `i` at position `q` is not yet dequeued: no later dequeue returned `i`
abbrev pub IsUnserved : List Event → List Reply → ℕ → ℕ → Type 0
IsUnserved events replies q i = (slice_get events q ≡ Some (event.Mark i))
    × ((r : ℕ) → q < r → IsNamedAt replies r i → ⊥)

-- the reply is right for the next event, after these events and replies
abbrev pub IsRight : List Event → List Reply → Event → Reply → Type 0
-- the mark of `i` at `q` is the oldest of all marks that are not yet dequeued
IsRight events replies event.Take (reply.Taken (Slot i)) = (q : ℕ)
    × IsUnserved events replies q i
    × ((j p : ℕ) → IsUnserved events replies p j → q ≤ p)
IsRight events replies event.Take (reply.Taken Empty) = (j p : ℕ) → IsUnserved events replies p j → ⊥
IsRight events replies event.Take (reply.Taken Pause) = ⊥
IsRight events replies event.Take (reply.Woke _) = ⊥
IsRight events replies (event.Mark i) (reply.Woke Fresh) = (p : ℕ) → IsUnserved events replies p i → ⊥
IsRight events replies (event.Mark i) (reply.Woke Already) = (p : ℕ) × IsUnserved events replies p i
IsRight events replies (event.Mark i) (reply.Taken _) = ⊥

-- the mark of `i` at `q` is not yet dequeued, and is the oldest such mark of `i`
abbrev pub IsOldest : List Event → List Reply → ℕ → ℕ → Type 0
IsOldest events replies q i = IsUnserved events replies q i × ((p : ℕ) → IsUnserved events replies p i → q ≤ p)

-- each of these slots is marked, and they are in the order of their oldest marks not yet dequeued, at positions from
-- `low` on
abbrev pub StandInOrder : List Event → List Reply → ℕ → List ℕ → Type 0
StandInOrder events replies low [] = Unit {0}
StandInOrder events replies low (i ∷ slots) = (q : ℕ)
    × (low ≤ q)
    × IsOldest events replies q i
    × StandInOrder events replies (q + 1) slots

-- the list has the slots that are marked after these events and replies, by their oldest marks not yet dequeued
pub record IsStanding (events : List Event) (replies : List Reply) (slots : List ℕ) : Type 0 where
  pub in_order : StandInOrder events replies 0 slots
  pub all : (i q : ℕ) → IsUnserved events replies q i → is_marked slots i ≡ true

-- a core with these marked slots is judged as if there had been one mark of each slot before, in order
abbrev pub marks_before : List ℕ → List Event
marks_before standing = map (λ i. event.Mark i) standing

abbrev pub replies_before : List ℕ → List Reply
replies_before standing = map (λ _. reply.Woke Fresh) standing

-- each reply is right after the events and replies before it
abbrev pub EachIsRight : List ℕ → List Event → List Reply → Type 0
EachIsRight standing events replies = (p : ℕ) (e : Event) (r : Reply)
    → slice_get events p ≡ Some e → slice_get replies p ≡ Some r
    → IsRight (marks_before standing ++ take p events)
    (replies_before standing ++ take p replies) e r

-- the replies are right, one for each event, and `new` has the slots that are marked after all events
pub record Answers
    (standing : List ℕ)
    (events : List Event)
    (replies : List Reply)
    (new : List ℕ)
    : Type 0 where
  pub each : EachIsRight standing events replies
  pub count : length replies ≡ length events
  pub stands : IsStanding (marks_before standing ++ events) (replies_before standing ++ replies) new
