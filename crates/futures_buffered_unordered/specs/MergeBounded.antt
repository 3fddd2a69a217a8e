-- What the streams of a merge return over many polls.
use Rattle.std.specs.Prelude.{◌≡◌, ℕ, ◌==◌, cond, List, [], ◌∷◌, ◌++◌, Option, Some, None, filter_map}
use Rattle.std.specs.List.{FoldsTo}
use Rattle.futures.specs.declared.task.context.Context.{Context}
use Rattle.futures.specs.declared.task.Poll.{Poll}
use Rattle.futures.specs.Runs.{Runs, seconds}
use Rattle.futures_buffered_core.specs.SlotMap.{Slots, value_in}
use Rattle.futures_buffered_unordered.specs.FuturesUnorderedBounded.{Bounded, Pushes}
use Rattle.futures_buffered_unordered.specs.PollsBounded.{ReadySourceOf}
use Rattle.futures_buffered_unordered.specs.SlotStream.{items_in, Became}
use Rattle.futures_buffered_unordered.specs.StreamAnswers.{OfSomeTask}
use Rattle.futures_buffered_unordered.specs.Merging.{PollsMergeBounded, SlotStreamOf}

-- of items that are each paired with a number, the items paired with `j`
abbrev pub items_at : {A : Type 0} → ℕ → List (ℕ × A) → List A
items_at j = filter_map (λ p. cond (p.0 == j) (Some p.1) None)

-- what happened to a merge: a poll and what it returned, or a push of a stream
pub data MergeEvent (F A : Type 0) : Type 0 where
  answered : Poll (Option A) → MergeEvent F A
  pushed : F → MergeEvent F A

-- one poll of some task, or one push
abbrev pub Happens : {Q F A : Type 0} → (Q → Poll (Option A) → Q → Context → Context → Type 0)
    → (Q → F → Q → Type 0) → Q → MergeEvent F A → Q → Type 0
Happens polls pushes old (answered answer) new = OfSomeTask polls old answer new
Happens polls pushes old (pushed stream) new = pushes old stream new

-- what the polls returned, and the streams that were pushed, each in order
abbrev pub answers_of : {F A : Type 0} → List (MergeEvent F A) → List (Poll (Option A))
answers_of [] = []
answers_of (answered answer ∷ events) = answer ∷ answers_of events
answers_of (pushed stream ∷ events) = answers_of events

abbrev pub streams_of : {F A : Type 0} → List (MergeEvent F A) → List F
streams_of [] = []
streams_of (answered answer ∷ events) = streams_of events
streams_of (pushed stream ∷ events) = stream ∷ streams_of events

-- A slot held `held` and then these streams, each pushed once the one before it had ended. The items are all that these
-- streams returned, one stream after another, and the slot holds `now`.
abbrev pub HeldInTurn : {F A : Type 0} → (F → Poll (Option A) → F → Type 0)
    → Option F → List F → List A → Option F → Type 0
HeldInTurn polled held [] items now = Became polled held items now
HeldInTurn {A = A} polled held (stream ∷ later) items now = (first : List A) × (rest : List A)
    × (items ≡ first ++ rest)
    × Became polled held first None
    × HeldInTurn polled (Some stream) later rest now

module _ {F A : Type 0} (polled : ℕ → F → Poll (Option A) → F → Type 0) where
  -- the items, each with the slot of the stream that returned it, are all that the streams returned between `old` and
  -- `new`
  abbrev pub StreamsGave : Slots F → List (ℕ × A) → Slots F → Type 0
  StreamsGave old given new = (j : ℕ) → Became (polled j) (value_in old j) (items_at j given) (value_in new j)

  -- what may come from the streams that are held: items of each in its order, and `None` if each stream has ended
  abbrev pub ComesFromStreams : Slots F → Runs A
  ComesFromStreams m items (Some x) = (given : List (ℕ × A)) × (i : ℕ) × (left : Slots F)
      × (items ≡ seconds given)
      × StreamsGave m (given ++ (i, x) ∷ []) left
  ComesFromStreams m items None = (given : List (ℕ × A)) × (left : Slots F)
      × (items ≡ seconds given)
      × ((j : ℕ) → value_in left j ≡ None)
      × StreamsGave m given left

  -- The streams were pushed into slots that held `old`. The items, each with a slot, are all that the streams of that
  -- slot returned one after another: at first the stream that the slot held, and then those that were pushed into it.
  abbrev pub SlotsGaveInTurn : Slots F → List A → List F → Slots F → Type 0
  SlotsGaveInTurn old items streams new = (given : List (ℕ × A)) × (into : List (ℕ × F))
      × (items ≡ seconds given)
      × (streams ≡ seconds into)
      × ((j : ℕ) → HeldInTurn (polled j) (value_in old j) (items_at j into)
      (items_at j given) (value_in new j))

module _
    {St W A S : Type 0}
    (stream : SlotStreamOf St W A)
    (source : ReadySourceOf S W)
  where
    -- after any polls, the items that they returned are, each with a slot, all that the streams returned
    abbrev pub KeepsOrder : Type 0
    KeepsOrder = (old new : Bounded St S) (answers : List (Poll (Option A)))
        → FoldsTo (OfSomeTask (PollsMergeBounded stream source)) old answers new
        → (given : List (ℕ × A)) × (items_in answers ≡ seconds given)
        × StreamsGave stream.polled old.slots given new.slots

    -- after any polls and pushes, the items that the polls returned are all that the streams held at first and the
    -- pushed streams returned
    abbrev pub KeepsOrderWithPushes : Type 0
    KeepsOrderWithPushes = (old new : Bounded St S) (events : List (MergeEvent St A))
        → FoldsTo (Happens (PollsMergeBounded stream source) (Pushes source.marks)) old events new
        → SlotsGaveInTurn stream.polled old.slots
        (items_in (answers_of events)) (streams_of events) new.slots
