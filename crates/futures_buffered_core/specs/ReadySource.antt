-- How calls may change a source, and what the laws of sources cite.
use mathlib.Core.Path.{ap}
use Rattle.std.specs.Prelude.{◌≡◌, ◌<◌, ◌↔◌, ℕ, List, refl}
use Rattle.std.specs.List.{FoldsTo, range_with_len}
use Rattle.futures_buffered_table.specs.declared.answer.Taken.{Taken}
use Rattle.futures_buffered_table.specs.declared.answer.Taken.TheVariants.{Slot}
use Rattle.futures_buffered_table.specs.declared.answer.Woke.{Woke}

-- how a poll may change a source: by a registration, and by a dequeue with its result
pub record SourceSteps (S : Type 0) : Type 1 where
  pub registers : S → S → Type 0
  pub takes : S → Taken → S → Type 0

-- some dequeue that returned slot `i` left the source as `s`
abbrev pub IsNamed : {S : Type 0} → (S → Taken → S → Type 0) → S → ℕ → Type 0
IsNamed {S} takes s i = (old : S) × takes old (Slot i) s

-- both wait at the same sources of `futures`, by what a source needs
abbrev pub WaitsAlike : {S : Type 0} → (S → ℕ → Type 0) → S → S → Type 0
WaitsAlike needs a b = (n : ℕ) → needs a n ↔ needs b n

module _ {S : Type 0} (marks : S → ℕ → Woke → S → Type 0) (steps : SourceSteps S)
    (needs : S → ℕ → Type 0)
  where
    -- What holds of each source. It dequeues only slots of its own, and its calls keep their number. No dequeue or
    -- registration adds a place at which it waits.
    pub record SourceLaws (slots : S → ℕ) : Type 0 where
      -- a slot that is dequeued is below the capacity
      pub names_below : (old : S) (i : ℕ) (new : S) → steps.takes old (Slot i) new → i < slots old
      -- no call changes the capacity
      pub mark_keeps : (old : S) (i : ℕ) (woke : Woke) (new : S) → marks old i woke new → slots new ≡ slots old
      pub take_keeps : (old : S) (taken : Taken) (new : S) → steps.takes old taken new → slots new ≡ slots old
      pub register_keeps : (old new : S) → steps.registers old new → slots new ≡ slots old
      -- after either call a registration waits at no more places than before
      pub take_needs : (old : S) (taken : Taken) (new : S) → steps.takes old taken new
          → (n : ℕ) → needs new n → needs old n
      pub register_needs : (old new : S) → steps.registers old new → (n : ℕ) → needs new n → needs old n

    -- what holds of each source that permanently waits at the same places, so that siblings stay siblings
    pub record WaitsForGood : Type 0 where
      -- a registration may leave the source as it is: if no task registers here, since a sibling did, the same holds as
      -- after one
      pub covered : (s : S) → steps.registers s s
      -- no call changes where the source waits
      pub mark_waits : (old : S) (i : ℕ) (woke : Woke) (new : S) → marks old i woke new → WaitsAlike needs old new
      pub take_waits : (old : S) (taken : Taken) (new : S) → steps.takes old taken new → WaitsAlike needs old new
      pub register_waits : (old new : S) → steps.registers old new → WaitsAlike needs old new

-- one mark of slot i, whatever it returns
abbrev pub MarksSlot : {S : Type 0} → (S → ℕ → Woke → S → Type 0) → S → ℕ → S → Type 0
MarksSlot marks old i new = (woke : Woke) × marks old i woke new

-- one mark of each slot of the list, in order, leads from the source before to the source after
abbrev pub MarksEach : {S : Type 0} → (S → ℕ → Woke → S → Type 0) → S → List ℕ → S → Type 0
MarksEach marks = FoldsTo (MarksSlot marks)

-- a source was made for n slots, and then each slot was marked, in order
pub record IsMadeMarked
    {S : Type 0}
    (made : ℕ → S → Type 0)
    (marks : S → ℕ → Woke → S → Type 0)
    (n : ℕ)
    (source : S)
    : Type 0 where
  pub new_source : S
  pub was_made : made n new_source
  pub marked : MarksEach marks new_source (range_with_len 0 n) source

-- how a poll may change a source at which a registration changes nothing
abbrev pub only_takes : {S : Type 0} → (S → Taken → S → Type 0) → SourceSteps S
only_takes takes = record { registers = λ old new. new ≡ old; takes = takes }

-- a registration waits at no place
abbrev pub WaitsNowhere : {S : Type 0} → S → ℕ → Type 0
WaitsNowhere source n = ⊥

module _ {S : Type 0} (marks : S → ℕ → Woke → S → Type 0) (takes : S → Taken → S → Type 0) where
  -- the laws of a source at which a registration changes nothing and waits nowhere, by the laws of its marks and
  -- dequeues
  abbrev pub laws_of_takes : (slots : S → ℕ) → ((old : S) (i : ℕ) (new : S) → takes old (Slot i) new → i < slots old)
      → ((old : S) (i : ℕ) (woke : Woke) (new : S) → marks old i woke new → slots new ≡ slots old)
      → ((old : S) (taken : Taken) (new : S) → takes old taken new → slots new ≡ slots old)
      → SourceLaws marks (only_takes takes) WaitsNowhere slots
  laws_of_takes slots below mark take = record {
    names_below = below;
    mark_keeps = mark;
    take_keeps = take;
    register_keeps = λ old new same. ap slots same;
    take_needs = λ old taken new h n waits. waits;
    register_needs = λ old new same n waits. waits;
  }

  -- the source never waits at any place
  abbrev pub never_waits : WaitsForGood marks (only_takes takes) WaitsNowhere
  never_waits = record {
    covered = λ s. refl;
    mark_waits = λ old i woke new h n. (λ waits. waits, λ waits. waits);
    take_waits = λ old taken new h n. (λ waits. waits, λ waits. waits);
    register_waits = λ old new h n. (λ waits. waits, λ waits. waits);
  }
