-- What a contract sees of a ready core, and how one event changes it.
use Rattle.std.specs.Prelude.{◌≡◌, ℕ, ◌<◌, Bool, true, false, eqb, List, [], ◌∷◌, ◌++◌}
use Rattle.std.specs.List.{list_any}
use Rattle.futures_buffered_core.specs.ReadySource.{SourceLaws, WaitsNowhere, laws_of_takes, only_takes}
use Rattle.futures_buffered_table.specs.declared.answer.Woke.{Woke}
use Rattle.futures_buffered_table.specs.declared.answer.Woke.TheVariants.{Fresh, Already}
use Rattle.futures_buffered_table.specs.declared.answer.Taken.{Taken}
use Rattle.futures_buffered_table.specs.declared.answer.Taken.TheVariants.{Slot, Empty, Pause}

-- the capacity, and the marked slots by their oldest marks not yet dequeued
pub record Standing : Type 0 where
  pub capacity : ℕ
  pub marked : List ℕ

-- the slot `i` is marked
abbrev pub is_marked : List ℕ → ℕ → Bool
is_marked standing i = list_any (eqb i) standing

-- one mark of slot `i`: a newly marked slot comes last, and a slot that was marked keeps its place
abbrev pub MarkGives : List ℕ → ℕ → Woke → List ℕ → Type 0
MarkGives old i Fresh new = (is_marked old i ≡ false) × (new ≡ old ++ i ∷ [])
MarkGives old i Already new = (is_marked old i ≡ true) × (new ≡ old)

-- one dequeue: it removes the first slot and returns it; it returns `Empty` if no slot is marked, and never `Pause`
abbrev pub TakeGives : List ℕ → Taken → List ℕ → Type 0
TakeGives old (Slot i) new = old ≡ i ∷ new
TakeGives old Empty new = (old ≡ []) × (new ≡ old)
TakeGives old Pause new = ⊥

-- a slot that a dequeue returns is below `n`
abbrev pub IsNameBelow : ℕ → Taken → Type 0
IsNameBelow n (Slot i) = i < n
IsNameBelow n Empty = Unit {0}
IsNameBelow n Pause = Unit {0}

-- one mark of slot `i`, of a whole core
abbrev pub Marks : Standing → ℕ → Woke → Standing → Type 0
Marks old i woke new = MarkGives old.marked i woke new.marked × (new.capacity ≡ old.capacity)

-- one dequeue, of a whole core
abbrev pub Takes : Standing → Taken → Standing → Type 0
Takes old taken new = TakeGives old.marked taken new.marked
    × IsNameBelow old.capacity taken
    × (new.capacity ≡ old.capacity)

-- the laws of a core as a source at which a registration changes nothing
abbrev pub core_laws : SourceLaws Marks (only_takes Takes) WaitsNowhere (λ (s : Standing). s.capacity)
core_laws = laws_of_takes Marks Takes (λ s. s.capacity) (λ old i new taken. taken.1)
    (λ old i woke new marked. marked.1) (λ old taken new took. took.2)
