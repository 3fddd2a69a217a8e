-- What a contract sees of a bounded set, and what its calls make of it.
use Rattle.std.specs.Prelude.{◌≡◌, ℕ, ◌+◌, List, length, refl, Result, OnOk, IfErr}
use Rattle.std.specs.List.{range_with_len}
use Rattle.std.specs.Coded.{Coded, code_by, coded×, coded_ℕ}
use Rattle.futures.specs.Task.{Hears}
use Rattle.futures.specs.declared.task.context.Context.{Context}
use Rattle.futures_buffered_core.specs.SlotMap.{Slots, slots_code, held_count, slot_count, no_slots, all_slots}
use Rattle.futures_buffered_core.specs.SlotMap.{Inserts, IsFull}
use Rattle.futures_buffered_table.specs.declared.answer.Woke.{Woke}
use Rattle.futures_buffered_core.specs.ReadySource.{MarksEach}

-- the content of each slot, the content of the source, and how many ready slots one poll takes at most
pub record Bounded (F S : Type 0) : Type 0 where
  pub slots : Slots F
  pub source : S
  pub limit : ℕ

-- the code of a bounded set, made of the codes of its parts
abbrev pub bounded_code : {F S : Type 0} → Coded F → Coded S → Coded (Bounded F S)
bounded_code {F} {S} code source_code =
    code_by
    (Slots F × (S × ℕ))
    (coded× (slots_code code) (coded× source_code coded_ℕ))
    (λ b. (b.slots, (b.source, b.limit)))
    (λ p. record { slots = p.0; source = p.1.0; limit = p.1.1 })
    (λ _. refl)

-- how many values a set holds
abbrev pub held_in : {F S : Type 0} → Bounded F S → ℕ
held_in set = held_count set.slots

-- how many values a set can hold
abbrev pub slots_in : {F S : Type 0} → Bounded F S → ℕ
slots_in set = slot_count set.slots

-- the set has n free slots and no value, a source made for n slots, and this limit
pub record IsNewSet {F S : Type 0} (made : ℕ → S → Type 0) (n limit : ℕ)
    (set : Bounded F S) : Type 0 where
  pub none_held : set.slots ≡ no_slots n
  pub new_source : made n set.source
  pub takes_at_most : set.limit ≡ limit

-- the set with each slot free; the source and the limit do not change
abbrev pub emptied : {F S : Type 0} → Bounded F S → Bounded F S
emptied b = record b { slots = no_slots (slot_count b.slots) }

-- slot k holds item k and no slot is free; each slot was marked, in order, in a source made for this number of slots
pub record HoldsEach
    {F S : Type 0}
    (made : ℕ → S → Type 0)
    (marks : S → ℕ → Woke → S → Type 0)
    (limit : ℕ)
    (items : List F)
    (set : Bounded F S)
    : Type 0 where
  pub slots_hold : set.slots ≡ all_slots items
  pub new_source : S
  pub was_made : made (length items) new_source
  pub marked : MarksEach marks new_source (range_with_len 0 (length items)) set.source
  pub takes_at_most : set.limit ≡ limit

-- a value was put into the first free slot, i, which was then marked
pub record PushesAt
    {F S : Type 0}
    (marks : S → ℕ → Woke → S → Type 0)
    (old : Bounded F S)
    (i : ℕ)
    (value : F)
    (new : Bounded F S)
    : Type 0 where
  pub inserted : Inserts old.slots i value new.slots
  -- what the mark returned: whether the slot was marked already
  pub woke : Woke
  pub marked : marks old.source i woke new.source
  pub same_limit : new.limit ≡ old.limit

-- a value was put into some slot, as `PushesAt` says
abbrev pub Pushes : {F S : Type 0} → (S → ℕ → Woke → S → Type 0) → Bounded F S → F → Bounded F S → Type 0
Pushes marks old value new = (i : ℕ) × PushesAt marks old i value new

-- What a push makes of a set that has a free slot.
pub record PushesOne
    {F S : Type 0}
    (marks : S → ℕ → Woke → S → Type 0)
    (old : Bounded F S)
    (value : F)
    (new : Bounded F S)
    : Type 0 where
  -- the value was put into the first free slot, which was marked
  pub pushed : Pushes marks old value new
  -- the set holds one value more
  pub count : held_in new ≡ held_in old + 1
  -- the number of slots does not change
  pub capacity : slots_in new ≡ slots_in old

-- What a push makes of any set.
pub record PushesIfRoom
    {F S : Type 0}
    (marks : S → ℕ → Woke → S → Type 0)
    (old : Bounded F S)
    (value : F)
    (result : Result (Unit {0}) F)
    (new : Bounded F S)
    : Type 0 where
  -- if the push succeeds, the value was put into a free slot
  pub pushed : OnOk result (PushesOne marks old value new)
  -- if the push fails, no slot was free, the value is returned, and the set does not change
  pub full : IfErr result (λ back. (back ≡ value) × (new ≡ old) × IsFull old.slots)
  -- the number of slots does not change
  pub capacity : slots_in new ≡ slots_in old

-- The task is woken, so `Hears cx s` holds of each source s. In `futures`, `Hears cx s` says that the poll registered
-- at source s or asked for another poll. `Covers` says that this holds of each source that is needed. `Keeps` says that
-- each earlier registration and wake remains.
abbrev pub IsWoken : Context → Type 0
IsWoken cx = (s : ℕ) → Hears cx s
