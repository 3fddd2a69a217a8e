-- What a contract sees of the outputs of a join: at each place the output that has come, or nothing.
use Rattle.std.specs.Prelude.{◌≡◌, ℕ, zero, suc, Bool, List, ◌∷◌, ◌++◌, count_by, drop, length, map, Option, None, Some, MatchOption, slice_get}
use Rattle.std.specs.Prelude.{slice_index_or}
use Rattle.std.specs.Option.{is_none}

-- what comes later, from place 1 on, with nothing at place 0, if there is such a place
abbrev pub from_the_first : {A : Type 0} → ℕ → List (Option A) → List (Option A)
from_the_first zero later = later
from_the_first (suc n) later = None ∷ later

-- the outputs of the first places, and after them what has come later
abbrev pub came_by_place : {A : Type 0} → List A → List (Option A) → List (Option A)
came_by_place gathered all = map Some gathered ++ drop (length gathered) all

-- the output that has come at a place, if any
abbrev pub output_in : {A : Type 0} → List (Option A) → ℕ → Option A
output_in outputs k = slice_index_or outputs k None

-- at how many of these places a future waits
abbrev pub waiting_count : List Bool → ℕ
waiting_count = count_by (λ waits. waits)

-- a future waits at exactly those places at which no output has come
abbrev pub WaitsOrCame : {A : Type 0} → List Bool → List (Option A) → Type 0
WaitsOrCame waiting outputs = waiting ≡ map is_none outputs

-- `may_give` says what the future that waits at a place may give
module _ {A : Type 0} (may_give : ℕ → A → Type 0) (outputs : List (Option A)) where
  -- x may be the output at place k: it has come there, or the future that waits there may give it
  abbrev pub MayComeAt : ℕ → A → Type 0
  MayComeAt k x = MatchOption (output_in outputs k) (may_give k x) (λ done. x ≡ done)

  -- these may be all outputs, one for each place, in the order of the places
  pub record MayComeAll (all : List A) : Type 0 where
    pub as_many : length all ≡ length outputs
    pub each : (k : ℕ) (x : A) → slice_get all k ≡ Some x → MayComeAt k x

-- there are as many outputs as items, and the output at place k is one that item k may give
pub record CameInOrder {F A : Type 0} (may_give : ℕ → F → A → Type 0) (items : List F)
    (outputs : List A) : Type 0 where
  pub as_many : length outputs ≡ length items
  pub each : (k : ℕ) (item : F) (x : A) → slice_get items k ≡ Some item
      → slice_get outputs k ≡ Some x → may_give k item x
