-- Groups in a list, and one poll of them: which are polled and in what order, which leave, and where the next poll
-- begins. How one group is polled is a parameter, so a group can be a set or a merge.
use Rattle.std.specs.Prelude.{◌≡◌, ◌⊎◌, ℕ, zero, suc, ◌+◌, Bool, true, cond, nat_lt, List, [], ◌∷◌, ◌++◌, length, take}
use Rattle.std.specs.Prelude.{drop, false, Option, Some, None, refl}
use Rattle.std.specs.Coded.{Coded, code_by, coded×, coded_ℕ, coded_list}
use Rattle.futures.specs.declared.task.context.Context.{Context}
use Rattle.futures.specs.declared.task.Poll.{Poll}
use Rattle.futures.specs.declared.task.Poll.TheVariants.{Ready, Pending}

-- P holds of some element of the list
abbrev pub AnyOf : {X : Type 0} → (X → Type 0) → List X → Type 0
AnyOf P [] = ⊥
AnyOf P (x ∷ xs) = P x ⊎ AnyOf P xs

-- the groups, oldest first, and the place of the group that the next poll polls first; a place past the last group
-- means the first group
pub record Groups (X : Type 0) : Type 0 where
  pub listed : List X
  pub place : ℕ

-- the code of groups in a list, made of the code of one group
abbrev pub groups_code : {X : Type 0} → Coded X → Coded (Groups X)
groups_code {X} code =
    code_by
    (List X × ℕ)
    (coded× (coded_list code) coded_ℕ)
    (λ g. (g.listed, g.place))
    (λ p. record { listed = p.0; place = p.1 })
    (λ _. refl)

-- how many outputs a result has
abbrev pub outputs_in : {A : Type 0} → Poll (Option A) → ℕ
outputs_in Pending = 0
outputs_in (Ready None) = 0
outputs_in (Ready (Some x)) = 1

-- the place of the group that is polled next: the kept place, or the first if the kept one is past the last group
abbrev pub next_place : {X : Type 0} → Groups X → ℕ
next_place g = cond (nat_lt g.place (length g.listed)) g.place 0

-- The list and the place after a poll of the group between `earlier` and `later`, which became `left`. After an output
-- the place is the group's own; after Pending it is the next one. After `None` the group leaves, and the place is the
-- next group's. A group without a later one stays instead, and the place is 0.
abbrev pub LeavesBetween : {X A : Type 0} → List X → List X → X → Poll (Option A) → Groups X → Type 0
LeavesBetween earlier later left (Ready (Some x)) new =
    (new.listed ≡ earlier ++ left ∷ later) × (new.place ≡ length earlier)
LeavesBetween earlier later left Pending new = (new.listed ≡ earlier ++ left ∷ later) × (new.place ≡ length earlier + 1)
LeavesBetween earlier [] left (Ready None) new = (new.listed ≡ earlier ++ left ∷ []) × (new.place ≡ 0)
LeavesBetween earlier (next ∷ later) left (Ready None) new =
    (new.listed ≡ earlier ++ next ∷ later) × (new.place ≡ length earlier)

-- One poll of the group at the next place, which took the groups from `old` to `new` and the task from `cx` to `left`.
-- `asks` says what the poll of the group may return, and what it leaves of the group and of the task.
pub record AsksOne
    {X A : Type 0}
    (asks : X → Poll (Option A) → X → Context → Context → Type 0)
    (old : Groups X)
    (answer : Poll (Option A))
    (new : Groups X)
    (cx left : Context)
    : Type 0 where
  pub group : X
  pub group_left : X
  pub stood : old.listed ≡ take (next_place old) old.listed ++ group ∷ drop (next_place old + 1) old.listed
  pub asked : asks group answer group_left cx left
  pub leaves : LeavesBetween
      (take (next_place old) old.listed) (drop (next_place old + 1) old.listed) group_left answer new

-- A poll of groups, of which `n` are still to be polled. `is_registered` says whether a group polled before them is
-- pending, so that the task is registered already. The group at the next place is polled. An output is the result.
-- After Pending or `None` the poll continues with the next group. After `n` groups without an output the result is
-- `Pending` if a group is pending, otherwise `None`.
abbrev pub AsksInTurn : {X A : Type 0} → (Bool → X → Poll (Option A) → X → Context → Context → Type 0) → ℕ → Bool
    → Groups X → Poll (Option A) → Groups X → Context → Context → Type 0
AsksInTurn asks zero is_registered old answer new cx left =
    (answer ≡ cond is_registered Pending (Ready None)) × (new ≡ old) × (left ≡ cx)
AsksInTurn {X} {A} asks (suc n) is_registered old answer new cx left =
    ((x : A) × (answer ≡ Ready (Some x)) × AsksOne (asks is_registered) old answer new cx left)
    ⊎ (((now : Groups X) × (task : Context)
    × AsksOne (asks is_registered) old Pending now cx task
    × AsksInTurn asks n true now answer new task left)
    ⊎ ((now : Groups X) × (task : Context)
    × AsksOne (asks is_registered) old (Ready None) now cx task
    × AsksInTurn asks n is_registered now answer new task left))

-- the groups in the order in which the next poll polls them
abbrev pub in_turn : {X : Type 0} → Groups X → List X
in_turn g = drop (next_place g) g.listed ++ take (next_place g) g.listed

-- The groups of a list are polled in its order, each once, until one returns an output. `is_registered` says whether a
-- group polled before them is pending.
abbrev pub AsksEach : {X A : Type 0} → (Bool → X → Poll (Option A) → X → Context → Context → Type 0) → List X → Bool
    → Poll (Option A) → Context → Context → Type 0
AsksEach asks [] is_registered answer cx left = (answer ≡ cond is_registered Pending (Ready None)) × (left ≡ cx)
AsksEach {X} {A} asks (group ∷ later) is_registered answer cx left = (group_left : X)
    × (((x : A) × (answer ≡ Ready (Some x)) × asks is_registered group answer group_left cx left)
    ⊎ (((task : Context)
    × asks is_registered group Pending group_left cx task
    × AsksEach asks later true answer task left)
    ⊎ ((task : Context)
    × asks is_registered group (Ready None) group_left cx task
    × AsksEach asks later is_registered answer task left)))

-- a poll of all groups polls each group at most once, in turn, as the group was before the poll
abbrev pub AsksEachOnce : {X A : Type 0} → (Bool → X → Poll (Option A) → X → Context → Context → Type 0) → Type 0
AsksEachOnce {X} {A} asks = (old : Groups X) (answer : Poll (Option A)) (new : Groups X) (cx left : Context)
    → AsksInTurn asks (length old.listed) false old answer new cx left
    → AsksEach asks (in_turn old) false answer cx left
