-- Values by their numbers, and what a poller's role and its replies say of the row.
use Rattle.futures_buffered_lost_wakeup.proofs.Common.{◌≡◌, ◌≢◌, ℕ, ◌<◌, Bool, true, false, List, [], ◌∷◌, ◌++◌, get_or, refl, sym, ap, ◌∙◌, subst, inl, inr, arith, ◌==◌, if◌then◌else◌, cases_eq, cases_lt, times, KeepsRow, next_role, reply_of_role, word_of_role, some, get_elem?, Empty, StepReply, Woke, Taken, WAKE_SEATS, AtomicStep, Role, Polls, View, alone, in_hand, put_by, row_slots, same_else, slots_slot, slots_stub, IsPolls, IsAtStart, IsAtStub, changed}
use Rattle.std.proofs.lemmas.Bool.Decides.{nat_tests}
use Rattle.futures_buffered_table.specs.declared.view.Phase.{Phase}

pub same_yes : (a b : ℕ) → a ≡ b → (a == b) ≡ true
same_yes a b is = grind (arith, nat_tests)

pub same_no : (a b : ℕ) → a ≢ b → (a == b) ≡ false
same_no a b ne = grind (arith, nat_tests)

-- the value of one number changes, and no other
pub changed_here : {A : Type 0} (values : ℕ → A) (number : ℕ) (value : A) → changed values number value number ≡ value
changed_here values number value = ap (λ (b : Bool). if b then value else values number) (same_yes number number refl)

pub changed_else : {A : Type 0} (values : ℕ → A) (number : ℕ) (value : A) (other : ℕ) → other ≢ number → changed values number value other ≡ values other
changed_else values number value other ne = ap (λ (b : Bool). if b then value else values other) (same_no other number ne)

-- the task is woken, and who was woken stays so
pub woken_by : (woken : ℕ → Bool) (task other : ℕ) → task ≡ other → changed woken task true other ≡ true
woken_by woken task other e = subst (λ (k : ℕ). changed woken task true k ≡ true) e (changed_here woken task true)

pub woken_stays : (woken : ℕ → Bool) (task other : ℕ) → woken other ≡ true → changed woken task true other ≡ true
woken_stays woken task other is = elim (cases_eq other task) [
  | inl e ↦ woken_by woken task other (sym e)
  | inr ne ↦ changed_else woken task true other ne ∙ is
]

-- a reply that ends a taking leaves the poller at the start of the next
abbrev pub IsTaken : StepReply → Type 0
IsTaken (Taken answer) = Unit {0}
IsTaken _ = ⊥

pub taken_starts : (n m slot : ℕ) (role : Role) (found : ℕ) → IsTaken (reply_of_role n role found) → IsAtStart (next_role m slot role found)
taken_starts n m slot role found taken = grind arith

-- Empty is answered at the stub, where the tail names it too
abbrev pub IsEmpty : StepReply → Type 0
IsEmpty (Taken Empty) = Unit {0}
IsEmpty _ = ⊥

pub empty_at_stub : (n : ℕ) (role : Role) (found : ℕ) → IsEmpty (reply_of_role n role found) → IsAtStub role × (found ≡ n)
empty_at_stub n role found empty = grind arith

-- there the row holds no slot
pub none_at_stub : (n h : ℕ) (rest words : List ℕ) (views : List View) → KeepsRow n h rest WAKE_SEATS words views → (phase : Phase) (steps : List AtomicStep)
    → get_elem? views WAKE_SEATS ≡ some (record { stub = n; role = Polls h phase; steps = steps })
    → IsAtStub (Polls h phase) → get_or words (word_of_role n 0 (Polls h phase)) 0 ≡ n → in_hand (Polls h phase) ++ row_slots n (h ∷ rest) ≡ []
none_at_stub n h rest words views R phase steps at stub is = grind (arith, alone, slots_stub)

-- a slot is not in a row that holds none
pub times_none : (n e : ℕ) (row : List ℕ) → e < n → row_slots n row ≡ [] → times e row ≡ 0
times_none n e [] lt none = refl
times_none n e (x ∷ xs) lt none = elim (cases_lt x n) [
  | inl below ↦ let first = slots_slot n x xs below in absurd cc
  | inr past ↦
      let later : row_slots n (x ∷ xs) ≡ row_slots n xs = grind (arith, nat_tests) in
      omega (arith, times_none n e xs lt (sym later ∙ none), same_else e x (λ z. omega arith))
]

-- the poller's hand is empty between two takings
pub hand_at_start : (h : ℕ) (phase : Phase) → IsAtStart (Polls h phase) → in_hand (Polls h phase) ≡ []
hand_at_start h phase start = grind arith

-- the poller ends no wake
abbrev pub IsWoke : StepReply → Type 0
IsWoke (Woke how) = Unit {0}
IsWoke _ = ⊥

pub polls_wake_none : (n : ℕ) (role : Role) (found : ℕ) → IsPolls role → IsWoke (reply_of_role n role found) → ⊥
polls_wake_none n role found polls woke = grind arith

pub stub_polls : (role : Role) → IsAtStub role → (put_by role ≡ []) × (in_hand role ≡ [])
stub_polls role stub = grind arith
