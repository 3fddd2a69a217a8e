-- What each scene keeps, and what stays of it if one thing changes.
use Rattle.futures_buffered_lost_wakeup.proofs.Common.{◌≡◌, ◌≢◌, ◌⊎◌, ℕ, ◌<◌, List, [], true, sym, ap, ◌∙◌, subst, inl, inr, ⊎_elim, Some, None, cases_eq, some, get_elem?, WAKE_SEATS, Role, Swapped, View, IsReachable, pending, Errand, Rests, Looks, Tries, Inside, Wakes, Turn, Parked, Registers, GoesBack, TakesBack, Met, Sibling, Writes, Has, LetsGo, Scene, Kept, IsAtStart, changed}
use Rattle.futures_buffered_lost_wakeup.proofs.SceneLemmas.{changed_else, changed_here}
use Rattle.futures_buffered_lost_wakeup.proofs.HolderLemmas.{Agrees, held_by}

-- no taking is under way
abbrev pub IsWaiting : Turn → Type 0
IsWaiting Parked = Unit {0}
IsWaiting Registers = Unit {0}
IsWaiting GoesBack = Unit {0}
IsWaiting TakesBack = Unit {0}
IsWaiting _ = ⊥

-- a wake has a waker of this task
abbrev pub Carries : ℕ → Errand → Type 0
Carries task (Inside other) = other ≡ task
Carries task (Wakes other) = other ≡ task
Carries task _ = ⊥

-- a wake has a waker of this task, or is to look for one
abbrev pub Heads : ℕ → Errand → Type 0
Heads task Rests = ⊥
Heads task Looks = Unit {0}
Heads task Tries = Unit {0}
Heads task errand = Carries task errand

abbrev pub SomeWake : (Errand → Type 0) → (ℕ → Errand) → Type 0
SomeWake P errands = (seat : ℕ) × P (errands seat)

-- a sibling drops a waker of this task, or will when it leaves the place
abbrev pub SiblingDrops : ℕ → Sibling → Type 0
SiblingDrops task (Has (Some other)) = other ≡ task
SiblingDrops task (LetsGo other) = other ≡ task
SiblingDrops task _ = ⊥

-- the poller wakes this task next
abbrev pub WakesNext : ℕ → Turn → Type 0
WakesNext task (Met other) = other ≡ task
WakesNext task _ = ⊥

-- the task that polled last is woken, or the poller wakes it next, or a sibling drops its waker
abbrev pub Heard : Scene → Type 0
Heard s = (s.woken s.task ≡ true) ⊎ (SiblingDrops s.task s.sibling ⊎ WakesNext s.task s.turn)

-- or a wake will wake it, or finds its waker
abbrev pub Armed : Scene → Type 0
Armed s = Heard s ⊎ ((s.stage ≡ Kept s.task) ⊎ SomeWake (Carries s.task) s.errands)

-- the poller has its waker, or it is woken, or the poller has no waker and it is armed
abbrev pub Owned : Scene → Type 0
Owned s = (s.own ≡ Some s.task) ⊎ ((s.woken s.task ≡ true) ⊎ ((s.own ≡ None) × Armed s))

abbrev pub ArmedIn : Turn → Scene → Type 0
ArmedIn Parked s = Armed s
ArmedIn Registers s = Unit {0}
ArmedIn GoesBack s = Unit {0}
ArmedIn TakesBack s = Unit {0}
ArmedIn _ s = Owned s

abbrev pub IsSwapped : Role → Type 0
IsSwapped (Swapped slot before) = Unit {0}
IsSwapped _ = ⊥

-- some wake is between its tail swap and its end
abbrev pub SwapsIn : List View → Type 0
SwapsIn views = (seat : ℕ) × (seat < WAKE_SEATS) × ((v : View) × (get_elem? views seat ≡ some v) × IsSwapped v.role)

abbrev pub Busy : Scene → Type 0
Busy s = SomeWake (Heads s.task) s.errands ⊎ SwapsIn s.list.views

-- the row holds no slot, or some wake will come to the place, or has the task's waker
abbrev pub Seen : (n : ℕ) (s : Scene) → IsReachable n s.list → Type 0
Seen n s reach = s.turn ≡ Parked → (Heard s → ⊥) → (pending n s.list reach ≡ []) ⊎ Busy s

abbrev pub Waits : Turn → List View → Type 0
Waits turn views = IsWaiting turn → (v : View) → get_elem? views WAKE_SEATS ≡ some v → IsAtStart v.role

pub record IsKept (n : ℕ) (s : Scene) : Type 0 where
  pub reach : IsReachable n s.list
  pub waits : Waits s.turn s.list.views
  pub agrees : Agrees (held_by s.turn s.sibling s.errands) s.stage
  pub parked : s.sibling ≡ Writes → s.turn ≡ Parked
  pub armed : ArmedIn s.turn s
  pub seen : Seen n s reach

-- what is armed stays so, where the poller stays
pub armed_by : (turn : Turn) (s now : Scene) → (Armed s → Armed now) → (s.woken s.task ≡ true → now.woken now.task ≡ true) → now.task ≡ s.task → now.own ≡ s.own → ArmedIn turn s → ArmedIn turn now
armed_by Parked s now once woken task own a = once a
armed_by Registers s now once woken task own a = tt
armed_by GoesBack s now once woken task own a = tt
armed_by TakesBack s now once woken task own a = tt
armed_by turn s now once woken task own a = ⊎_elim (λ mine. inl (own ∙ (mine ∙ ap Some (sym task))))
    (⊎_elim (λ w. inr (inl (woken w))) (λ none. inr (inr (own ∙ none.0, once none.1)))) a

-- one wake goes on
pub some_on : (P : Errand → Type 0) (X : Type 0) (errands : ℕ → Errand) (seat : ℕ) (errand : Errand) → (P (errands seat) → X ⊎ P errand)
    → SomeWake P errands → X ⊎ SomeWake P (changed errands seat errand)
some_on P X errands seat errand here some_wake = elim (cases_eq some_wake.0 seat) [
  | inl e ↦ ⊎_elim (λ x. inl x) (λ p. inr (seat, subst P (sym (changed_here errands seat errand)) p)) (here (subst (λ (k : ℕ). P (errands k)) e some_wake.1))
  | inr ne ↦ inr (some_wake.0, subst P (sym (changed_else errands seat errand some_wake.0 ne)) some_wake.1)
]

pub way_here : (task : ℕ) (errands : ℕ → Errand) (seat : ℕ) (errand : Errand) → Heads task errand → SomeWake (Heads task) (changed errands seat errand)
way_here task errands seat errand heads = (seat, subst (Heads task) (sym (changed_here errands seat errand)) heads)

heads_with : (task : ℕ) (errand : Errand) → Carries task errand → Heads task errand
heads_with task (Inside other) has = has
heads_with task (Wakes other) has = has
heads_with task errand has = absurd has

-- if a task that sleeps is armed, and its waker is not at the place, a wake has it
pub way_of_armed : (s : Scene) → s.stage ≢ Kept s.task → (Heard s → ⊥) → Armed s → SomeWake (Heads s.task) s.errands
way_of_armed s none asleep armed = ⊎_elim (λ heard. absurd (asleep heard))
    (⊎_elim (λ is. absurd (none is)) (λ wakes. (wakes.0, heads_with s.task (s.errands wakes.0) wakes.1))) armed

pub armed_parked : (n : ℕ) (s : Scene) → IsKept n s → s.turn ≡ Parked → Armed s
armed_parked n s kept parked = subst (λ (turn : Turn). ArmedIn turn s) parked kept.armed
