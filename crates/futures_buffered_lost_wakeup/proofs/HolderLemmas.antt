-- Who has the place. Agents have numbers: 0 is the poller, 1 a sibling, and from 2 on come the wakes of the seats.
use Rattle.futures_buffered_lost_wakeup.proofs.Common.{◌≡◌, ◌≢◌, ℕ, zero, suc, refl, sym, ap, ◌∙◌, subst, inl, inr, Option, Some, None, cases_eq, Errand, Inside, Turn, TakesBack, LaysOut, Fills, Sibling, Writes, Has, Stage, Vacant, Filling, FillingBetween, Kept, Lent, AWake, ThePoller, ASibling, changed, word}
use Rattle.futures_buffered_lost_wakeup.proofs.SceneLemmas.{changed_else}

-- the place as an agent has it, by where the agent is
abbrev pub held_by_turn : Turn → Option Stage
held_by_turn TakesBack = Some (Lent ThePoller)
held_by_turn LaysOut = Some (Lent ThePoller)
held_by_turn Fills = Some Filling
held_by_turn _ = None

abbrev pub held_by_sibling : Sibling → Option Stage
held_by_sibling Writes = Some FillingBetween
held_by_sibling (Has before) = Some (Lent ASibling)
held_by_sibling _ = None

abbrev pub held_by_wake : ℕ → Errand → Option Stage
held_by_wake seat (Inside task) = Some (Lent (AWake seat))
held_by_wake seat _ = None

abbrev pub held_by : Turn → Sibling → (ℕ → Errand) → ℕ → Option Stage
held_by turn sibling errands zero = held_by_turn turn
held_by turn sibling errands (suc zero) = held_by_sibling sibling
held_by turn sibling errands (suc (suc seat)) = held_by_wake seat (errands seat)

-- the agent that has the place, if one has
abbrev pub holder : Stage → Option ℕ
holder Vacant = None
holder Filling = Some 0
holder FillingBetween = Some 1
holder (Kept task) = None
holder (Lent (AWake seat)) = Some (suc (suc seat))
holder (Lent ThePoller) = Some 0
holder (Lent ASibling) = Some 1

-- the place is as the agent that has it says, and no other has it
pub record Agrees (held : ℕ → Option Stage) (stage : Stage) : Type 0 where
  pub tells : (agent : ℕ) (x : Stage) → held agent ≡ Some x → (stage ≡ x) × (holder stage ≡ Some agent)
  pub told : (agent : ℕ) → holder stage ≡ Some agent → held agent ≡ Some stage

pub some_same : {X : Type 0} (x y : X) → Some x ≡ Some y → x ≡ y
some_same x y is = cc

-- one agent goes on
module _ (held held' : ℕ → Option Stage) (agent : ℕ) (same : (other : ℕ) → other ≢ agent → held' other ≡ held other) where
  -- it does not have the place, before or after
  pub moves : (stage : Stage) → held agent ≡ None → held' agent ≡ None → Agrees held stage → Agrees held' stage
  moves stage had has A = record {
    tells = λ other x is. elim (cases_eq other agent) [
      | inl e ↦ let c : None ≡ Some x = sym has ∙ (ap held' (sym e) ∙ is) in absurd cc
      | inr ne ↦ A.tells other x (sym (same other ne) ∙ is)
    ];
    told = λ other is. elim (cases_eq other agent) [
      | inl e ↦ let c : None ≡ Some stage = sym had ∙ (ap held (sym e) ∙ A.told other is) in absurd cc
      | inr ne ↦ same other ne ∙ A.told other is
    ];
  }

  -- it wins the place, which nobody had
  pub wins : (stage stage' : Stage) → holder stage ≡ None → held' agent ≡ Some stage' → holder stage' ≡ Some agent → Agrees held stage → Agrees held' stage'
  wins stage stage' free has mine A = record {
    tells = λ other x is. elim (cases_eq other agent) [
      | inl e ↦ (some_same stage' x (sym has ∙ (ap held' (sym e) ∙ is)), mine ∙ ap Some (sym e))
      | inr ne ↦ let c : None ≡ Some other = sym free ∙ (A.tells other x (sym (same other ne) ∙ is)).1 in absurd cc
    ];
    told = λ other is. let e : agent ≡ other = some_same agent other (sym mine ∙ is) in subst (λ (k : ℕ). held' k ≡ Some stage') e has;
  }

  -- it leaves the place
  pub leaves : (stage stage' x : Stage) → held agent ≡ Some x → held' agent ≡ None → holder stage' ≡ None → Agrees held stage → Agrees held' stage'
  leaves stage stage' x had has free A = record {
    tells = λ other y is. elim (cases_eq other agent) [
      | inl e ↦ let c : None ≡ Some y = sym has ∙ (ap held' (sym e) ∙ is) in absurd cc
      | inr ne ↦ absurd (ne (some_same other agent (sym (A.tells other y (sym (same other ne) ∙ is)).1 ∙ (A.tells agent x had).1)))
    ];
    told = λ other is. let c : None ≡ Some other = sym free ∙ is in absurd cc;
  }

-- the others stay where they are
pub turn_else : (turn turn' : Turn) (sibling : Sibling) (errands : ℕ → Errand) (other : ℕ) → other ≢ 0 → held_by turn' sibling errands other ≡ held_by turn sibling errands other
turn_else turn turn' sibling errands zero ne = absurd (ne refl)
turn_else turn turn' sibling errands (suc zero) ne = refl
turn_else turn turn' sibling errands (suc (suc seat)) ne = refl

pub sibling_else : (turn : Turn) (sibling sibling' : Sibling) (errands : ℕ → Errand) (other : ℕ) → other ≢ 1 → held_by turn sibling' errands other ≡ held_by turn sibling errands other
sibling_else turn sibling sibling' errands zero ne = refl
sibling_else turn sibling sibling' errands (suc zero) ne = absurd (ne refl)
sibling_else turn sibling sibling' errands (suc (suc seat)) ne = refl

pub wake_else : (turn : Turn) (sibling : Sibling) (errands : ℕ → Errand) (seat : ℕ) (errand : Errand) (other : ℕ) → other ≢ suc (suc seat)
    → held_by turn sibling (changed errands seat errand) other ≡ held_by turn sibling errands other
wake_else turn sibling errands seat errand zero ne = refl
wake_else turn sibling errands seat errand (suc zero) ne = refl
wake_else turn sibling errands seat errand (suc (suc other)) ne = ap (held_by_wake other) (changed_else errands seat errand other (λ e. ne (ap (λ (k : ℕ). suc (suc k)) e)))

-- nobody has a place whose word says that none is kept, unless the poller or a sibling fills it
pub vacant_at : (stage : Stage) → word stage ≡ 0 → (stage ≡ Filling → ⊥) → (stage ≡ FillingBetween → ⊥) → stage ≡ Vacant
vacant_at (Kept task) is none none_between = absurd cc
vacant_at Vacant is none none_between = refl
vacant_at Filling is none none_between = absurd (none refl)
vacant_at FillingBetween is none none_between = absurd (none_between refl)
vacant_at (Lent who) is none none_between = absurd cc
