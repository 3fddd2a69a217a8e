-- What holds of the values in slots, and what polls of them, in the order of ready slots, make of the slots.
use Rattle.std.specs.Prelude.{◌≡◌, ℕ, List, Option, Some, None, MatchOption, IfSome}
use Rattle.futures.specs.declared.task.Poll.{Poll}
use Rattle.futures.specs.declared.task.Poll.TheVariants.{Ready, Pending}
use Rattle.std.specs.List.{FoldsTo}
use Rattle.futures.specs.Runs.{Runs}
use Rattle.futures.specs.Queued.{Gathers}
use Rattle.futures_buffered_core.specs.SlotMap.{Slots, value_in, held_count, with_value}

-- P holds of the value in each slot that has one
abbrev pub AllHeld : {F : Type 0} → (F → Type 0) → Slots F → Type 0
AllHeld P m = (i : ℕ) → IfSome (value_in m i) P

module _ {F A : Type 0} (polled : ℕ → F → Poll A → F → Type 0) where
  -- What ready slot i makes of the slots if it gives no output. An empty slot changes nothing. Otherwise its value is
  -- polled with the waker of the slot, is Pending, and becomes what that poll left. The other slots do not change.
  abbrev pub Passes : Slots F → ℕ → Slots F → Type 0
  Passes m i new = MatchOption (value_in m i)
      (new ≡ m)
      (λ f. (left : F) × polled i f Pending left × (new ≡ with_value m i left))

  -- the value of slot i is polled with the waker of the slot, returns x, and becomes what that poll left; the other
  -- slots do not change
  pub record Yields (m : Slots F) (i : ℕ) (x : A) (new : Slots F) : Type 0 where
    pub value : F
    pub held : value_in m i ≡ Some value
    pub left : F
    pub gave : polled i value (Ready x) left
    pub now_holds : new ≡ with_value m i left

-- the slot holds a value as a poll that returned x left it
abbrev pub EndsWith : {F A : Type 0} → (F → Poll A → F → Type 0) → A → Option F → Type 0
EndsWith {F} polled x None = ⊥
EndsWith {F} polled x (Some f2) = (f : F) × polled f (Ready x) f2

-- a poll of the value may return x, after any number of pending polls
abbrev pub MayGive : {F A : Type 0} → (F → Poll A → F → Type 0) → F → A → Type 0
MayGive {F} polled f x = (later : List F) × (last : F) × (after : F)
    × FoldsTo (λ g h k. polled g Pending h × (k ≡ h)) f later last
    × polled last (Ready x) after

-- some value in the slots may give x, polled with the waker of its slot
abbrev pub AnyMayGive : {F A : Type 0} → (ℕ → F → Poll A → F → Type 0) → Slots F → A → Type 0
AnyMayGive {F} polled m x = (i : ℕ) × (f : F) × (value_in m i ≡ Some f) × MayGive (polled i) f x

-- what a set yields: as many outputs as it holds values, each from one of the values, and then `None`
abbrev pub ComesFrom : {F A : Type 0} → (ℕ → F → Poll A → F → Type 0) → Slots F → Runs A
ComesFrom polled m = Gathers (AnyMayGive polled m) (held_count m)
