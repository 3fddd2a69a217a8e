use Rattle.futures_buffered_core.proofs.Common.{◌≡◌, ◌≢◌, ◌-◌, ◌<◌, ℕ, length, get_or, set, false, arith, sym, subst, refl, ◌∙◌, KeepsLinks}
use Rattle.futures_buffered_core.specs.declared.ready_core.ReadyCore.TheInside.{Inside}
use Rattle.futures_buffered_core.specs.ReadyCoreInvariant.{slots_of}
use Rattle.futures_buffered_core.proofs.ReadyCoreLemmas.{KeepsLinks-moved, KeepsLinks-below, KeepsLinks-last, KeepsLinks-tail, IsServed, IsServed-next, IsServed-last, get_or_read, KeepsLinks-found, slots_found}
use Rattle.futures_buffered_core.proofs.ready_core.ReadyCore.take.Goals.{Joined-self-stub, Joined-index-eq0, After-index-2, then-self-stub+else-first-eq0, else-self-stub, then-index-eq0+else-self-slot, else-index-eq0}
use Rattle.futures_buffered_core.proofs.ready_core.ReadyCore.take.Goals as goal

-- the head is a slot, and the row is what it was
record HasMoved (was now : Inside) : Type 0 where
  pub kept : KeepsLinks was.marks.len now.marks.items now.links.items now.head now.tail (slots_of was.links.items was.marks.len was.head)
  pub slot : now.head ≢ was.marks.len
  pub low : now.head < now.links.len
  pub same : now.marks.len ≡ was.marks.len

at_slot : (c : Joined-self-stub) → HasMoved c.self.inside c.if-self-stub.self-inside
at_slot c = elim c.if-self-stub.branch [
  | then-self-stub+else-first-eq0 w ↦
      let read = rw c.len-stub.ensures at w.index-first.ensures in
      let entries = c.self.invariant.entries in
      let moved = KeepsLinks-moved _ _ _ _ _ _ w.index-first.result.now c.self.invariant (w.if-self-stub.true ∙ c.len-stub.ensures)
      (get_or_read c.self.inside.links.items c.self.inside.marks.len w.index-first.result.now (omega arith) read) w.if-first-eq0.false in
      let below = KeepsLinks-below _ _ _ _ _ _ moved.0 moved.1 in
      rw w.self-inside-is (record { kept = moved.0; slot = moved.1; low = omega arith; same = refl })
  | else-self-stub w ↦
      let slot = rw c.len-stub.ensures at w.if-self-stub.false in
      let entries = c.self.invariant.entries in
      let below = KeepsLinks-below _ _ _ _ _ _ c.self.invariant slot in
      rw w.self-inside-is (record { kept = c.self.invariant; slot = slot; low = omega arith; same = refl })
]

pub index-requires : goal.index-requires
index-requires c = (at_slot (goal.at.index-requires c).Joined-self-stub).low

pub returns-then-self-slot-clause-taken : goal.returns-then-self-slot-clause-taken
returns-then-self-slot-clause-taken c =
    let here = at_slot (goal.at.returns-then-self-slot-clause-taken c).Joined-self-stub in
    let read = get_or_read c.if-self-stub.self-inside.links.items c.if-self-stub.self-inside.head c.index.result.now (omega (arith, here.low)) c.index.ensures in
    c.if-self-slot.true (KeepsLinks-last _ _ _ _ _ _ here.kept here.slot (read ∙ c.if-index-eq0.true)).1

pub put_last-requires-clause-tail : goal.put_last-requires-clause-tail
put_last-requires-clause-tail c =
    let here = at_slot (goal.at.put_last-requires-clause-tail c).Joined-self-stub in
    omega (arith, KeepsLinks-tail _ _ _ _ _ _ here.kept)

-- the slot can be taken from what stands there now
record CanTake (was now : Inside) (slot : ℕ) : Type 0 where
  pub served : IsServed was.marks.len now.marks.items now.links.items slot now.tail (slots_of was.links.items was.marks.len was.head)
  pub same : now.marks.len ≡ was.marks.len

can_take : (c : Joined-index-eq0) → HasMoved c.self.inside c.if-self-stub.self-inside →
    CanTake c.self.inside c.if-index-eq0.self-inside c.if-self-stub.self-inside.head
can_take c here = elim c.if-index-eq0.branch [
  | then-index-eq0+else-self-slot w ↦
      let served = IsServed-last _ _ _ _ _ _ here.kept here.slot (named c here ∙ w.if-index-eq0.true) in
      rw w.self-inside-is (record { served = rw (w.put_last.ensures.links, w.put_last.ensures.tail, c.len-stub.ensures) served; same = here.same })
  | else-index-eq0 w ↦
      let served = IsServed-next _ _ _ _ _ _ here.kept here.slot (λ none. w.if-index-eq0.false (sym (named c here) ∙ none)) in
      rw w.self-inside-is (record { served = served; same = here.same })
]
  where
    named : (c : Joined-index-eq0) → HasMoved c.self.inside c.if-self-stub.self-inside →
        get_or c.if-self-stub.self-inside.links.items c.if-self-stub.self-inside.head 0 ≡ c.index.result.now
    named c here = get_or_read c.if-self-stub.self-inside.links.items c.if-self-stub.self-inside.head c.index.result.now (omega (arith, here.low)) c.index.ensures

slot_low : (was now : Inside) (slot : ℕ) → CanTake was now slot → slot < length now.links.items
slot_low was now slot can =
    let below = can.served.below in
    let entries = can.served.kept.entries in
    omega arith

-- what the link of the slot names
named_now : (c : After-index-2) →
    CanTake c.self.inside c.if-index-eq0.self-inside c.if-self-stub.self-inside.head →
    get_or c.if-index-eq0.self-inside.links.items c.if-self-stub.self-inside.head 0 ≡ c.index-2.result.now
named_now c can = get_or_read c.if-index-eq0.self-inside.links.items c.if-self-stub.self-inside.head c.index-2.result.now (slot_low _ _ _ can) c.index-2.ensures

-- the row without the slot is kept
kept_now : (c : After-index-2) →
    (can : CanTake c.self.inside c.if-index-eq0.self-inside c.if-self-stub.self-inside.head) →
    let now = c.if-index-eq0.self-inside in
    KeepsLinks c.self.inside.marks.len (set now.marks.items c.if-self-stub.self-inside.head false) now.links.items (c.index-2.result.now - 1) now.tail can.served.rest
kept_now c can = let now = c.if-index-eq0.self-inside in
    subst (λ (k : ℕ). KeepsLinks c.self.inside.marks.len (set now.marks.items c.if-self-stub.self-inside.head false) now.links.items (k - 1) now.tail can.served.rest)
    (named_now c can) can.served.kept

pub index-requires-2 : goal.index-requires-2
index-requires-2 c =
    let at = goal.at.index-requires-2 c in
    omega (arith, slot_low _ _ _ (can_take at.Joined-index-eq0 (at_slot at.Joined-self-stub)))

pub overflow_sub-self-2 : goal.overflow_sub-self-2
overflow_sub-self-2 c =
    let at = goal.at.overflow_sub-self-2 c in
    let can = can_take at.Joined-index-eq0 (at_slot at.Joined-self-stub) in
    omega (arith, named_now at.After-index-2 can, can.served.some)

pub index_mut-requires : goal.index_mut-requires
index_mut-requires c =
    let at = goal.at.index_mut-requires c in
    let can = can_take at.Joined-index-eq0 (at_slot at.Joined-self-stub) in
    omega (arith, can.served.below, can.same)

pub invariant_of-self-2 : goal.invariant_of-self-2
invariant_of-self-2 c =
    let at = goal.at.invariant_of-self-2 c in
    let can = can_take at.Joined-index-eq0 (at_slot at.Joined-self-stub) in
    rw can.same (KeepsLinks-found _ _ _ _ _ _ (kept_now at.After-index-2 can))

pub returns-clause-taken : goal.returns-clause-taken
returns-clause-taken c =
    let at = goal.at.returns-clause-taken c in
    let can = can_take at.Joined-index-eq0 (at_slot at.Joined-self-stub) in
    let rest = slots_found _ _ _ _ _ _ (kept_now at.After-index-2 can) in
    rw (← c.self.view_is, can.same, rest) can.served.first

pub returns-clause-below : goal.returns-clause-below
returns-clause-below c =
    let at = goal.at.returns-clause-below c in
    let can = can_take at.Joined-index-eq0 (at_slot at.Joined-self-stub) in
    rw (← c.self.view_is) can.served.below
