-- What holds of an ordered queue over a bounded set: what a new one keeps, how many names a poll takes, and what may come.
use Rattle.futures_buffered_ordered.proofs.Common.{◌≡◌, ℕ, ◌+◌, ◌*◌, ◌<◌, ◌≤◌, List, [], ◌∷◌, ◌++◌, length, cond, is_some, Option, Some, None, IfNone, sym, refl, ap, subst, arith, ◌∙◌, add-one, FoldsTo, append_assoc, length-replicate, sum_by-replicate, MAX_CAPACITY, Covers, IfReady, OnPending, Context, Poll, Ready, Pending, slot_count, slots_in, held_count, no_slots, Bounded, held_in, ReadySourceOf, PollOneOf, EndsPending, PollsBounded, covers_fewer, held_with, of_numbered, BesideTask, Ordered, OrderedGives, SetYields, with_task, OrderedBounded, PollsOrderedBounded, SetGives, TakesFewNames, names_of_row, KeepsQueue, Numbered}
use Rattle.std.proofs.Math.Nat.{mul-le-mul_left, mul-suc}
use Rattle.futures_buffered_table.specs.declared.answer.Taken.{Taken}
use Rattle.futures_buffered_table.specs.declared.answer.Taken.TheVariants.{Slot, Empty, Pause}
use Rattle.futures_buffered_ordered.proofs.OrderedEntriesInvariantLemmas.{new_is_numbered, still_keeps}
use Rattle.futures_buffered_ordered.proofs.NumberedLemmas.{in_slots, numbers_none}
use Rattle.futures_buffered_ordered.proofs.OrderedEntriesLemmas.{gives_alone}

module _ {F A S : Type 0} where
  -- marks change neither what is held nor the entries
  pub marked_keeps : (old : OrderedBounded F A S) (new : Bounded (Numbered F) S) → new.slots ≡ old.set.slots → KeepsQueue held_with held_in slots_in old → KeepsQueue held_with held_in slots_in (record { set = new; entries = old.entries; room = old.room })
  marked_keeps old new same keeps =
      still_keeps held_with held_in slots_in old (record { set = new; entries = old.entries; room = old.room }) keeps
      (record { as_many = λ n. ap (in_slots n) same ∙ keeps.numbered.as_many n; counted = ap held_count same ∙ keeps.numbered.counted }) (ap slot_count same) refl

  -- free slots, no entry, and room for an entry of each slot
  pub new_keeps : (q : OrderedBounded F A S) (cap : ℕ) → q.set.slots ≡ no_slots cap → q.entries ≡ [] → cap ≤ q.room → cap ≤ MAX_CAPACITY → KeepsQueue held_with held_in slots_in q
  new_keeps q cap free none room small =
      let slots : slot_count q.set.slots ≡ cap = ap slot_count free ∙ length-replicate cap None in
      let held : held_in q.set ≡ 0 = ap held_count free ∙ (sum_by-replicate (λ (o : Option (Numbered F)). cond (is_some o) 1 0) cap None ∙ omega arith) in
      record {
        numbered = new_is_numbered held_with held_in q none (λ n. numbers_none n q.set cap free) held;
        fits = omega (arith, slots, room);
        small = omega (arith, slots, small);
      }

-- one poll of the set, as a queue asks for it
module _ {R F W A S : Type 0} (rule : PollOneOf R (Numbered F) W (ℕ × A)) (source : ReadySourceOf S W) (old new : Bounded (Numbered F) S) (cx left : Context) where
  pub set_empty : (answer : Poll (Option (ℕ × A))) → PollsBounded rule source old answer new cx left → IfReady answer (λ o. IfNone o (held_in old ≡ 0))
  set_empty (Ready None) poll = poll.gave.0
  set_empty (Ready (Some out)) poll = tt
  set_empty Pending poll = tt

  pub set_covered : (answer : Poll (Option (ℕ × A))) → PollsBounded rule source old answer new cx left → OnPending answer (Covers left (λ n. (0 < held_in new) × source.needs new.source n))
  set_covered answer poll = covers_fewer answer left (source.needs new.source) _ (λ n waits. waits.1) poll.covered

-- one item more came of all there are
pub one_came : {X : Type 0} (so_far rest left all : List X) (item : X) → so_far ++ rest ≡ all → rest ≡ item ∷ left → (so_far ++ item ∷ []) ++ left ≡ all
one_came {X} so_far rest left all item were came = append_assoc so_far (item ∷ []) left ∙ ap (λ (l : List X). so_far ++ l) (sym came) ∙ were

-- no more names come than the limit is
few_names : (limit count : ℕ) (last : Option Taken) (cx left : Context) → EndsPending limit count last cx left → count ≤ limit
few_names limit count (Some Empty) cx left ends = let few = ends.0 in omega (arith, few)
few_names limit count (Some Pause) cx left ends = let few = ends.0 in omega (arith, few)
few_names limit count (Some (Slot i)) cx left ends = absurd ends
few_names limit count None cx left ends = let few = ends.0 in omega (arith, few)

module _ {R F W A S : Type 0} (rule : PollOneOf R F W A) (source : ReadySourceOf S W) where
  -- one poll of the queue, told of it alone
  pub queue_gives_of : (old new : OrderedBounded F A S) (answer : Poll (Option A)) (cx left : Context) → PollsOrderedBounded rule source old answer new cx left → OrderedGives (SetGives rule source) held_in old answer new
  queue_gives_of old new answer cx left poll = gives_alone (PollsBounded (of_numbered rule) source) (SetGives rule source) (λ a b given before after h. (before, after, h)) held_in old new answer cx left poll.gave

  limit_of_row : (old : Ordered (Bounded (Numbered F) S × Context) A) (row : List (ℕ × A)) (new : Ordered (Bounded (Numbered F) S × Context) A) → FoldsTo (SetYields (BesideTask (PollsBounded (of_numbered rule) source))) old row new → new.set.0.limit ≡ old.set.0.limit
  limit_of_row old [] new h = ap (λ (q : Ordered (Bounded (Numbered F) S × Context) A). q.set.0.limit) (sym h)
  limit_of_row old (out ∷ row) new h = limit_of_row h.0 row new h.2 ∙ h.1.gave.limit

  few_of_row : (old : Ordered (Bounded (Numbered F) S × Context) A) (row : List (ℕ × A)) (new : Ordered (Bounded (Numbered F) S × Context) A) (h : FoldsTo (SetYields (BesideTask (PollsBounded (of_numbered rule) source))) old row new) → names_of_row rule source old row new h ≤ old.set.0.limit * length row
  few_of_row old [] new h = omega arith
  few_of_row old (out ∷ row) new h =
      let more : names_of_row rule source h.0 row new h.2 ≤ old.set.0.limit * length row = subst (λ limit. names_of_row rule source h.0 row new h.2 ≤ limit * length row) h.1.gave.limit (few_of_row h.0 row new h.2) in
      let few = h.1.gave.gave.1.2.takes.ends.0 in
      omega (arith, more, few, mul-suc old.set.0.limit (length row))

  pub takes_few_names : TakesFewNames rule source
  takes_few_names old (Ready o) new cx left poll =
      let h = poll.gave in
      let fewer : length h.yielded ≤ held_in old.set = let count = h.count_left in omega (arith, count) in
      omega (arith, few_of_row (with_task old cx) h.yielded h.before h.row, mul-le-mul_left old.set.limit fewer)
  takes_few_names old Pending new cx left poll =
      let h = poll.gave in
      let takes = h.last_step.1.gave.1.takes in
      let some : 0 < held_in h.before.set.0 = h.last_step.1.gave.0 in
      let fewer : length h.yielded + 1 ≤ held_in old.set = let count = h.count_left in omega (arith, count, some) in
      let last = few_names h.before.set.0.limit (length takes.names) takes.last _ _ takes.ends.1 in
      let same = limit_of_row (with_task old cx) h.yielded h.before h.row in
      let times : old.set.limit * (length h.yielded + 1) ≡ old.set.limit * length h.yielded + old.set.limit = rw add-one (mul-suc old.set.limit (length h.yielded)) in
      omega (arith, few_of_row (with_task old cx) h.yielded h.before h.row, last, same, times, mul-le-mul_left old.set.limit fewer)
