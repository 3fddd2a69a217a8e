-- How many futures with a number a set that grows holds, before and after its calls.
use Rattle.futures_buffered_ordered.proofs.Common.{◌≡◌, ℕ, ◌+◌, [], Option, refl, ap, inl, inr, arith, ◌∙◌, sum_by-cons, Context, Poll, held_in, Growing, IsNewGrowing, held_in_all, ReadySourceOf, PollOneOf, unless_registered, held_with, of_numbered, outputs_with, Numbered, OrderedGrowing, held_in_groups, held_in_groups_with, KeepsQueue, PollsOneGroup}
use Rattle.futures_buffered_unordered.specs.PollsGrowing.{PollsGrowing}
use Rattle.futures_buffered_unordered.proofs.FuturesUnorderedLemmas.{new_holds_none}
use Rattle.futures_buffered_unordered.proofs.GroupsLemmas.{turns_sum}
use Rattle.futures_buffered_ordered.proofs.NumberedLemmas.{numbers_polled, numbers_ended, numbers_none}
use Rattle.futures_buffered_ordered.proofs.OrderedEntriesInvariantLemmas.{new_is_numbered}

module _ {R F W A S : Type 0} (rule : PollOneOf R F W A) (source : ReadySourceOf S W) where
  -- one poll of all groups
  pub numbers_left : (i : ℕ) (old new : Growing (Numbered F) S) (answer : Poll (Option (ℕ × A))) (cx left : Context) → PollsGrowing (of_numbered rule) source old answer new cx left → held_in_groups_with i new + outputs_with i answer ≡ held_in_groups_with i old
  numbers_left i old new answer cx left poll =
      let polled = of_numbered rule in
      turns_sum (PollsOneGroup polled source) (held_with i) (outputs_with i) (λ b group after a c d it. numbers_polled i rule (unless_registered b source) group after a c d it) (λ b group after c d it. numbers_ended i rule (unless_registered b source) group after c d it) refl refl _ _ old.groups answer new.groups cx left poll.groups.gave

module _ {F S : Type 0} (made : ℕ → S → Type 0) (n limit : ℕ) where
  new_numbers : (start : Growing (Numbered F) S) → IsNewGrowing made n limit start → (i : ℕ) → held_in_groups_with i start ≡ 0
  new_numbers start (inl h) i = ap (λ (g : Growing (Numbered F) S). held_in_groups_with i g) h.1
  new_numbers start (inr h) i = ap (λ (g : Growing (Numbered F) S). held_in_groups_with i g) h.1.2 ∙ omega (arith, sum_by-cons (held_with i) h.1.0 [], numbers_none i h.1.0 n h.1.1.none_held)

  new_held : (start : Growing (Numbered F) S) → IsNewGrowing made n limit start → held_in_all start.groups.listed ≡ 0
  new_held start (inl h) = ap (λ (g : Growing (Numbered F) S). held_in_all g.groups.listed) h.1
  new_held start (inr h) = ap (λ (g : Growing (Numbered F) S). held_in_all g.groups.listed) h.1.2 ∙ omega (arith, sum_by-cons held_in h.1.0 [], (new_holds_none made n limit h.1.0 h.1.1).0)

  -- a new set holds nothing
  pub new_keeps : {A : Type 0} (q : OrderedGrowing F A S) (set : Growing (Numbered F) S) → q.set ≡ set → IsNewGrowing made n limit set → q.entries ≡ [] → KeepsQueue held_in_groups_with held_in_groups (λ _. 0) q
  new_keeps q set is new none =
      record {
        numbered = new_is_numbered held_in_groups_with held_in_groups q none (λ i. ap (λ (g : Growing (Numbered F) S). held_in_groups_with i g) is ∙ new_numbers set new i) (ap (λ (g : Growing (Numbered F) S). held_in_all g.groups.listed) is ∙ new_held set new);
        fits = omega arith;
        small = omega arith;
      }
