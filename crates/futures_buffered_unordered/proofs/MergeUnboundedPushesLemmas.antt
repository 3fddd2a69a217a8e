-- What the groups of a merge give over many polls, with pushes between them.
use Rattle.futures_buffered_unordered.proofs.Common.{◌≡◌, ◌⊎◌, ℕ, ◌<◌, List, [], ◌∷◌, ◌++◌, Option, refl, ap, subst, inl, inr, ◌∙◌, AllByRecursion, append_assoc, map-append, Poll, Slots, Inserts, slot_count, Bounded, IsNewSet, held_in, Growing, GrowingPushes, next_capacity, spare_places, FIRST_GROUP, items_in, SlotStreamOf, answered, pushed, answers_of, streams_of, HoldsNone, GroupsGaveInTurn, KeepsOrderInGroupsWithPushes, slots_of_each}
use Rattle.std.proofs.lemmas.List.{append-nil}
use Rattle.futures_buffered_core.specs.declared.ready_source.ReadySource.{Ghosts as ReadySourceOf}
use Rattle.futures_buffered_unordered.proofs.FuturesUnorderedLemmas.{new_holds_none}
use Rattle.futures_buffered_unordered.proofs.MergeBoundedLemmas.{none_held}
use Rattle.futures_buffered_unordered.proofs.MergeBoundedPushesLemmas.{turns_none, turns_pushed}
use Rattle.futures_buffered_unordered.proofs.MergeUnboundedGaveLemmas.{groups_none, groups_on, interleaves_append, poll_first}

module _ {F A : Type 0} (polled : ℕ → F → Poll (Option A) → F → Type 0) where
  -- a push into the last group
  groups_pushed : (before : List (Slots F)) (into pushed_into : Slots F) (i : ℕ) (stream : F) → Inserts into i stream pushed_into → GroupsGaveInTurn polled (before ++ into ∷ []) [] (stream ∷ []) (before ++ pushed_into ∷ [])
  groups_pushed [] into pushed_into i stream inserted =
      (pushed_into, [], stream ∷ [], turns_pushed polled into pushed_into i stream inserted, [], [], [], (refl, refl, refl), (refl, refl), interleaves_append (stream ∷ []) [], inl refl)
  groups_pushed (group ∷ before) into pushed_into i stream inserted =
      (group, [], [], turns_none polled group, [], stream ∷ [], before ++ pushed_into ∷ [], groups_pushed before into pushed_into i stream inserted, (refl, refl), interleaves_append [] (stream ∷ []), inl refl)

module _ {St W A S : Type 0} (stream : SlotStreamOf St W A) (source : ReadySourceOf S W) (made : ℕ → S → Type 0) where
  -- what the law says of some events, by what comes of them
  abbrev Kept : Growing St S → List A → List St → Growing St S → Type 0
  Kept old items streams new = (added : List (Slots St)) × AllByRecursion HoldsNone added × GroupsGaveInTurn stream.polled (slots_of_each old.groups.listed ++ added) items streams (slots_of_each new.groups.listed)

  pushed_first : (old mid new : Growing St S) (value : St) (items : List A) (streams : List St) → GrowingPushes source.marks made FIRST_GROUP old value mid → Kept mid items streams new → Kept old items (value ∷ streams) new
  pushed_first old mid new value items streams h (added, none, gave) = by_group h.goes_into
    where
      last_of : (group : Bounded St S) → slots_of_each (h.before ++ group ∷ []) ≡ slots_of_each h.before ++ group.slots ∷ []
      last_of group = map-append (λ (b : Bounded St S). b.slots) h.before (group ∷ [])

      gave_here : GroupsGaveInTurn stream.polled ((slots_of_each h.before ++ h.into.slots ∷ []) ++ added) items (value ∷ streams) (slots_of_each new.groups.listed)
      gave_here =
          let push = h.pushed in
          groups_on stream.polled _ (slots_of_each h.before ++ h.pushed_into.slots ∷ []) added _ [] items (value ∷ []) streams (groups_pushed stream.polled (slots_of_each h.before) h.into.slots h.pushed_into.slots push.0 value push.1.inserted)
          (subst (λ (l : List (Slots St)). GroupsGaveInTurn stream.polled (l ++ added) items streams (slots_of_each new.groups.listed)) (ap (λ (l : List (Bounded St S)). slots_of_each l) h.now_listed ∙ last_of h.pushed_into) gave)

      by_group : ((old.groups.listed ≡ h.before ++ h.into ∷ []) × (held_in h.into < slot_count h.into.slots)) ⊎ ((old.groups.listed ≡ h.before) × (spare_places h.before ≡ 0) × IsNewSet made (next_capacity FIRST_GROUP h.before) old.limit h.into) → Kept old items (value ∷ streams) new
      by_group (inl last) = (added, none, rw (last.0, last_of h.into) gave_here)
      by_group (inr new_one) = (
        h.into.slots ∷ added,
        (none_held h.into.slots (new_holds_none made _ old.limit h.into new_one.2).0, none),
        rw new_one.0 (rw append_assoc at gave_here),
      )

  pub keeps_order_in_groups_with_pushes : KeepsOrderInGroupsWithPushes stream source made
  keeps_order_in_groups_with_pushes old new [] h = ([], tt, rw append-nil (subst (λ (g : Growing St S). GroupsGaveInTurn stream.polled (slots_of_each old.groups.listed) [] [] (slots_of_each g.groups.listed)) h (groups_none stream.polled (slots_of_each old.groups.listed))))
  keeps_order_in_groups_with_pushes old new (answered answer ∷ events) h =
      let (added, none, gave) = keeps_order_in_groups_with_pushes h.0 new events h.2 in
      (added, none, poll_first stream source old h.0 added (slots_of_each new.groups.listed) answer (answers_of events) (streams_of events) h.1 gave)
  keeps_order_in_groups_with_pushes old new (pushed value ∷ events) h = pushed_first old h.0 new value (items_in (answers_of events)) (streams_of events) h.1 (keeps_order_in_groups_with_pushes h.0 new events h.2)
