-- What the groups of a merge give over many polls.
use Rattle.futures_buffered_unordered.proofs.Common.{◌≡◌, ◌⊎◌, ℕ, zero, suc, ◌+◌, Bool, true, false, List, [], ◌∷◌, ◌++◌, take, drop, Option, Some, None, refl, sym, ap, subst, inl, inr, append-nil, map-append, filter_map-append, Context, Poll, Ready, Pending, Slots, Bounded, Growing, AsksInTurn, AsksOne, Groups, LeavesBetween, next_place, unless_registered, item_of, items_in, OfSomeTask, SlotStreamOf, SlotsGaveInTurn, HoldsNone, GroupsGaveInTurn, KeepsOrderInGroups, PollsMergeUnbounded, slots_of_each}
use Rattle.futures_buffered_core.specs.declared.ready_source.ReadySource.{Ghosts as ReadySourceOf}
use Rattle.futures_buffered_unordered.specs.Interleaves.{Interleaves}
use Rattle.futures_buffered_unordered.proofs.MergeBoundedLemmas.{end_gave}
use Rattle.futures_buffered_unordered.proofs.MergeBoundedPushesLemmas.{turn_polled, turns_none, turns_on}
use Rattle.futures_buffered_unordered.proofs.MergeUnboundedLemmas.{PollsOneMerge}

-- the items of one list, and then those of the other
pub interleaves_append : {A : Type 0} (xs ys : List A) → Interleaves xs ys (xs ++ ys)
interleaves_append [] [] = (refl, refl)
interleaves_append [] (y ∷ ys) = inr (ys, refl, interleaves_append [] ys)
interleaves_append (x ∷ xs) ys = inl (xs, refl, interleaves_append xs ys)

-- first some items of two lists, and then further ones
pub interleaves_on : {A : Type 0} (zs xs ys more further cs : List A) → Interleaves xs ys zs → Interleaves more further cs → Interleaves (xs ++ more) (ys ++ further) (zs ++ cs)
interleaves_on [] xs ys more further cs h k = rw (h.0, h.1) k
interleaves_on (z ∷ zs) xs ys more further cs (inl h) k = inl (h.0 ++ more, ap (λ l. l ++ more) h.1, interleaves_on zs h.0 ys more further cs h.2 k)
interleaves_on (z ∷ zs) xs ys more further cs (inr h) k = inr (h.0 ++ further, ap (λ l. l ++ further) h.1, interleaves_on zs xs h.0 more further cs h.2 k)

module _ {F A : Type 0} (polled : ℕ → F → Poll (Option A) → F → Type 0) where
  pub groups_none : (groups : List (Slots F)) → GroupsGaveInTurn polled groups [] [] groups
  groups_none [] = (refl, refl, refl)
  groups_none (group ∷ groups) = (group, [], [], turns_none polled group, [], [], groups, groups_none groups, (refl, refl), (refl, refl), inl refl)

  -- the group between `earlier` and `later` gave these items, and stays, or holds no stream and leaves
  groups_between : (earlier later : List (Slots F)) (group left : Slots F) (items : List A) → SlotsGaveInTurn polled group items [] left → GroupsGaveInTurn polled (earlier ++ group ∷ later) items [] (earlier ++ left ∷ later)
  groups_between [] later group left items turn = (left, items, [], turn, [], [], later, groups_none later, rw append-nil at (interleaves_append items []), (refl, refl), inl refl)
  groups_between (first ∷ earlier) later group left items turn = (first, [], [], turns_none polled first, items, [], earlier ++ left ∷ later, groups_between earlier later group left items turn, interleaves_append [] items, (refl, refl), inl refl)

  groups_leave : (earlier later : List (Slots F)) (group left : Slots F) → SlotsGaveInTurn polled group [] [] left → HoldsNone left → GroupsGaveInTurn polled (earlier ++ group ∷ later) [] [] (earlier ++ later)
  groups_leave [] later group left turn none = (left, [], [], turn, [], [], later, groups_none later, (refl, refl), (refl, refl), inr (refl, none))
  groups_leave (first ∷ earlier) later group left turn none = (first, [], [], turns_none polled first, [], [], earlier ++ later, groups_leave earlier later group left turn none, (refl, refl), (refl, refl), inl refl)

  -- what was given and pushed first, and then what was given and pushed later, where `on` says so of the groups behind the first one
  first_on : (group : Slots F) (groups mid added new : List (Slots F)) (first items : List A) (before streams : List F) → GroupsGaveInTurn polled (group ∷ groups) first before mid → GroupsGaveInTurn polled (mid ++ added) items streams new
      → ((listed behind : List (Slots F)) (others more : List A) (into elsewhere : List F) → GroupsGaveInTurn polled groups others into listed → GroupsGaveInTurn polled (listed ++ added) more elsewhere behind → GroupsGaveInTurn polled (groups ++ added) (others ++ more) (into ++ elsewhere) behind)
      → GroupsGaveInTurn polled (group ∷ groups ++ added) (first ++ items) (before ++ streams) new
  first_on group groups mid added new first items before streams (left, given, into, turns, others, elsewhere, listed, rest, woven, woven_into, stays) k on = by_stay stays
    where
      both : GroupsGaveInTurn polled (left ∷ listed ++ added) items streams new → GroupsGaveInTurn polled (group ∷ groups ++ added) (first ++ items) (before ++ streams) new
      both (last, more, more_into, more_turns, further, more_elsewhere, behind, rest_more, woven_more, woven_more_into, stays_more) = (
        last,
        given ++ more,
        into ++ more_into,
        turns_on polled group left last given more into more_into turns more_turns,
        others ++ further,
        elsewhere ++ more_elsewhere,
        behind,
        on listed behind others further elsewhere more_elsewhere rest rest_more,
        interleaves_on first given others more further items woven woven_more,
        interleaves_on before into elsewhere more_into more_elsewhere streams woven_into woven_more_into,
        stays_more,
      )

      by_stay : (mid ≡ left ∷ listed) ⊎ ((mid ≡ listed) × HoldsNone left) → GroupsGaveInTurn polled (group ∷ groups ++ added) (first ++ items) (before ++ streams) new
      by_stay (inl kept) = both (subst (λ (m : List (Slots F)). GroupsGaveInTurn polled (m ++ added) items streams new) kept k)
      by_stay (inr gone) = (
        left,
        given ++ [],
        into ++ [],
        turns_on polled group left left given [] into [] turns (turns_none polled left),
        others ++ items,
        elsewhere ++ streams,
        new,
        on listed new others items elsewhere streams rest (subst (λ (m : List (Slots F)). GroupsGaveInTurn polled (m ++ added) items streams new) gone.0 k),
        interleaves_on first given others [] items items woven (interleaves_append [] items),
        interleaves_on before into elsewhere [] streams streams woven_into (interleaves_append [] streams),
        inr (refl, gone.1),
      )

  pub groups_on : (old mid added new : List (Slots F)) (first items : List A) (before streams : List F) → GroupsGaveInTurn polled old first before mid → GroupsGaveInTurn polled (mid ++ added) items streams new → GroupsGaveInTurn polled (old ++ added) (first ++ items) (before ++ streams) new
  groups_on [] mid added new first items before streams h k = rw (h.0, h.1) (subst (λ (m : List (Slots F)). GroupsGaveInTurn polled (m ++ added) items streams new) h.2 k)
  groups_on (group ∷ groups) mid added new first items before streams h k =
      first_on group groups mid added new first items before streams h k (λ listed behind others more into elsewhere a b. groups_on groups listed added behind others more into elsewhere a b)

module _ {St W A S : Type 0} (stream : SlotStreamOf St W A) (source : ReadySourceOf S W) where
  module _ (b : Bool) where
    slots_between : (earlier : List (Bounded St S)) (group : Bounded St S) (later : List (Bounded St S)) → slots_of_each (earlier ++ group ∷ later) ≡ slots_of_each earlier ++ group.slots ∷ slots_of_each later
    slots_between earlier group later = map-append (λ (g : Bounded St S). g.slots) earlier (group ∷ later)

    -- the group between `earlier` and `later` was polled
    between_gave : (earlier later : List (Bounded St S)) (group left : Bounded St S) (answer : Poll (Option A)) (new : Groups (Bounded St S)) (cx after : Context) → PollsOneMerge stream source b group answer left cx after → LeavesBetween earlier later left answer new → GroupsGaveInTurn stream.polled (slots_of_each (earlier ++ group ∷ later)) (items_in (answer ∷ [])) [] (slots_of_each new.listed)
    between_gave earlier later group left answer new cx after it leaves = by_answer later answer it leaves
      where
        kept : (later : List (Bounded St S)) (answer : Poll (Option A)) → PollsOneMerge stream source b group answer left cx after → new.listed ≡ earlier ++ left ∷ later → GroupsGaveInTurn stream.polled (slots_of_each (earlier ++ group ∷ later)) (items_in (answer ∷ [])) [] (slots_of_each new.listed)
        kept later answer it is = rw (is, slots_between earlier group later, slots_between earlier left later) (groups_between stream.polled (slots_of_each earlier) (slots_of_each later) group.slots left.slots (items_in (answer ∷ [])) (turn_polled stream (unless_registered b source) group left answer cx after it))

        by_answer : (later : List (Bounded St S)) (answer : Poll (Option A)) → PollsOneMerge stream source b group answer left cx after → LeavesBetween earlier later left answer new → GroupsGaveInTurn stream.polled (slots_of_each (earlier ++ group ∷ later)) (items_in (answer ∷ [])) [] (slots_of_each new.listed)
        by_answer later (Ready (Some x)) it h = kept later (Ready (Some x)) it h.0
        by_answer later Pending it h = kept later Pending it h.0
        by_answer [] (Ready None) it h = kept [] (Ready None) it h.0
        by_answer (next ∷ later) (Ready None) it h =
            rw (h.0, slots_between earlier group (next ∷ later), slots_between earlier next later) (groups_leave stream.polled (slots_of_each earlier) (slots_of_each (next ∷ later)) group.slots left.slots (turn_polled stream (unless_registered b source) group left (Ready None) cx after it) (end_gave stream (unless_registered b source) group left cx after it).0)

    one_gave : (old : Groups (Bounded St S)) (answer : Poll (Option A)) (new : Groups (Bounded St S)) (cx after : Context) → AsksOne (PollsOneMerge stream source b) old answer new cx after → GroupsGaveInTurn stream.polled (slots_of_each old.listed) (items_in (answer ∷ [])) [] (slots_of_each new.listed)
    one_gave old answer new cx after one =
        let p = next_place old in
        subst (λ (l : List (Bounded St S)). GroupsGaveInTurn stream.polled (slots_of_each l) (items_in (answer ∷ [])) [] (slots_of_each new.listed)) (sym one.stood)
        (between_gave (take p old.listed) (drop (p + 1) old.listed) one.group one.group_left answer new cx after one.asked one.leaves)

  -- what groups gave, and then what they gave later
  gave_then : (old mid new : Groups (Bounded St S)) (items : List A) → GroupsGaveInTurn stream.polled (slots_of_each old.listed) [] [] (slots_of_each mid.listed) → GroupsGaveInTurn stream.polled (slots_of_each mid.listed) items [] (slots_of_each new.listed) → GroupsGaveInTurn stream.polled (slots_of_each old.listed) items [] (slots_of_each new.listed)
  gave_then old mid new items first then = rw append-nil at (groups_on stream.polled (slots_of_each old.listed) (slots_of_each mid.listed) [] (slots_of_each new.listed) [] items [] [] first (rw append-nil then))

  turns_gave : (n : ℕ) (b : Bool) (old : Groups (Bounded St S)) (answer : Poll (Option A)) (new : Groups (Bounded St S)) (cx after : Context) → AsksInTurn (PollsOneMerge stream source) n b old answer new cx after → GroupsGaveInTurn stream.polled (slots_of_each old.listed) (items_in (answer ∷ [])) [] (slots_of_each new.listed)
  turns_gave zero true old answer new cx after (e, same, stays) = rw (e, same) (groups_none stream.polled (slots_of_each old.listed))
  turns_gave zero false old answer new cx after (e, same, stays) = rw (e, same) (groups_none stream.polled (slots_of_each old.listed))
  turns_gave (suc n) b old answer new cx after (inl (x, e, one)) = one_gave b old answer new cx after one
  turns_gave (suc n) b old answer new cx after (inr (inl (now, task, one, more))) = gave_then old now new (items_in (answer ∷ [])) (one_gave b old Pending now cx task one) (turns_gave n true now answer new task after more)
  turns_gave (suc n) b old answer new cx after (inr (inr (now, task, one, more))) = gave_then old now new (items_in (answer ∷ [])) (one_gave b old (Ready None) now cx task one) (turns_gave n b now answer new task after more)

  -- one poll, and what came later
  pub poll_first : (old mid : Growing St S) (added new : List (Slots St)) (answer : Poll (Option A)) (answers : List (Poll (Option A))) (streams : List St) → OfSomeTask (PollsMergeUnbounded stream source) old answer mid → GroupsGaveInTurn stream.polled (slots_of_each mid.groups.listed ++ added) (items_in answers) streams new → GroupsGaveInTurn stream.polled (slots_of_each old.groups.listed ++ added) (items_in (answer ∷ answers)) streams new
  poll_first old mid added new answer answers streams (cx, after, polls) later =
      let gave = turns_gave _ _ old.groups answer mid.groups cx after polls.groups.gave in
      subst (λ (l : List A). GroupsGaveInTurn stream.polled (slots_of_each old.groups.listed ++ added) l streams new) (sym (filter_map-append item_of (answer ∷ []) answers))
      (groups_on stream.polled (slots_of_each old.groups.listed) (slots_of_each mid.groups.listed) added new (items_in (answer ∷ [])) (items_in answers) [] streams gave later)

  -- many polls
  pub keeps_order_in_groups : KeepsOrderInGroups stream source
  keeps_order_in_groups old new [] h = subst (λ (g : Growing St S). GroupsGaveInTurn stream.polled (slots_of_each old.groups.listed) [] [] (slots_of_each g.groups.listed)) h (groups_none stream.polled (slots_of_each old.groups.listed))
  keeps_order_in_groups old new (answer ∷ answers) h =
      rw append-nil at (poll_first old h.0 [] (slots_of_each new.groups.listed) answer answers [] h.1 (rw append-nil (keeps_order_in_groups h.0 new answers h.2)))
