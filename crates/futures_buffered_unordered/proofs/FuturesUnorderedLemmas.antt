-- What a push makes of groups.
use Rattle.futures_buffered_unordered.proofs.Common.{◌≡◌, ℕ, zero, suc, ◌+◌, ◌-◌, ◌*◌, ◌<◌, ◌≤◌, List, [], ◌∷◌, ◌++◌, length, take, drop, set, get_or, Option, None, is_some, cond, ◌⊎◌, refl, sym, ap, subst, inl, inr, arith, length-set, ◌∙◌, All, get_or-set_other, get_or_append_left, get_or_push, length_push, drop_all, length-replicate, All-push, All-tail, sum_by-set, sum_by_push, OnPending, Covers, Hears, Context, Poll, Ready, Pending, WaitsAlike, held_count, slot_count, MAX_CAPACITY, Woke, Bounded, Pushes, IsNewSet, held_in, Groups, MAX_HELD, Growing, GrowingPushes, IsNewGrowing, no_groups, held_in_all, spare_places, next_capacity, AnyNeeds, EachCovered, IsGroup, KeepsGroups, SameKind, AddsGroup}
use Rattle.std.proofs.lemmas.List.Folds.{sum_by-replicate}
use Rattle.futures_buffered_unordered.proofs.GroupsLemmas.{same_parts}
use Rattle.futures_buffered_unordered.proofs.GroupsStepLemmas.{split_at, split_set}
use Rattle.futures_buffered_unordered.proofs.FuturesUnorderedInvariantLemmas.{alike_self, alike_back, each_set, alike_set}

module _ {F S : Type 0} where
  -- what is said of the last group is said of the one at the last place
  pub spare_last : (gs : List (Bounded F S)) (q : ℕ) (d : Bounded F S) → q + 1 ≡ length gs → spare_places gs ≡ slot_count (get_or gs q d).slots - held_in (get_or gs q d)
  spare_last (g ∷ []) zero d last = refl
  spare_last (g ∷ next ∷ gs) (suc q) d last = spare_last (next ∷ gs) q d (omega (arith, last))
  spare_last gs q d last = absurd (omega (arith, last))

  pub next_last : (first : ℕ) (gs : List (Bounded F S)) (q : ℕ) (d : Bounded F S) → q + 1 ≡ length gs → next_capacity first gs ≡ 2 * slot_count (get_or gs q d).slots
  next_last first (g ∷ []) zero d last = refl
  next_last first (g ∷ next ∷ gs) (suc q) d last = next_last first (next ∷ gs) q d (omega (arith, last))
  next_last first gs q d last = absurd (omega (arith, last))

  pub spare_some : (gs : List (Bounded F S)) → 0 < spare_places gs → 0 < length gs
  spare_some [] some = absurd (omega (arith, some))
  spare_some (g ∷ gs) some = omega arith

  -- a new group holds nothing
  pub new_holds_none : (made : ℕ → S → Type 0) (cap limit : ℕ) (group : Bounded F S) → IsNewSet made cap limit group → (held_in group ≡ 0) × (slot_count group.slots ≡ cap)
  new_holds_none made cap limit group h = (
    ap held_count h.none_held ∙ (sum_by-replicate (λ o. cond (is_some o) 1 0) cap None ∙ omega arith),
    ap slot_count h.none_held ∙ length-replicate cap None,
  )

module _ {F S : Type 0} (needs : S → ℕ → Type 0) where
  -- a new group stands behind full ones
  pub keeps_added : (g : Groups (Bounded F S)) (limit held cap : ℕ) (made : ℕ → S → Type 0) (group : Bounded F S) → KeepsGroups needs g limit held → spare_places g.listed ≡ 0 → 0 < cap → cap ≤ MAX_CAPACITY → IsNewSet made cap limit group
      → All (λ (b : Bounded F S). WaitsAlike needs b.source group.source) g.listed → KeepsGroups needs (record { listed = g.listed ++ group ∷ []; place = g.place }) limit held
  keeps_added g limit held cap made group k full some fits new beside =
      record {
        place_within = omega (arith, k.place_within, long);
        some_names = k.some_names;
        each = All-push (IsGroup limit) g.listed group k.each (record { has_a_slot = omega (arith, some, none.1); fits = omega (arith, fits, none.1); same_limit = new.takes_at_most });
        alike = All-push (λ (a : Bounded F S). All (λ (b : Bounded F S). WaitsAlike needs a.source b.source) (g.listed ++ group ∷ [])) g.listed group
            (λ j d lt. All-push (λ (b : Bounded F S). WaitsAlike needs (get_or g.listed j d).source b.source) g.listed group (k.alike j d lt) (beside j d lt))
            (All-push (λ (b : Bounded F S). WaitsAlike needs group.source b.source) g.listed group (λ j d lt. alike_back needs _ _ (beside j d lt)) (alike_self needs group.source));
        others = λ j d lt other.
            let before = get_or_append_left g.listed (group ∷ []) d j in
            let last = spare_last g.listed j d in
            let each = k.each j d in
            let held = k.others j d in
            let longer = long in
            grind arith;
        counted = omega (arith, k.counted, sum_by_push held_in g.listed group, none.0);
        few = k.few;
      }
    where
      none : (held_in group ≡ 0) × (slot_count group.slots ≡ cap)
      none = new_holds_none made cap limit group new

      long : length (g.listed ++ group ∷ []) ≡ length g.listed + 1
      long = length_push g.listed group

  -- the last group holds one more
  pub keeps_grown : (g : Groups (Bounded F S)) (limit held q : ℕ) (group left : Bounded F S) → KeepsGroups needs g limit held → q + 1 ≡ length g.listed → group ≡ get_or g.listed q group → SameKind needs group left → held_in left ≡ held_in group + 1 → held < MAX_HELD
      → KeepsGroups needs (record { listed = set g.listed q left; place = g.place }) limit (held + 1)
  keeps_grown g limit held q group left k last is kind one below =
      record {
        place_within = omega (arith, k.place_within, length-set g.listed q left);
        some_names = k.some_names;
        each = each_set needs g.listed limit q group left within is kind k.each;
        alike = alike_set needs g.listed limit q group left within is kind k.alike;
        others = λ j d lt other. subst (λ (b : Bounded F S). 0 < held_in b) (sym (get_or-set_other g.listed q j left d (λ same. omega (arith, same, lt, last, length-set g.listed q left)))) (k.others j d (omega (arith, lt, length-set g.listed q left)) other);
        counted = omega (arith, k.counted, sum_by-set held_in g.listed q left group within, ap (λ (b : Bounded F S). held_in b) is, one);
        few = omega (arith, below);
      }
    where
      within : q < length g.listed
      within = omega (arith, last)

module _ {F S : Type 0} (marks : S → ℕ → Woke → S → Type 0) (made : ℕ → S → Type 0) (first : ℕ) where
  -- a push into the last group, as it stands in the list
  pub pushes_last : (old : Growing F S) (q : ℕ) (group left : Bounded F S) (value : F) → q + 1 ≡ length old.groups.listed → group ≡ get_or old.groups.listed q group → 0 < spare_places old.groups.listed → Pushes marks group value left
      → GrowingPushes marks made first old value (record { groups = record { listed = set old.groups.listed q left; place = old.groups.place }; limit = old.limit })
  pushes_last old q group left value last is some pushed =
      record {
        before = take q old.groups.listed;
        into = group;
        pushed_into = left;
        goes_into = inl (
          split_at old.groups.listed q group within is ∙ ap (λ (l : List (Bounded F S)). take q old.groups.listed ++ group ∷ l) none,
          omega (arith, some, spare_last old.groups.listed q group last, ap (λ (b : Bounded F S). held_in b) is, ap (λ (b : Bounded F S). slot_count b.slots) is),
        );
        pushed = pushed;
        now_listed = split_set old.groups.listed q left within ∙ ap (λ (l : List (Bounded F S)). take q old.groups.listed ++ left ∷ l) none;
        same_place = refl;
        same_limit = refl;
      }
    where
      within : q < length old.groups.listed
      within = omega (arith, last)

      none : drop (q + 1) old.groups.listed ≡ []
      none = drop_all (q + 1) old.groups.listed (omega (arith, last))

  -- a push into a group that was added
  pub pushes_new : (old added new : Growing F S) (value : F) → spare_places old.groups.listed ≡ 0 → AddsGroup made (next_capacity first old.groups.listed) old added → 0 < spare_places added.groups.listed → GrowingPushes marks made first added value new → GrowingPushes marks made first old value new
  pushes_new old added new value full adds room h = by_group h.goes_into
    where
      by_group : ((added.groups.listed ≡ h.before ++ h.into ∷ []) × (held_in h.into < slot_count h.into.slots)) ⊎ ((added.groups.listed ≡ h.before) × (spare_places h.before ≡ 0) × IsNewSet made (next_capacity first h.before) added.limit h.into) → GrowingPushes marks made first old value new
      by_group (inr other) = absurd (omega (arith, room, other.1, ap (λ (l : List (Bounded F S)). spare_places l) other.0))
      by_group (inl last) =
          let long : length old.groups.listed ≡ length h.before = omega (arith, ap length adds.listed, ap length last.0, length_push old.groups.listed adds.group, length_push h.before h.into) in
          let parts = same_parts old.groups.listed h.before (adds.group ∷ []) (h.into ∷ []) long (sym adds.listed ∙ last.0) in
          let is_last : adds.group ≡ h.into = ap (λ (l : List (Bounded F S)). get_or l 0 adds.group) parts.1 in
          record {
            before = h.before;
            into = h.into;
            pushed_into = h.pushed_into;
            goes_into = inr (parts.0, subst (λ (l : List (Bounded F S)). spare_places l ≡ 0) parts.0 full, subst (λ (l : List (Bounded F S)). IsNewSet made (next_capacity first l) old.limit h.into) parts.0 (subst (IsNewSet made (next_capacity first old.groups.listed) old.limit) is_last adds.is_new));
            pushed = h.pushed;
            now_listed = h.now_listed;
            same_place = h.same_place ∙ adds.same_place;
            same_limit = h.same_limit ∙ adds.same_limit;
          }

module _ {F S : Type 0} (made : ℕ → S → Type 0) where
  -- as many futures as before in groups with an empty one behind, which has a free place
  pub added_counts : (cap : ℕ) (old new : Growing F S) → AddsGroup made cap old new → (held_in_all new.groups.listed ≡ held_in_all old.groups.listed) × (spare_places new.groups.listed ≡ cap)
  added_counts cap old new adds =
      let none = new_holds_none made cap old.limit adds.group adds.is_new in
      let at_end : get_or (old.groups.listed ++ adds.group ∷ []) (length old.groups.listed) adds.group ≡ adds.group = get_or_push old.groups.listed adds.group adds.group (length old.groups.listed) refl in
      let spare = spare_last (old.groups.listed ++ adds.group ∷ []) (length old.groups.listed) adds.group (sym (length_push old.groups.listed adds.group)) in (
        omega (arith, ap (λ (l : List (Bounded F S)). held_in_all l) adds.listed, sum_by_push held_in old.groups.listed adds.group, none.0),
        omega (arith, ap (λ (l : List (Bounded F S)). spare_places l) adds.listed, spare, ap (λ (b : Bounded F S). held_in b) at_end, ap (λ (b : Bounded F S). slot_count b.slots) at_end, none.0, none.1),
      )

  -- a new set has the group that was added, if one was
  pub new_without : (n limit : ℕ) (set : Growing F S) → n ≤ 0 → set ≡ no_groups limit → IsNewGrowing made n limit set
  new_without n limit set none is = inl (omega (arith, none), is)

  pub new_with : (n limit : ℕ) (start set : Growing F S) → 0 < n → start ≡ no_groups limit → AddsGroup made n start set → IsNewGrowing made n limit set
  new_with n limit start set some is adds =
      inr (
        some,
        (
          adds.group,
          subst (λ (v : Growing F S). IsNewSet made n v.limit adds.group) is adds.is_new,
          let listed = adds.listed in
              let place = adds.same_place in
              let limit = adds.same_limit in
              grind arith,
        ),
      )

module _ {F S : Type 0} (needs : S → ℕ → Type 0) (cx : Context) where
  hears_any : (groups : List (Bounded F S)) → EachCovered needs cx groups → (n : ℕ) → AnyNeeds needs groups n → Hears cx n
  hears_any [] covered n any = absurd any
  hears_any (g ∷ gs) covered n (inl here) = (covered 0 g (omega arith)).1 n here.1
  hears_any (g ∷ gs) covered n (inr any) = hears_any gs (All-tail (λ (b : Bounded F S). Covers cx (needs b.source)) g gs covered) n any

  covers_any : (groups : List (Bounded F S)) → EachCovered needs cx groups → 0 < held_in_all groups → Covers cx (AnyNeeds needs groups)
  covers_any [] covered some = absurd (omega (arith, some))
  covers_any (g ∷ gs) covered some = ((covered 0 g (omega arith)).0, hears_any (g ∷ gs) covered)

  -- a task that is registered with each group, where one holds a value, hears of what any needs
  pub covered_of : {A : Type 0} (answer : Poll (Option A)) (groups : List (Bounded F S)) → OnPending answer (EachCovered needs cx groups) → OnPending answer (0 < held_in_all groups) → OnPending answer (Covers cx (AnyNeeds needs groups))
  covered_of (Ready o) groups covered some = tt
  covered_of Pending groups covered some = covers_any groups covered some
