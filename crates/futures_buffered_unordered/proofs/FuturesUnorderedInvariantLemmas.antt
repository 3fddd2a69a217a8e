-- What a poll of groups keeps of their invariant.
use Rattle.futures_buffered_unordered.proofs.Common.{◌≡◌, ◌≢◌, ℕ, zero, suc, ◌+◌, ◌-◌, ◌<◌, ◌≤◌, false, List, [], ◌∷◌, ◌++◌, length, take, drop, set, get_or, Option, IfNone, is_some, refl, sym, ap, subst, arith, length-set, ◌∙◌, All, FoldsTo, nat_tests, get_or-set_same, get_or-set_other, get_or-take, get_or-drop, get_or_append_left, get_or-append_right, length-append, length-take-le, length-drop, All-set, sum_by-set, sum_by-append, sum_by_more, sum_by-take-drop, get_or-le-sum_by, IfReady, OnPending, Covers, Keeps, Lasting, Context, Poll, Ready, Pending, WaitsAlike, Taken, Bounded, held_in, Groups, next_place, PollOneOf, ReadySourceOf, RegistersAndTakes, EachCovered, IsGroup, AllWaitAlike, KeepsGroups, SameKind, KeepsGroup}
use Rattle.futures_buffered_unordered.proofs.GroupsStepLemmas.{All-removed, from_none}

-- what stands at a place of a list does not depend on what is read past its end
pub same_or : {X : Type 0} (xs : List X) (k : ℕ) (d e : X) → k < length xs → get_or xs k d ≡ get_or xs k e
same_or [] k d e lt = grind arith
same_or (x ∷ xs) zero d e lt = refl
same_or (x ∷ xs) (suc k) d e lt = same_or xs k d e (omega (arith, lt))

-- those before one that was removed stay where they were, and those behind it come one place nearer
get_or_removed_before : {X : Type 0} (xs : List X) (q j : ℕ) (d : X) → q < length xs → j < q → get_or (take q xs ++ drop (q + 1) xs) j d ≡ get_or xs j d
get_or_removed_before xs q j d within lt =
    get_or_append_left (take q xs) (drop (q + 1) xs) d j (omega (arith, lt, length-take-le q xs (omega (arith, within)))) ∙ get_or-take q xs j d lt

get_or_removed_behind : {X : Type 0} (xs : List X) (q j : ℕ) (d : X) → q < length xs → q ≤ j → get_or (take q xs ++ drop (q + 1) xs) j d ≡ get_or xs (j + 1) d
get_or_removed_behind xs q j d within le =
    let at : q + 1 + (j - q) ≡ j + 1 = omega (arith, le) in
    get_or-append_right (take q xs) (drop (q + 1) xs) q j d (length-take-le q xs (omega (arith, within))) le ∙ get_or-drop (q + 1) xs (j - q) d ∙ ap (λ (n : ℕ). get_or xs n d) at

module _ {S : Type 0} (needs : S → ℕ → Type 0) where
  pub alike_self : (a : S) → WaitsAlike needs a a
  alike_self a n = (λ h. h, λ h. h)

  pub alike_back : (a b : S) → WaitsAlike needs a b → WaitsAlike needs b a
  alike_back a b h n = ((h n).1, (h n).0)

  pub alike_on : (a b c : S) → WaitsAlike needs a b → WaitsAlike needs b c → WaitsAlike needs a c
  alike_on a b c h k n = (λ x. (k n).0 ((h n).0 x), λ x. (h n).1 ((k n).1 x))

  covers_on : (old new : Context) (a : S) → Keeps old new → Covers old (needs a) → Covers new (needs a)
  covers_on old new a keeps h = (keeps Lasting.armed h.0, λ n x. keeps (Lasting.hears n) (h.1 n x))

  covers_alike : (cx : Context) (a b : S) → WaitsAlike needs a b → Covers cx (needs b) → Covers cx (needs a)
  covers_alike cx a b w h = (h.0, λ n x. h.1 n ((w n).0 x))

module _ {R F W A S : Type 0} (rule : PollOneOf R F W A) (source : ReadySourceOf S W)
    (register_waits : (old new : S) → source.steps.registers old new → WaitsAlike source.needs old new) (take_waits : (old : S) (taken : Taken) (new : S) → source.steps.takes old taken new → WaitsAlike source.needs old new) where
  alike_taken : (given : List Taken) (old new : S) → FoldsTo source.steps.takes old given new → WaitsAlike source.needs old new
  alike_taken [] old new h = subst (WaitsAlike source.needs old) h (alike_self source.needs old)
  alike_taken (taken ∷ given) old new h = alike_on source.needs old h.0 new (take_waits old taken h.0 h.1) (alike_taken given h.0 new h.2)

  -- one round leaves the source at the same places
  pub alike_asked : (old new : Bounded F S) (answer : Poll (ℕ × A)) (cx left : Context) → RegistersAndTakes rule source old answer new cx left → WaitsAlike source.needs old.source new.source
  alike_asked old new answer cx left asks = alike_on source.needs old.source asks.source_then new.source (register_waits _ _ asks.registers) (alike_taken _ _ _ asks.takes.came)

-- a task that is registered with each group is registered with one of them
pub covered_at : {F S : Type 0} (needs : S → ℕ → Type 0) (cx : Context) (gs : List (Bounded F S)) (q : ℕ) (group : Bounded F S) → group ≡ get_or gs q group → q < length gs → EachCovered needs cx gs → Covers cx (needs group.source)
covered_at {F} {S} needs cx gs q group is within covered = subst (λ (b : Bounded F S). Covers cx (needs b.source)) (sym is) (covered q group within)

module _ {F S : Type 0} (needs : S → ℕ → Type 0) where
  -- the place of a group that is not the one asked next is not the kept one
  other_place : (g : Groups (Bounded F S)) (q j : ℕ) → q ≡ next_place g → g.place ≤ length g.listed → j < length g.listed → j ≢ q → j ≢ g.place
  other_place g q j here within lt other same = grind (arith, nat_tests)

  module _ (gs : List (Bounded F S)) (limit held q : ℕ) (k : KeepsGroups needs (record { listed = gs; place = q }) limit held) (within : q < length gs) where
    -- the group at the place holds a future, and the next poll begins behind it
    pub keeps_behind : (d : Bounded F S) → 0 < held_in (get_or gs q d) → KeepsGroups needs (record { listed = gs; place = q + 1 }) limit held
    keeps_behind d some = let same = same_or gs q in grind arith

    -- the group at the place is the last, and the next poll begins with the first
    pub keeps_last : q + 1 ≡ length gs → KeepsGroups needs (record { listed = gs; place = 0 }) limit held
    keeps_last last = grind arith

    -- the group at the place holds nothing, is not the last, and leaves
    pub keeps_left : (d : Bounded F S) → held_in (get_or gs q d) ≡ 0 → q + 1 ≢ length gs → KeepsGroups needs (record { listed = take q gs ++ drop (q + 1) gs; place = q }) limit held
    keeps_left d none more =
        record {
          place_within = omega (arith, within, long);
          some_names = k.some_names;
          each = All-removed (IsGroup limit) gs q k.each;
          alike = All-removed (λ (a : Bounded F S). All (λ (b : Bounded F S). WaitsAlike needs a.source b.source) (take q gs ++ drop (q + 1) gs)) gs q (λ j e lt. All-removed (λ (b : Bounded F S). WaitsAlike needs (get_or gs j e).source b.source) gs q (k.alike j e lt));
          others = λ j e lt other.
              let before = get_or_removed_before gs q j e within in
              let behind = get_or_removed_behind gs q j e within in
              let here = k.others j e in
              let next = k.others (j + 1) e in
              let longer = long in
              grind arith;
          counted = omega (arith, k.counted, none, sum_by-append held_in (take q gs) (drop (q + 1) gs), sum_by-take-drop held_in gs (q + 1), sum_by_more held_in gs q d within);
          few = k.few;
        }
      where
        long : length (take q gs ++ drop (q + 1) gs) + 1 ≡ length gs
        long = omega (arith, within, length-append (take q gs) (drop (q + 1) gs), length-take-le q gs (omega (arith, within)), length-drop (q + 1) gs)

  -- another group of its kind stands at the place of one
  module _ (gs : List (Bounded F S)) (limit q : ℕ) (group left : Bounded F S) (within : q < length gs) (is : group ≡ get_or gs q group) (kind : SameKind needs group left) where
    pub each_set : All (IsGroup limit) gs → All (IsGroup limit) (set gs q left)
    each_set each =
        let h = subst (IsGroup limit) (sym is) (each q group within) in
        All-set (IsGroup limit) gs q left (record { has_a_slot = omega (arith, h.has_a_slot, kind.same_slots); fits = omega (arith, h.fits, kind.same_slots); same_limit = kind.same_limit ∙ h.same_limit }) each

    pub to_left : AllWaitAlike needs gs → (j : ℕ) (d : Bounded F S) → j < length gs → WaitsAlike needs (get_or gs j d).source left.source
    to_left alike j d lt = alike_on needs _ group.source left.source (subst (λ (b : Bounded F S). WaitsAlike needs (get_or gs j d).source b.source) (sym is) (alike j d lt q group within)) kind.waits

    pub alike_set : AllWaitAlike needs gs → AllWaitAlike needs (set gs q left)
    alike_set alike =
        All-set (λ (a : Bounded F S). All (λ (b : Bounded F S). WaitsAlike needs a.source b.source) (set gs q left)) gs q left
        (All-set (λ (b : Bounded F S). WaitsAlike needs left.source b.source) gs q left (alike_self needs left.source) (λ j d lt. alike_back needs _ _ (to_left alike j d lt)))
        (λ j d lt. All-set (λ (b : Bounded F S). WaitsAlike needs (get_or gs j d).source b.source) gs q left (to_left alike j d lt) (alike j d lt))

  module _ {A : Type 0} (g : Groups (Bounded F S)) (limit held q : ℕ) (group left : Bounded F S) (answer : Poll (Option A)) (k : KeepsGroups needs g limit held) (here : q ≡ next_place g) (within : q < length g.listed) (is : group ≡ get_or g.listed q group) (kept : KeepsGroup needs group answer left) where
    within_left : q < length (set g.listed q left)
    within_left = omega (arith, within, length-set g.listed q left)

    -- where the group is pending, the task is registered with each group
    pub covered_asked : (cx : Context) → Covers cx (needs left.source) → EachCovered needs cx (set g.listed q left)
    covered_asked cx covers = All-set (λ (b : Bounded F S). Covers cx (needs b.source)) g.listed q left covers (λ j d lt. covers_alike needs cx _ left.source (to_left g.listed limit q group left within is kept.same_kind k.alike j d lt) covers)

    -- a task that was registered still is
    pub still_asked : (old new : Context) → Keeps old new → EachCovered needs old g.listed → EachCovered needs new (set g.listed q left)
    still_asked old new keeps covered = covered_asked new (covers_alike needs new left.source group.source (alike_back needs group.source left.source kept.same_kind.waits) (covers_on needs old new group.source keeps (covered_at needs old g.listed q group is within covered)))

    module _ (now before after : ℕ) (before_is : before ≡ held_in group) (after_is : after ≡ held_in left) (now_is : now ≡ held - (before - after)) where
      -- what is held now, by the numbers that were counted before and after
      counts : now + (held_in group - held_in left) ≡ held
      counts = omega (arith, before_is, after_is, now_is, k.counted, get_or-le-sum_by held_in g.listed q group within, ap (λ (b : Bounded F S). held_in b) is, kept.fewer)

      -- once the group at the place was asked, that is the place
      pub keeps_asked : KeepsGroups needs (record { listed = set g.listed q left; place = q }) limit now
      keeps_asked =
          record {
            place_within = omega (arith, within, length-set g.listed q left);
            some_names = k.some_names;
            each = each_set g.listed limit q group left within is kept.same_kind k.each;
            alike = alike_set g.listed limit q group left within is kept.same_kind k.alike;
            others = λ j d lt other. subst (λ (b : Bounded F S). 0 < held_in b) (sym (get_or-set_other g.listed q j left d other)) (k.others j d (omega (arith, lt, length-set g.listed q left)) (other_place g q j here k.place_within (omega (arith, lt, length-set g.listed q left)) other));
            counted = omega (arith, counts, k.counted, sum_by-set held_in g.listed q left group within, ap (λ (b : Bounded F S). held_in b) is, kept.fewer);
            few = omega (arith, counts, k.few);
          }

      -- the ways on, by the answer
      pub keeps_pending : answer ≡ Pending → KeepsGroups needs (record { listed = set g.listed q left; place = q + 1 }) limit now
      keeps_pending e =
          keeps_behind (set g.listed q left) limit now q (keeps_asked) within_left left (rw (get_or-set_same g.listed q left left within) (subst (λ (a : Poll (Option A)). OnPending a (0 < held_in left)) e kept.pending_holds))

      pub keeps_ended_last : q + 1 ≡ length g.listed → KeepsGroups needs (record { listed = set g.listed q left; place = 0 }) limit now
      keeps_ended_last last =
          keeps_last (set g.listed q left) limit now q (keeps_asked) within_left (omega (arith, last, length-set g.listed q left))

      pub keeps_ended : (o : Option A) (removed : List (Bounded F S)) → answer ≡ Ready o → is_some o ≡ false → q + 1 ≢ length g.listed → removed ≡ take q (set g.listed q left) ++ drop (q + 1) (set g.listed q left)
          → KeepsGroups needs (record { listed = removed; place = q }) limit now
      keeps_ended o removed e none more without =
          let is_end = e ∙ ap Ready (from_none o none) in
          let empty : held_in left ≡ 0 = subst (λ (a : Poll (Option A)). IfReady a (λ p. IfNone p (held_in left ≡ 0))) is_end kept.ended_is_empty in
          let other : q + 1 ≢ length (set g.listed q left) = λ h. more (h ∙ length-set g.listed q left) in
          rw without (keeps_left (set g.listed q left) limit now q (keeps_asked) within_left left (rw (get_or-set_same g.listed q left left within) empty) other)
