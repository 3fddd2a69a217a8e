-- What each call leaves of the places and the free ones.
use Rattle.futures_buffered_core.proofs.Common.{◌≡◌, ◌≢◌, true≢false, MatchOption, ℕ, zero, suc, ◌+◌, ◌-◌, ◌<◌, ◌≤◌, Bool, true, false, cond, eqb, List, [], ◌∷◌, ◌++◌, map, length, get_or, set, replicate, Option, Some, None, is_some, IsSome, count_by, refl, sym, ap, subst, ◌∙◌, arith, length-set, is_none, list_any, range_with_len, IsDistinct, or_parts, length-append, map_push, length-replicate, map-set, length-map, get_or_append_left, get_or-map, get_or_past, get_or-replicate, get_or-set_same, get_or-set_other, get_or_read, map-set_same, get_or-append_seam, sum_by-replicate, nat_tests, IsDistinct-head, Place, Free, Held, Slots, IsFirstHeld, Inserts, GrowsByOne, no_slots, all_slots, with_value, with_slot_freed, value_of, next_free, free_from, free_list, slots_of, KeepsPlaces, new_places}
use Rattle.std.proofs.lemmas.List.FromFn.{length-map-range_with_len, get_or-map-range_with_len, map-range_with_len_more}
use Rattle.std.proofs.lemmas.List.Sums.{sum_by-append, sum_by-set, sum_by-cons, count_by-le-length}
use Rattle.futures_buffered_core.proofs.RangeLemmas.{listed_range, range_distinct}
use Rattle.futures_buffered_core.proofs.KeepsOnceLemmas.{KeepsOnce-first, KeepsOnce-take, KeepsOnce-marked, KeepsOnce-return, KeepsOnce-none, KeepsOnce-grow, KeepsOnce-below, head_listed, absent_rest}

-- what is asked of a value, where there is one
pub at_some : {A : Type 0} (o : Option A) (P Q : Type 0) → IsSome o → Q → MatchOption o P (λ _. Q)
at_some (Some _) P Q some q = q
at_some None P Q some q = absurd (true≢false (sym some))

module _ (F : Type 0) where
  length-new_places : (n : ℕ) → length (new_places {F = F} n) ≡ n
  length-new_places n = length-map-range_with_len (λ (i : ℕ). Free (i + 1)) 0 n

  -- each new place names the one after it
  free_from-new : (n a m : ℕ) → a + m ≡ n → free_from (new_places {F = F} n) a m ≡ range_with_len a m
  free_from-new n a zero e = refl
  free_from-new n a (suc m) e =
      let named : get_or (new_places {F = F} n) a (Free 0) ≡ Free (a + 1) = get_or-map-range_with_len (λ (i : ℕ). Free (i + 1)) 0 n a a (Free 0) (omega arith) (omega arith) in
      rw named (ap (λ (rest : List ℕ). a ∷ rest) (free_from-new n (a + 1) m (omega arith)))

module _ {F : Type 0} where
  -- a write at a place that is not among the next n leaves these
  free_from-set : (places : List (Place F)) (first n i : ℕ) (new : Place F) → list_any (eqb i) (free_from places first n) ≡ false → free_from (set places i new) first n ≡ free_from places first n
  free_from-set places first zero i new absent = refl
  free_from-set places first (suc n) i new absent =
      let next = next_free (get_or places first (Free 0)) in
      let parts = or_parts (eqb i first) (list_any (eqb i) (free_from places next n)) absent in
      let read : get_or (set places i new) first (Free 0) ≡ get_or places first (Free 0) = grind (arith, nat_tests, get_or-set_other) in
      rw read (ap (λ (rest : List ℕ). first ∷ rest) (free_from-set places next n i new parts.1))

  -- how many values there are once this place was written
  count-set : (places : List (Place F)) (i : ℕ) (new : Place F) → i < length places → count_by is_some (map value_of (set places i new)) + cond (is_some (get_or (map value_of places) i None)) 1 0 ≡ count_by is_some (map value_of places) + cond (is_some (value_of new)) 1 0
  count-set places i new within =
      rw (map-set value_of places i new) (sum_by-set (λ o. cond (is_some o) 1 0) (map value_of places) i (value_of new) None (omega (arith, length-map places value_of)))

  -- a slot that holds something is there
  pub value_within : (values : List (Option F)) (i : ℕ) → IsSome (get_or values i None) → i < length values
  value_within values i some = grind (arith, get_or_past)

  pub held_within : (places : List (Place F)) (i : ℕ) → IsSome (get_or (map value_of places) i None) → i < length places
  held_within places i some = omega (arith, length-map places value_of, value_within (map value_of places) i some)

  -- its mark is clear
  clear_mark : (places : List (Place F)) (i : ℕ) → IsSome (get_or (map value_of places) i None) → get_or (map is_none (map value_of places)) i false ≡ false
  clear_mark places i some =
      let read = get_or-map is_none (map value_of places) i None false (omega (arith, length-map places value_of, held_within places i some)) in
      grind arith

  -- the free places, where there is one
  listed : (places : List (Place F)) (first len : ℕ) → len < length places → free_list places first len ≡ first ∷ free_from places (next_free (get_or places first (Free 0))) (length places - (len + 1))
  listed places first len room = let more : length places - len ≡ suc (length places - (len + 1)) = omega arith in rw more refl

  pub held_at_most : (places : List (Place F)) (first len : ℕ) → KeepsPlaces places first len → len ≤ length places
  held_at_most places first len kept =
      omega (arith, kept.counted, count_by-le-length is_some (map value_of places), length-map places value_of)

  pub some_free : (places : List (Place F)) (first len : ℕ) → len < length places → free_list places first len ≢ []
  some_free places first len room none = let e = listed places first len room in absurd (cc)

  -- what the first free place holds
  pub first_is_empty : (places : List (Place F)) (first len : ℕ) → KeepsPlaces places first len → len < length places → (first < length places) × (get_or (map value_of places) first None ≡ None)
  first_is_empty places first len kept room =
      let values = map value_of places in
      let within : first < length places = omega (arith, length-map places value_of, length-map values is_none, KeepsOnce-first (map is_none values) _ _ _ first kept.once (listed places first len room)) in
      let marked = KeepsOnce-marked (map is_none values) _ _ _ first kept.once (listed places first len room) in
      let empty = get_or-map is_none values first None false (omega (arith, length-map places value_of)) in
      (within, grind arith)

  -- what a read of the first free place gives
  pub first_read : (places : List (Place F)) (first len : ℕ) (read : Place F) → KeepsPlaces places first len → len < length places → read ≡ get_or places first read → (value_of read ≡ None) × (next_free read ≡ next_free (get_or places first (Free 0)))
  first_read places first len read kept room is =
      let empty = first_is_empty places first len kept room in (
        ap value_of is ∙ sym (get_or-map value_of places first read None empty.0) ∙ empty.1,
        ap next_free (get_or_read places first read empty.0 is (Free 0)),
      )

  -- those after the first one, once it was written
  after_insert : (places : List (Place F)) (first len : ℕ) (new : Place F) → KeepsPlaces places first len → len < length places → free_list (set places first new) (next_free (get_or places first (Free 0))) (len + 1) ≡ free_from places (next_free (get_or places first (Free 0))) (length places - (len + 1))
  after_insert places first len new kept room =
      let next = next_free (get_or places first (Free 0)) in
      let rest = free_from places next (length places - (len + 1)) in
      let distinct = subst (IsDistinct eqb) (listed places first len room) kept.once.distinct in
      rw (length-set places first new) (free_from-set places next (length places - (len + 1)) first new (absent_rest first rest (IsDistinct-head eqb first rest distinct)))

  pub KeepsPlaces-insert : (places : List (Place F)) (first len : ℕ) (value : F) → KeepsPlaces places first len → len < length places → KeepsPlaces (set places first (Held value)) (next_free (get_or places first (Free 0))) (len + 1)
  KeepsPlaces-insert places first len value kept room =
      let values = map value_of places in
      let empty = first_is_empty places first len kept room in
      record {
        once = rw (after_insert places first len (Held value) kept room, map-set value_of places first (Held value), map-set is_none values first (Some value), length-set places first (Held value)) (KeepsOnce-take (map is_none values) _ _ _ first kept.once (listed places first len room));
        counted = omega (arith, kept.counted, rw empty.1 at (count-set places first (Held value) empty.0));
      }

  pub Inserts-first : (places : List (Place F)) (first len : ℕ) (value : F) → KeepsPlaces places first len → len < length places → Inserts (slots_of places first len) first value (slots_of (set places first (Held value)) (next_free (get_or places first (Free 0))) (len + 1))
  Inserts-first places first len value kept room =
      let empty = first_is_empty places first len kept room in
      record {
        within = omega (arith, length-map places value_of, empty.0);
        first_free = rw (after_insert places first len (Held value) kept room) (listed places first len room);
        was_empty = empty.1;
        now_held = map-set value_of places first (Held value);
      }

  -- a place that holds something is not among the free ones
  held_not_listed : (places : List (Place F)) (first len i : ℕ) → KeepsPlaces places first len → IsSome (get_or (map value_of places) i None) → list_any (eqb i) (free_list places first len) ≡ false
  held_not_listed places first len i kept some = sym (kept.once.exact i) ∙ clear_mark places i some

  -- the free places once one was written that holds something
  after_write : (places : List (Place F)) (first len i : ℕ) (new : Place F) → KeepsPlaces places first len → IsSome (get_or (map value_of places) i None) → free_from (set places i new) first (length places - len) ≡ free_list places first len
  after_write places first len i new kept some =
      free_from-set places first (length places - len) i new (held_not_listed places first len i kept some)

  pub slots_of-write : (places : List (Place F)) (first len i : ℕ) (value : F) → KeepsPlaces places first len → IsSome (get_or (map value_of places) i None) → slots_of (set places i (Held value)) first len ≡ with_value (slots_of places first len) i value
  slots_of-write places first len i value kept some =
      rw (length-set places i (Held value), after_write places first len i (Held value) kept some, map-set value_of places i (Held value)) refl

  pub KeepsPlaces-write : (places : List (Place F)) (first len i : ℕ) (value : F) → KeepsPlaces places first len → IsSome (get_or (map value_of places) i None) → KeepsPlaces (set places i (Held value)) first len
  KeepsPlaces-write places first len i value kept some =
      let values = map value_of places in
      let within = held_within places i some in
      let read = get_or-map is_none values i None false (omega (arith, length-map places value_of)) in
      let same : false ≡ is_none (get_or values i None) = sym (clear_mark places i some) ∙ read in
      record {
        once = rw (length-set places i (Held value), after_write places first len i (Held value) kept some, map-set value_of places i (Held value), map-set_same is_none values i (Some value) None same) kept.once;
        counted = omega (arith, kept.counted, rw some at (count-set places i (Held value) within));
      }

  -- one value less
  pub count-remove : (places : List (Place F)) (first i : ℕ) → IsSome (get_or (map value_of places) i None) → count_by is_some (map value_of (set places i (Free first))) + 1 ≡ count_by is_some (map value_of places)
  count-remove places first i some = omega (arith, rw some at (count-set places i (Free first) (held_within places i some)))

  -- the free places once this one was freed
  after_remove : (places : List (Place F)) (first len i : ℕ) → KeepsPlaces places first len → IsSome (get_or (map value_of places) i None) → free_list (set places i (Free first)) i (len - 1) ≡ i ∷ free_list places first len
  after_remove places first len i kept some =
      let within = held_within places i some in
      let held = count-remove places first i some in
      let most = count_by-le-length is_some (map value_of places) in
      let more : length places - (len - 1) ≡ suc (length places - len) = omega (arith, kept.counted, length-map places value_of) in
      rw (length-set places i (Free first), more, get_or-set_same places i (Free first) (Free 0) within) (ap (λ (rest : List ℕ). i ∷ rest) (after_write places first len i (Free first) kept some))

  pub slots_of-remove : (places : List (Place F)) (first len i : ℕ) → KeepsPlaces places first len → IsSome (get_or (map value_of places) i None) → slots_of (set places i (Free first)) i (len - 1) ≡ with_slot_freed (slots_of places first len) i
  slots_of-remove places first len i kept some =
      rw (after_remove places first len i kept some, map-set value_of places i (Free first)) refl

  pub KeepsPlaces-remove : (places : List (Place F)) (first len i : ℕ) → KeepsPlaces places first len → IsSome (get_or (map value_of places) i None) → KeepsPlaces (set places i (Free first)) i (len - 1)
  KeepsPlaces-remove places first len i kept some =
      let values = map value_of places in
      let within = held_within places i some in
      let marked = KeepsOnce-return (map is_none values) _ _ i kept.once (omega (arith, length-map places value_of, length-map values is_none)) (clear_mark places i some) in
      record {
        once = rw (after_remove places first len i kept some, map-set value_of places i (Free first), map-set is_none values i None, length-set places i (Free first)) marked;
        counted = omega (arith, kept.counted, count-remove places first i some);
      }

  -- one place more
  pub new_places_push : (n : ℕ) → new_places {F = F} (n + 1) ≡ new_places n ++ Free (n + 1) ∷ []
  new_places_push n = map-range_with_len_more (λ (i : ℕ). Free (i + 1)) 0 n n (omega arith)

  values-new : (a n : ℕ) → map value_of (map (λ (i : ℕ). Free (i + 1)) (range_with_len a n)) ≡ replicate {A = Option F} n None
  values-new a zero = refl
  values-new a (suc n) = ap (λ (rest : List (Option F)). None ∷ rest) (values-new (a + 1) n)

  pub slots_of-new : (n : ℕ) → slots_of (new_places {F = F} n) 0 0 ≡ no_slots n
  slots_of-new n =
      let all : length (new_places {F = F} n) - 0 ≡ n = omega (arith, length-new_places F n) in
      rw (all, values-new 0 n, free_from-new F n 0 n (omega arith)) refl

  pub KeepsPlaces-new : (n : ℕ) → KeepsPlaces (new_places {F = F} n) 0 0
  KeepsPlaces-new n =
      let list = ap (λ (m : Slots F). m.free) (slots_of-new n) in
      record {
        once = rw (list, values-new 0 n, length-new_places F n) (record {
          distinct = range_distinct 0 n;
          exact = exact;
          fits = omega (arith, length-map (replicate {A = Option F} n None) is_none, length-replicate {A = Option F} n None);
        });
        counted = rw (values-new 0 n) (omega (arith, sum_by-replicate (λ (o : Option F). cond (is_some o) 1 0) n None));
      }
    where
      exact : (q : ℕ) → get_or (map is_none (replicate {A = Option F} n None)) q false ≡ list_any (eqb q) (range_with_len 0 n)
      exact q =
          let listed = listed_range 0 n q in
          let at = get_or-map is_none (replicate {A = Option F} n None) q None false in
          grind (arith, nat_tests, get_or-replicate, get_or_past, length-map, length-replicate)

-- the first slot that holds a value is one slot
pub first_held_once : {F : Type 0} (m : Slots F) (start i j : ℕ) → IsFirstHeld m start i → IsFirstHeld m start j → i ≡ j
first_held_once m start i j first other = grind arith

-- a map whose places all hold a value has no free one
module _ {F : Type 0} where
  values-held : (values : List F) → map value_of (map Held values) ≡ map Some values
  values-held [] = refl
  values-held (value ∷ values) = ap (λ (rest : List (Option F)). Some value ∷ rest) (values-held values)

  map-is_none : (values : List F) → map is_none (map Some values) ≡ replicate (length values) false
  map-is_none [] = refl
  map-is_none (value ∷ values) = ap (λ (marks : List Bool). false ∷ marks) (map-is_none values)

  count-all : (values : List F) → count_by is_some (map Some values) ≡ length values
  count-all [] = refl
  count-all (value ∷ values) = omega (arith, count-all values, sum_by-cons (λ (o : Option F). cond (is_some o) 1 0) (Some value) (map Some values))

  none_free : (values : List F) → free_list (map Held values) (length (map Held values)) (length (map Held values)) ≡ []
  none_free values = let none : length (map Held values) - length (map Held values) ≡ 0 = omega arith in rw none refl

  pub slots_of-all : (values : List F) → slots_of (map Held values) (length (map Held values)) (length (map Held values)) ≡ all_slots values
  slots_of-all values = rw (none_free values, values-held values) refl

  pub KeepsPlaces-all : (values : List F) → KeepsPlaces (map Held values) (length (map Held values)) (length (map Held values))
  KeepsPlaces-all values =
      record {
        once = rw (none_free values, values-held values, map-is_none values) (KeepsOnce-none (length values) (length (map Held values)) (omega (arith, length-map values Held)));
        counted = rw (values-held values) (omega (arith, count-all values, length-map values Held));
      }

module _ {F : Type 0} where
  -- an empty slot more counts for nothing
  count-grown : (values : List (Option F)) → count_by is_some (values ++ None ∷ []) ≡ count_by is_some values
  count-grown values = sum_by-append (λ o. cond (is_some o) 1 0) values (None ∷ []) ∙ omega arith

  grown_values : (places : List (Place F)) (k : ℕ) → map value_of (places ++ Free k ∷ []) ≡ map value_of places ++ None ∷ []
  grown_values places k = map_push value_of places (Free k)

  -- a place more, behind the others, leaves the next n, which are before it
  free_from-behind : (places : List (Place F)) (p : Place F) (first n : ℕ) → ((q : ℕ) → list_any (eqb q) (free_from places first n) ≡ true → q < length places) → free_from (places ++ p ∷ []) first n ≡ free_from places first n
  free_from-behind places p first zero below = refl
  free_from-behind places p first (suc n) below =
      let next = next_free (get_or places first (Free 0)) in
      let rest = free_from places next n in
      let read : get_or (places ++ p ∷ []) first (Free 0) ≡ get_or places first (Free 0) = get_or_append_left places (p ∷ []) (Free 0) first (below first (head_listed first rest)) in
      rw read (ap (λ (others : List ℕ). first ∷ others) (free_from-behind places p next n (λ q listed. below q (grind arith))))

  -- the free places once there is one more
  free-grown : (places : List (Place F)) (first len : ℕ) → KeepsPlaces places first len → free_list (places ++ Free first ∷ []) (length places) len ≡ length places ∷ free_list places first len
  free-grown places first len kept =
      let marks = map is_none (map value_of places) in
      let all : length marks ≡ length places = length-map (map value_of places) is_none ∙ length-map places value_of in
      let more : length (places ++ Free first ∷ []) - len ≡ suc (length places - len) = omega (arith, length-append places (Free first ∷ []), held_at_most places first len kept) in
      let below : (q : ℕ) → list_any (eqb q) (free_list places first len) ≡ true → q < length places = λ q listed. subst (λ (n : ℕ). q < n) all (KeepsOnce-below marks (free_list places first len) (length places) q kept.once listed) in
      rw (more, get_or-append_seam places (Free first) [] (Free 0)) (ap (λ (rest : List ℕ). length places ∷ rest) (free_from-behind places (Free first) first (length places - len) below))

  pub KeepsPlaces_grow : (places : List (Place F)) (first len : ℕ) → KeepsPlaces places first len → KeepsPlaces (places ++ Free first ∷ []) (length places) len
  KeepsPlaces_grow places first len kept =
      let values = map value_of places in
      let grown = KeepsOnce-grow (map is_none values) (free_list places first len) (length places) kept.once (length-map values is_none ∙ length-map places value_of) in
      record {
        once = rw (free-grown places first len kept, grown_values places first, map_push is_none values None, length-append places (Free first ∷ [])) grown;
        counted = rw (grown_values places first) (kept.counted ∙ sym (count-grown values));
      }

  pub slots_of_grow : (places : List (Place F)) (first len : ℕ) → KeepsPlaces places first len → GrowsByOne (slots_of places first len) (slots_of (places ++ Free first ∷ []) (length places) len)
  slots_of_grow places first len kept = (
    grown_values places first,
    rw (free-grown places first len kept, length-map places value_of) refl,
    rw (grown_values places first) (count-grown (map value_of places)),
  )
