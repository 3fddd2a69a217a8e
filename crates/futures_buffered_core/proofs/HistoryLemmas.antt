-- One event more keeps what the standing says of the events so far.
use Rattle.futures_buffered_core.proofs.Common.{◌≡◌, ◌≢◌, ◌⊎◌, ℕ, zero, suc, ◌+◌, ◌<◌, ◌≤◌, true, false, eqb, List, [], ◌∷◌, ◌++◌, length, Some, slice_get, refl, sym, ap, subst, ◌∙◌, inl, inr, arith, append-nil, append_assoc, true≢false, IsDistinct, IsDistinct-head, IsDistinct-tail, length-map, map_push, length_push, take-append-le, take-append_seam, slice_get_within, nat_tests, eqb-true, or_cases, or_right, Reply, Woke, Fresh, Already, Taken, Slot, Empty, Pause, is_marked, MarkGives, TakeGives, IsUnserved, IsRight, IsOldest, StandInOrder, IsStanding, marks_before, replies_before, Answers}
use Rattle.std.proofs.Common.{length-append}
use Rattle.futures_buffered_core.specs.declared.ready_core.Event.{Event}
use Rattle.futures_buffered_core.specs.declared.ready_core.Event.TheVariants as event
use Rattle.futures_buffered_core.specs.declared.ready_core.Reply.TheVariants as reply
use Rattle.futures_buffered_core.proofs.KeepsOnceLemmas.{head_listed, listed_push, absent_rest}

module _ {X : Type 0} where
  -- what a longer list has before its end, and at its end
  pub read_front : (xs : List X) (y : X) (q : ℕ) → q < length xs → slice_get (xs ++ y ∷ []) q ≡ slice_get xs q
  read_front [] y q below = absurd (omega arith)
  read_front (x ∷ xs) y zero below = refl
  read_front (x ∷ xs) y (suc q) below = read_front xs y q (omega arith)

  pub read_end : (xs : List X) (y : X) → slice_get (xs ++ y ∷ []) (length xs) ≡ Some y
  read_end [] y = refl
  read_end (x ∷ xs) y = read_end xs y

  pub read_cases : (xs : List X) (y x : X) (q : ℕ) → slice_get (xs ++ y ∷ []) q ≡ Some x → (slice_get xs q ≡ Some x) ⊎ ((q ≡ length xs) × (y ≡ x))
  read_cases [] y x zero e = inr (refl, cc)
  read_cases [] y x (suc q) e = inl e
  read_cases (z ∷ xs) y x zero e = inl e
  read_cases (z ∷ xs) y x (suc q) e =
      elim (read_cases xs y x q e) [ inl h ↦ inl h | inr h ↦ inr (ap suc h.0, h.1) ]

module _ (events : List Event) (replies : List Reply) where
  -- a slot that stands from low on has no unserved mark before
  order_bound : (low i p : ℕ) (slots : List ℕ) → StandInOrder events replies low slots → is_marked slots i ≡ true → IsUnserved events replies p i → low ≤ p
  order_bound low i p [] h listed u = cc
  order_bound low i p (j ∷ slots) h listed u =
      elim (or_cases (eqb i j) (is_marked slots i) listed) [
        | inl first ↦ let e = eqb-true i j first in omega (arith, h.2.1 p (subst (IsUnserved events replies p) e u), h.1)
        | inr later ↦ omega (arith, order_bound (h.0 + 1) i p slots h.3 later u, h.1)
      ]

  order_from : (low less : ℕ) (slots : List ℕ) → less ≤ low → StandInOrder events replies low slots → StandInOrder events replies less slots
  order_from low less [] below h = tt
  order_from low less (j ∷ slots) below h = (h.0, omega (arith, h.1), h.2, h.3)

  -- a slot that stands has an unserved mark
  marked_unserved : (low i : ℕ) (slots : List ℕ) → StandInOrder events replies low slots → is_marked slots i ≡ true → (q : ℕ) × IsUnserved events replies q i
  marked_unserved low i [] h listed = cc
  marked_unserved low i (j ∷ slots) h listed =
      elim (or_cases (eqb i j) (is_marked slots i) listed) [
        | inl first ↦ (h.0, subst (IsUnserved events replies h.0) (sym (eqb-true i j first)) h.2.0)
        | inr later ↦ marked_unserved (h.0 + 1) i slots h.3 later
      ]

module _ (events : List Event) (replies : List Reply) (same : length events ≡ length replies) (e : Event) (r : Reply) where
  -- an unserved mark stays so where the new reply doesn't name its slot
  unserved_stays : (q i : ℕ) → (r ≡ reply.Taken (Slot i) → ⊥) → IsUnserved events replies q i → IsUnserved (events ++ e ∷ []) (replies ++ r ∷ []) q i
  unserved_stays q i other h = grind (arith, slice_get_within, read_front, read_cases)

  -- one that is unserved was so before, or is new
  unserved_cases : (q i : ℕ) → IsUnserved (events ++ e ∷ []) (replies ++ r ∷ []) q i → IsUnserved events replies q i ⊎ ((q ≡ length events) × (e ≡ event.Mark i))
  unserved_cases q i h = grind (arith, slice_get_within, read_front, read_cases)

  -- a naming serves each mark of the slot before
  named_served : (q i : ℕ) → r ≡ reply.Taken (Slot i) → q < length events → IsUnserved (events ++ e ∷ []) (replies ++ r ∷ []) q i → ⊥
  named_served q i names before h = h.1 (length replies) (omega arith) (read_end replies r ∙ ap Some names)

  oldest_stays : (q i : ℕ) → (r ≡ reply.Taken (Slot i) → ⊥) → IsOldest events replies q i → IsOldest (events ++ e ∷ []) (replies ++ r ∷ []) q i
  oldest_stays q i other h =
      let within = slice_get_within events q _ h.0.0 in
      (unserved_stays q i other h.0, λ p u. elim (unserved_cases p i u) [ inl old ↦ h.1 p old | inr new ↦ let at = new.0 in omega arith ])

  -- the same of a row of slots, none of which the reply names
  order_stays : (low : ℕ) (slots : List ℕ) → ((i : ℕ) → is_marked slots i ≡ true → r ≡ reply.Taken (Slot i) → ⊥) → StandInOrder events replies low slots → StandInOrder (events ++ e ∷ []) (replies ++ r ∷ []) low slots
  order_stays low [] others h = tt
  order_stays low (i ∷ slots) others h = (
    h.0,
    h.1,
    oldest_stays h.0 i (others i (head_listed i slots)) h.2,
    order_stays (h.0 + 1) slots (λ j listed. others j (or_right (eqb j i) (is_marked slots j) listed)) h.3,
  )

  -- a new mark comes last
  order_push : (low i : ℕ) (slots : List ℕ) → e ≡ event.Mark i → ((j : ℕ) → r ≡ reply.Taken (Slot j) → ⊥) → ((p : ℕ) → IsUnserved events replies p i → ⊥) → low ≤ length events → StandInOrder events replies low slots → StandInOrder (events ++ e ∷ []) (replies ++ r ∷ []) low (slots ++ i ∷ [])
  order_push low i [] marks others clear bound h = (
    length events,
    bound,
    (
      (read_end events e ∙ ap Some marks, λ k later named. absurd (omega (arith, slice_get_within (replies ++ r ∷ []) k _ named, length_push replies r))),
      λ p u. elim (unserved_cases p i u) [ inl old ↦ absurd (clear p old) | inr new ↦ let at = new.0 in omega arith ],
    ),
    tt,
  )
  order_push low i (j ∷ slots) marks others clear bound h =
      let within = slice_get_within events h.0 _ h.2.0.0 in
      (h.0, h.1, oldest_stays h.0 j (others j) h.2, order_push (h.0 + 1) i slots marks others clear (omega arith) h.3)

-- a mark is answered rightly, and this stands after it
pub after_mark : (events : List Event) (replies : List Reply) → length events ≡ length replies → (i : ℕ) (woke : Woke) (old new : List ℕ) → MarkGives old i woke new → IsStanding events replies old
    → IsRight events replies (event.Mark i) (reply.Woke woke) × IsStanding (events ++ event.Mark i ∷ []) (replies ++ reply.Woke woke ∷ []) new
after_mark events replies same i Fresh old new gives h =
    let e = event.Mark i in
    let r = reply.Woke Fresh in
    let clear : (p : ℕ) → IsUnserved events replies p i → ⊥ = λ p u. true≢false (sym (h.all i p u) ∙ gives.0) in (
      clear,
      rw gives.1 (record {
        in_order = order_push events replies same e r 0 i old refl (λ j named. cc) clear (omega arith) h.in_order;
        all = λ j q u. let more = listed_push old i j in elim (unserved_cases events replies same e r q j u) [
          | inl was ↦ let before = h.all j q was in grind arith
          | inr last ↦ let n = last.1 in grind (arith, nat_tests)
        ];
      }),
    )
after_mark events replies same i Already old new gives h =
    let e = event.Mark i in
    let r = reply.Woke Already in (
      marked_unserved events replies 0 i old h.in_order gives.0,
      rw gives.1 (record {
        in_order = order_stays events replies same e r 0 old (λ j listed named. cc) h.in_order;
        all = λ j q u. elim (unserved_cases events replies same e r q j u) [ inl was ↦ h.all j q was | inr last ↦ let n = last.1 in let g = gives.0 in grind arith ];
      }),
    )

pub after_take : (events : List Event) (replies : List Reply) → length events ≡ length replies → (taken : Taken) (old new : List ℕ) → TakeGives old taken new → IsStanding events replies old
    → IsRight events replies event.Take (reply.Taken taken) × IsStanding (events ++ event.Take ∷ []) (replies ++ reply.Taken taken ∷ []) new
after_take events replies same (Slot i) old new gives h =
    let r = reply.Taken (Slot i) in
    let stands = subst (IsStanding events replies) gives h in
    let first = stands.in_order in
    let bound = order_bound events replies first.0 in
    let later = order_bound events replies (first.0 + 1) in (
      (first.0, first.2.0, λ j p u. bound j p (i ∷ new) (first.0, omega arith, first.2, first.3) (stands.all j p u) u),
      record {
        -- the slots that stand later are others
        in_order = order_stays events replies same event.Take r 0 new (λ j listed named. let again : is_marked new i ≡ true = grind arith in omega (arith, later i first.0 new first.3 again first.2.0))
            (order_from events replies (first.0 + 1) 0 new (omega arith) first.3);
        all = λ j q u. elim (unserved_cases events replies same event.Take r q j u) [
          | inl was ↦
              let before = stands.all j q was in
              let other : i ≢ j = λ (names : i ≡ j). named_served events replies same event.Take r q j (cc) (slice_get_within events q _ was.0) u in
              grind (arith, nat_tests)
          | inr last ↦ let n = last.1 in cc
        ];
      },
    )
after_take events replies same Empty old new gives h =
    let stands = subst (IsStanding events replies) gives.0 h in (
      λ j p u. true≢false (sym (stands.all j p u)),
      rw (gives.1, gives.0) (record {
        in_order = tt;
        all = λ j q u. elim (unserved_cases events replies same event.Take (reply.Taken Empty) q j u) [ inl was ↦ stands.all j q was | inr last ↦ let n = last.1 in cc ];
      }),
    )
after_take events replies same Pause old new gives h = absurd gives

-- one more event, whose reply is right
pub Answers-push : (standing : List ℕ) (events : List Event) (replies : List Reply) (old new : List ℕ) (last : Event) (r : Reply) → Answers standing events replies old
    → ((before : List Event) (answers : List Reply) → length before ≡ length answers → IsStanding before answers old → IsRight before answers last r × IsStanding (before ++ last ∷ []) (answers ++ r ∷ []) new)
    → Answers standing (events ++ last ∷ []) (replies ++ r ∷ []) new
Answers-push standing events replies old new last r h gives =
    let count = h.count in
    let front = marks_before standing in
    let first = replies_before standing in
    let after = gives (front ++ events) (first ++ replies)
    (omega (arith, length-append front events, length-append first replies, length-map standing (λ (k : ℕ). event.Mark k), length-map standing (λ (k : ℕ). reply.Woke Fresh))) h.stands in
    record {
      each = λ p e x read answered. elim (read_cases replies r x p answered) [
        | inl before ↦
            let within = slice_get_within replies p x before in
            let same = read_front events last p (omega arith) in
            rw (take-append-le p replies (r ∷ []) (omega arith), take-append-le p events (last ∷ []) (omega arith)) (h.each p e x (sym same ∙ read) before)
        | inr here ↦
            let found : slice_get (events ++ last ∷ []) (length events) ≡ Some e = rw (here.0, count) at read in
            let at_end = read_end events last in
            let same : last ≡ e = cc in
            rw (here.0, take-append_seam replies (r ∷ []), count, take-append_seam events (last ∷ []), ← here.1, ← same) after.0
      ];
      count = omega (arith, count, length_push events last, length_push replies r);
      stands = rw (← append_assoc front events (last ∷ []), ← append_assoc first replies (r ∷ [])) after.1;
    }

-- marks of these slots, and then of those
marks_more : (front rest : List ℕ) → ((i : ℕ) → is_marked rest i ≡ true → is_marked front i ≡ false) → IsDistinct eqb rest → IsStanding (marks_before front) (replies_before front) front → IsStanding (marks_before (front ++ rest)) (replies_before (front ++ rest)) (front ++ rest)
marks_more front [] apart distinct h = rw (append-nil front) h
marks_more front (i ∷ rest) apart distinct h =
    let same : length (marks_before front) ≡ length (replies_before front) = length-map front (λ (k : ℕ). event.Mark k) ∙ sym (length-map front (λ (k : ℕ). reply.Woke Fresh)) in
    let clear = apart i (head_listed i rest) in
    let more = (after_mark (marks_before front) (replies_before front) same i Fresh front (front ++ i ∷ []) (clear, refl) h).1 in
    let pushed : IsStanding (marks_before (front ++ i ∷ [])) (replies_before (front ++ i ∷ [])) (front ++ i ∷ []) = rw (map_push (λ (k : ℕ). event.Mark k) front i, map_push (λ (k : ℕ). reply.Woke Fresh) front i) more in
    let others = IsDistinct-head eqb i rest distinct in
    let left = marks_more (front ++ i ∷ []) rest
    (λ j listed. let pushed = listed_push front i j in let was = apart j (or_right (eqb j i) (is_marked rest j) listed) in let absent = absent_rest i rest others in grind (arith, nat_tests))
    (IsDistinct-tail eqb i rest distinct) pushed in
    rw (append_assoc front (i ∷ []) rest) at left

pub Answers-none : (standing : List ℕ) → IsDistinct eqb standing → Answers standing [] [] standing
Answers-none standing distinct =
    record {
      each = λ p e r read answered. cc;
      count = refl;
      stands = rw (append-nil (marks_before standing), append-nil (replies_before standing))
          (marks_more [] standing (λ i listed. refl) distinct (record { in_order = tt; all = λ i q u. let e = u.0 in cc }));
    }
