-- What the streams of a merge give over many polls.
use Rattle.futures_buffered_unordered.proofs.Common.{◌≡◌, ◌≢◌, ◌⊎◌, ℕ, ◌==◌, ◌<◌, ◌≤◌, cond, is_some, List, [], ◌∷◌, ◌++◌, length, Option, Some, None, MatchOption, IfSome, refl, sym, ap, subst, inl, inr, arith, ◌∙◌, FoldsTo, cases_eq, cases_lt, eq-eqb, ne_eqb, get_or-set_other, get_or_past, map-append, filter_map-append, get_or-le-sum_by, IfReady, OnPending, After, Within, seconds, Context, Poll, Ready, Pending, Slots, value_in, held_count, with_value, with_slot_freed, Passes, Bounded, item_of, items_in, Gave, ReadySourceOf, PollsMergeBounded, RoundEnds, SlotStreamOf, items_at, StreamsGave, ComesFromStreams, KeepsOrder}
use Rattle.futures_buffered_unordered.proofs.HeldLemmas.{value_in-with_value}
use Rattle.futures_buffered_unordered.proofs.HeldGivesLemmas.{value_in-with_slot_freed, value_in-with_slot_freed_other}
use Rattle.futures_buffered_unordered.proofs.SlotStreamLemmas.{gave_none, gave_pending, gave_item, became_none, became_on}

pub items_here : {A : Type 0} (i : ℕ) (x : A) → items_at i ((i, x) ∷ []) ≡ x ∷ []
items_here i x = rw (eq-eqb i i refl) refl

pub items_elsewhere : {A : Type 0} (i j : ℕ) (x : A) → j ≢ i → items_at j ((i, x) ∷ []) ≡ []
items_elsewhere i j x other = rw (ne_eqb i j (λ same. other (sym same))) refl

-- where none is held, no slot holds one
pub none_held : {F : Type 0} (m : Slots F) → held_count m ≡ 0 → (j : ℕ) → value_in m j ≡ None
none_held {F} m none j = by_place (cases_lt j (length m.places))
  where
    by_value : (o : Option F) → o ≡ value_in m j → ◌≡◌ {A = ℕ} (cond (is_some o) 1 0) 0 → value_in m j ≡ None
    by_value None e zero_here = sym e
    by_value (Some f) e zero_here = absurd (omega (arith, zero_here))

    by_place : (j < length m.places) ⊎ (length m.places ≤ j) → value_in m j ≡ None
    by_place (inr past) = get_or_past m.places j None past
    by_place (inl within) = by_value (value_in m j) refl (omega (arith, none, get_or-le-sum_by (λ (o : Option F). cond (is_some o) 1 0) m.places j None within))

module _ {F A : Type 0} (polled : ℕ → F → Poll (Option A) → F → Type 0) where
  pub streams_none : (m : Slots F) → StreamsGave polled m [] m
  streams_none m j = became_none (polled j) (value_in m j)

  -- what was given first, and then what was given later
  pub streams_on : (old mid new : Slots F) (first rest : List (ℕ × A)) → StreamsGave polled old first mid → StreamsGave polled mid rest new → StreamsGave polled old (first ++ rest) new
  streams_on old mid new first rest a b j =
      rw (filter_map-append (λ (p : ℕ × A). cond (p.0 == j) (Some p.1) None) first rest) (became_on (polled j) (value_in old j) (value_in mid j) (value_in new j) (items_at j first) (items_at j rest) (a j) (b j))

  -- the stream of slot i was polled, and the others were not
  at_slot : (m : Slots F) (i : ℕ) (f left : F) (given : List (ℕ × A)) → value_in m i ≡ Some f → ((j : ℕ) → j ≢ i → items_at j given ≡ []) → Gave (polled i) f (items_at i given) left → StreamsGave polled m given (with_value m i left)
  at_slot m i f left given held others gave j =
      elim (cases_eq j i) [
        | inl same ↦ rw (same, held, value_in-with_value m i f left (sym held)) gave
        | inr other ↦ rw (others j other, get_or-set_other m.places i j (Some left) None other) (became_none (polled j) (value_in m j))
      ]

  passes_gave : (m new : Slots F) (i : ℕ) → Passes polled m i new → StreamsGave polled m [] new
  passes_gave m new i = by_value (value_in m i) refl
    where
      by_value : (o : Option F) → value_in m i ≡ o → MatchOption o (new ≡ m) (λ f. (left : F) × polled i f Pending left × (new ≡ with_value m i left)) → StreamsGave polled m [] new
      by_value None e h = rw h (streams_none m)
      by_value (Some f) e h = rw h.2 (at_slot m i f h.0 [] e (λ j other. refl) (gave_pending (polled i) f h.0 h.1))

  passed_gave : (names : List ℕ) (m new : Slots F) → FoldsTo (Passes polled) m names new → StreamsGave polled m [] new
  passed_gave [] m new h = subst (StreamsGave polled m []) h (streams_none m)
  passed_gave (i ∷ names) m new h = streams_on m h.0 new [] [] (passes_gave m h.0 i h.1) (passed_gave names h.0 new h.2)

  -- the stream of slot i ended, and the slot was emptied
  ended_gave : (m : Slots F) (i : ℕ) (f left : F) → value_in m i ≡ Some f → polled i f (Ready None) left → StreamsGave polled m [] (with_slot_freed (with_value m i left) i)
  ended_gave m i f left held ended j =
      elim (cases_eq j i) [
        | inl same ↦ rw (same, held, value_in-with_slot_freed (with_value m i left) i) (f, left, gave_none (polled i) f, ended)
        | inr other ↦ rw (value_in-with_slot_freed_other (with_value m i left) i j other, get_or-set_other m.places i j (Some left) None other) (became_none (polled j) (value_in m j))
      ]

  -- where nothing was given, what may come later might come before
  pub within_of : (old new : Slots F) → StreamsGave polled old [] new → Within (ComesFromStreams polled old) (ComesFromStreams polled new)
  within_of old new gave items (Some y) run = (run.0, run.1, run.2, run.3, streams_on old new run.2 [] (run.0 ++ (run.1, y) ∷ []) gave run.4)
  within_of old new gave items None run = (run.0, run.1, run.2, run.3, streams_on old new run.1 [] run.0 gave run.4)

module _ {St W A S : Type 0} (stream : SlotStreamOf St W A) (source : ReadySourceOf S W) where
  round_gave : (old new : Bounded St S) (i : ℕ) (cx left : Context) → RoundEnds stream source (old, cx) i (new, left) → StreamsGave stream.polled old.slots [] new.slots
  round_gave old new i cx left h =
      let takes = h.1.1.takes in
      let at_end = takes.ends.2 in
      let freed = ap (λ (b : Bounded St S). b.slots) h.1.2 ∙ ap (λ (m : Slots St). with_slot_freed m i) at_end.now_holds in
      rw freed (streams_on stream.polled old.slots takes.passed (with_slot_freed (with_value takes.passed i at_end.left) i) [] [] (passed_gave stream.polled takes.names old.slots takes.passed takes.passes) (ended_gave stream.polled takes.passed i at_end.value at_end.left at_end.held at_end.gave))

  rounds_gave : (ended : List ℕ) (old new : Bounded St S) (cx left : Context) → FoldsTo (RoundEnds stream source) (old, cx) ended (new, left) → StreamsGave stream.polled old.slots [] new.slots
  rounds_gave [] old new cx left h = subst (λ (p : Bounded St S × Context). StreamsGave stream.polled old.slots [] p.0.slots) h (streams_none stream.polled old.slots)
  rounds_gave (i ∷ ended) old new cx left ((mid, then), round, rounds) = streams_on stream.polled old.slots mid.slots new.slots [] [] (round_gave old mid i cx then round) (rounds_gave ended mid new then left rounds)

  module _ (old new : Bounded St S) (cx left : Context) where
    -- one poll
    pub item_gave : (x : A) → PollsMergeBounded stream source old (Ready (Some x)) new cx left → (i : ℕ) × StreamsGave stream.polled old.slots ((i, x) ∷ []) new.slots
    item_gave x it =
        let last = it.last_round.1 in
        let i = last.0 in
        let takes = last.2.takes in
        let gives = takes.ends.2 in
        let stays = ap (λ (b : Bounded St S). b.slots) last.4 ∙ gives.now_holds in
        let here = items_here i x in
        let passed = streams_on stream.polled old.slots it.before.slots takes.passed [] [] (rounds_gave it.ended old it.before cx it.task_then it.rounds) (passed_gave stream.polled takes.names it.before.slots takes.passed takes.passes) in (
          i,
          rw stays (streams_on stream.polled old.slots takes.passed (with_value takes.passed i gives.left) [] ((i, x) ∷ []) passed (at_slot stream.polled takes.passed i gives.value gives.left ((i, x) ∷ []) gives.held (λ j other. items_elsewhere i j x other) (rw here (gave_item (stream.polled i) gives.value gives.left x gives.gave)))),
        )

    pub pending_gave : PollsMergeBounded stream source old Pending new cx left → StreamsGave stream.polled old.slots [] new.slots
    pending_gave it =
        let takes = it.last_round.1.takes in
        rw takes.ends.0 (streams_on stream.polled old.slots it.before.slots takes.passed [] [] (rounds_gave it.ended old it.before cx it.task_then it.rounds) (passed_gave stream.polled takes.names it.before.slots takes.passed takes.passes))

    pub end_gave : PollsMergeBounded stream source old (Ready None) new cx left → ((j : ℕ) → value_in new.slots j ≡ None) × StreamsGave stream.polled old.slots [] new.slots
    end_gave it =
        let same = it.last_round.1 in (
          rw same (none_held it.before.slots it.last_round.0),
          rw same (rounds_gave it.ended old it.before cx it.task_then it.rounds),
        )

    pub value_of : (answer : Poll (Option A)) → PollsMergeBounded stream source old answer new cx left → IfReady answer (ComesFromStreams stream.polled old.slots [])
    value_of (Ready (Some x)) it = let gave = item_gave x it in ([], gave.0, new.slots, refl, gave.1)
    value_of (Ready None) it = let gave = end_gave it in ([], new.slots, refl, gave.0, gave.1)
    value_of Pending it = tt

    pub rest_of : (answer : Poll (Option A)) → PollsMergeBounded stream source old answer new cx left → IfReady answer (λ o. IfSome o (λ x. After (ComesFromStreams stream.polled old.slots) x (ComesFromStreams stream.polled new.slots)))
    rest_of (Ready (Some x)) it = after
      where
        after : After (ComesFromStreams stream.polled old.slots) x (ComesFromStreams stream.polled new.slots)
        after items (Some y) run =
            let gave = item_gave x it in
            ((gave.0, x) ∷ run.0, run.1, run.2, ap (λ (l : List A). x ∷ l) run.3, streams_on stream.polled old.slots new.slots run.2 ((gave.0, x) ∷ []) (run.0 ++ (run.1, y) ∷ []) gave.1 run.4)
        after items None run =
            let gave = item_gave x it in
            ((gave.0, x) ∷ run.0, run.1, ap (λ (l : List A). x ∷ l) run.2, run.3, streams_on stream.polled old.slots new.slots run.1 ((gave.0, x) ∷ []) run.0 gave.1 run.4)
    rest_of (Ready None) it = tt
    rest_of Pending it = tt

    pub same_of : (answer : Poll (Option A)) → PollsMergeBounded stream source old answer new cx left → OnPending answer (Within (ComesFromStreams stream.polled old.slots) (ComesFromStreams stream.polled new.slots))
    same_of (Ready o) it = tt
    same_of Pending it = within_of stream.polled old.slots new.slots (pending_gave it)

    -- a poll that ended the last stream adds nothing to what may come
    pub ended_of : PollsMergeBounded stream source old (Ready None) new cx left → Within (ComesFromStreams stream.polled old.slots) (ComesFromStreams stream.polled new.slots)
    ended_of it = within_of stream.polled old.slots new.slots (end_gave it).1

    -- the items of one poll
    pub polled_gave : (answer : Poll (Option A)) → PollsMergeBounded stream source old answer new cx left → (given : List (ℕ × A)) × (items_in (answer ∷ []) ≡ seconds given) × StreamsGave stream.polled old.slots given new.slots
    polled_gave (Ready (Some x)) it = let gave = item_gave x it in ((gave.0, x) ∷ [], refl, gave.1)
    polled_gave (Ready None) it = ([], refl, (end_gave it).1)
    polled_gave Pending it = ([], refl, pending_gave it)

  -- many polls
  pub keeps_order : KeepsOrder stream source
  keeps_order old new [] h = ([], refl, subst (λ (b : Bounded St S). StreamsGave stream.polled old.slots [] b.slots) h (streams_none stream.polled old.slots))
  keeps_order old new (answer ∷ answers) (mid, (cx, left, it), rest) =
      let (given, is, gave) = polled_gave old mid cx left answer it in
      let (more, more_is, later) = keeps_order mid new answers rest in
      let parts = filter_map-append item_of (answer ∷ []) answers in
      let joined = map-append (λ (p : ℕ × A). p.1) given more in
      (given ++ more, parts ∙ ap (λ (l : List A). l ++ items_in answers) is ∙ ap (λ (l : List A). seconds given ++ l) more_is ∙ sym joined, streams_on stream.polled old.slots mid.slots new.slots given more gave later)
