-- What the streams of a merge give over many polls, with pushes between them.
use Rattle.futures_buffered_unordered.proofs.Common.{ℕ, ◌==◌, cond, List, [], ◌∷◌, ◌++◌, Option, Some, None, refl, sym, ap, subst, inl, inr, ◌∙◌, cases_eq, map-append, filter_map-append, seconds, Context, Poll, Slots, value_in, Inserts, Bounded, ReadySourceOf, item_of, items_in, PollsMergeBounded, SlotStreamOf, answered, pushed, answers_of, streams_of, HeldInTurn, SlotsGaveInTurn, KeepsOrderWithPushes}
use Rattle.std.proofs.Common.{append_assoc}
use Rattle.futures_buffered_unordered.proofs.HeldLemmas.{value_inserted, value_inserted_other}
use Rattle.futures_buffered_unordered.proofs.SlotStreamLemmas.{became_none, became_on, gave_none}
use Rattle.futures_buffered_unordered.proofs.MergeBoundedLemmas.{items_elsewhere, items_here, polled_gave, streams_none}

module _ {F A : Type 0} (polled : F → Poll (Option A) → F → Type 0) where
  -- what a slot held in turn, and what it held later
  turn_on : (held mid now : Option F) (first later : List F) (xs ys : List A) → HeldInTurn polled held first xs mid → HeldInTurn polled mid later ys now → HeldInTurn polled held (first ++ later) (xs ++ ys) now
  turn_on held mid now [] [] xs ys a b = became_on polled held mid now xs ys a b
  turn_on held mid now [] (stream ∷ later) xs ys a b =
      (xs ++ b.0, b.1, ap (λ (l : List A). xs ++ l) b.2 ∙ sym (append_assoc xs b.0 b.1), became_on polled held mid None xs b.0 a b.3, b.4)
  turn_on held mid now (stream ∷ first) later xs ys a b =
      (a.0, a.1 ++ ys, ap (λ (l : List A). l ++ ys) a.2 ∙ append_assoc a.0 a.1 ys, a.3, turn_on (Some stream) mid now first later a.1 ys a.4 b)

module _ {F A : Type 0} (polled : ℕ → F → Poll (Option A) → F → Type 0) where
  pub turns_none : (m : Slots F) → SlotsGaveInTurn polled m [] [] m
  turns_none m = ([], [], refl, refl, streams_none polled m)

  -- what was given and pushed first, and then what was given and pushed later
  pub turns_on : (old mid new : Slots F) (first items : List A) (before streams : List F) → SlotsGaveInTurn polled old first before mid → SlotsGaveInTurn polled mid items streams new → SlotsGaveInTurn polled old (first ++ items) (before ++ streams) new
  turns_on old mid new first items before streams (given, into, given_is, into_is, held) (more, more_into, more_is, more_into_is, held_on) = (
    given ++ more,
    into ++ more_into,
    ap (λ (l : List A). l ++ items) given_is ∙ ap (λ (l : List A). seconds given ++ l) more_is ∙ sym (map-append (λ (p : ℕ × A). p.1) given more),
    ap (λ (l : List F). l ++ streams) into_is ∙ ap (λ (l : List F). seconds into ++ l) more_into_is ∙ sym (map-append (λ (p : ℕ × F). p.1) into more_into),
    λ j. rw (filter_map-append (λ (p : ℕ × A). cond (p.0 == j) (Some p.1) None) given more, filter_map-append (λ (p : ℕ × F). cond (p.0 == j) (Some p.1) None) into more_into)
        (turn_on (polled j) (value_in old j) (value_in mid j) (value_in new j) _ _ _ _ (held j) (held_on j)),
  )

  -- a push
  pub turns_pushed : (old new : Slots F) (i : ℕ) (stream : F) → Inserts old i stream new → SlotsGaveInTurn polled old [] (stream ∷ []) new
  turns_pushed old new i stream inserted = (
    [],
    (i, stream) ∷ [],
    refl,
    refl,
    λ j. elim (cases_eq j i) [
      | inl same ↦ rw (same, items_here i stream, inserted.was_empty, value_inserted old new i stream inserted) ([], [], refl, (refl, refl), gave_none (polled i) stream)
      | inr other ↦ rw (items_elsewhere i j stream other, value_inserted_other old new i stream inserted j other) (became_none (polled j) (value_in old j))
    ],
  )

module _ {St W A S : Type 0} (stream : SlotStreamOf St W A) (source : ReadySourceOf S W) where
  -- the turn of one poll
  pub turn_polled : (old new : Bounded St S) (answer : Poll (Option A)) (cx left : Context) → PollsMergeBounded stream source old answer new cx left → SlotsGaveInTurn stream.polled old.slots (items_in (answer ∷ [])) [] new.slots
  turn_polled old new answer cx left it = let (given, is, gave) = polled_gave stream source old new cx left answer it in (given, [], is, refl, gave)

  pub keeps_order_with_pushes : KeepsOrderWithPushes stream source
  keeps_order_with_pushes old new [] h = subst (λ (b : Bounded St S). SlotsGaveInTurn stream.polled old.slots [] [] b.slots) h (turns_none stream.polled old.slots)
  keeps_order_with_pushes old new (answered answer ∷ events) (mid, (cx, left, it), rest) =
      subst (λ (l : List A). SlotsGaveInTurn stream.polled old.slots l (streams_of events) new.slots) (sym (filter_map-append item_of (answer ∷ []) (answers_of events)))
      (turns_on stream.polled old.slots mid.slots new.slots (items_in (answer ∷ [])) (items_in (answers_of events)) [] (streams_of events) (turn_polled old mid answer cx left it) (keeps_order_with_pushes mid new events rest))
  keeps_order_with_pushes old new (pushed value ∷ events) (mid, push, rest) =
      turns_on stream.polled old.slots mid.slots new.slots [] (items_in (answers_of events)) (value ∷ []) (streams_of events) (turns_pushed stream.polled old.slots mid.slots push.0 value push.1.inserted) (keeps_order_with_pushes mid new events rest)
