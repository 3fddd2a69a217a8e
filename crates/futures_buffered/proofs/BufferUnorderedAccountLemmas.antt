-- Where each value held came from, and that no item drawn is lost or counted twice.
use Rattle.futures_buffered.proofs.Common.{◌≡◌, ℕ, zero, suc, ◌<◌, List, [], ◌∷◌, ◌++◌, length, set, get_or, filter_map, Option, Some, None, Result, MatchOption, IsSomeAnd, is_some, count_by, cond, refl, sym, subst, inl, inr, arith, append-nil, ◌∙◌, length-set, IsPermutation, option_to_list, chained_keeps, FoldsTo, AllZip, FoldsTo-push, get_or-set_other, get_or-set_same, cases_eq, sum_by-cons, Poll, Ready, Pending, Slots, value_in, with_value, Woke, Passes, Bounded, Pushes, held_in, ReadySourceOf, SlotFutureOf, PollsBounded, itself, OfSomeTask, OnlyPushes, StreamOf, Accounts, PollsStream, output_given, PendsTo, WaitsInSlot, MayGiveInSlot, LosesNothing, TryLosesNothing, held_values, PushesOk, same_Some, none-some, set-get_or, set-set, all_zipped_more, held_within}
use Rattle.std.proofs.lemmas.List.Sorted.{IsPermutation-refl, IsPermutation-sym, IsPermutation-trans, IsPermutation-cons, IsPermutation-middle, IsPermutation-append_right, IsPermutation-push_more, IsPermutation-pop_more}
use Rattle.futures_buffered.proofs.BufferAccountLemmas.{many_calls}
use Rattle.futures_buffered.proofs.TryBufferAccountLemmas.{AmongErrors, error_handed, ok_drew, queue_gave}

abbrev pub somes : {F : Type 0} → List (Option F) → List F
somes = filter_map (λ o. o)

-- an item at a place that is emptied is one item more
somes_out : {F : Type 0} (os : List (Option F)) (i : ℕ) (f : F) → get_or os i None ≡ Some f → IsPermutation (somes os) (f ∷ somes (set os i None))
somes_out [] i f found = absurd (none-some _ found)
somes_out (None ∷ os) zero f found = absurd (none-some _ found)
somes_out (Some o ∷ os) zero f found = rw (same_Some _ _ found) (IsPermutation-refl (f ∷ somes os))
somes_out (None ∷ os) (suc i) f found = somes_out os i f found
somes_out (Some o ∷ os) (suc i) f found = IsPermutation-trans _ _ _ (IsPermutation-cons o _ _ (somes_out os i f found)) (IsPermutation-middle (o ∷ []) f (somes (set os i None)))

none_somes : {F : Type 0} (os : List (Option F)) → count_by is_some os ≡ 0 → somes os ≡ []
none_somes [] e = refl
none_somes (None ∷ os) e = none_somes os e
none_somes {F} (Some f ∷ os) e = absurd (omega (arith, e, sum_by-cons (λ (o : Option F). cond (is_some o) 1 0) (Some f) os))

somes_in : {F : Type 0} (os : List (Option F)) (i : ℕ) (f : F) → i < length os → get_or os i None ≡ None → IsPermutation (f ∷ somes os) (somes (set os i (Some f)))
somes_in os i f below empty =
    let out = somes_out (set os i (Some f)) i f (get_or-set_same os i (Some f) None below) in
    IsPermutation-sym _ _ (rw (set-set os i (Some f) None, ← empty, set-get_or os i None) at out)

-- `R` relates an item to what a place holds, or there is neither
abbrev pub Both : {F : Type 0} → (F → F → Type 0) → Option F → Option F → Type 0
Both R o p = MatchOption p (o ≡ None) (λ now. IsSomeAnd o (λ item. R item now))

zip_somes : {F : Type 0} (R : F → F → Type 0) (os ps : List (Option F)) → length os ≡ length ps → ((i : ℕ) → Both R (get_or os i None) (get_or ps i None)) → AllZip R (somes os) (somes ps)
zip_somes R [] [] long at = tt
zip_somes R [] (p ∷ ps) long at = absurd (omega (arith, long))
zip_somes R (o ∷ os) [] long at = absurd (omega (arith, long))
zip_somes {F} R (o ∷ os) (p ∷ ps) long at = first o p (at 0) (zip_somes R os ps (omega (arith, long)) (λ i. at (suc i)))
  where
    first : (o p : Option F) → Both R o p → AllZip R (somes os) (somes ps) → AllZip R (somes (o ∷ os)) (somes (p ∷ ps))
    first None None both rest = rest
    first None (Some g) both rest = absurd both
    first (Some f) None both rest = absurd (none-some _ (sym both))
    first (Some f) (Some g) both rest = (both, rest)

pub waits_more : {F A : Type 0} (polled : F → Poll A → F → Type 0) (f g h : F) → PendsTo polled f g → polled g Pending h → PendsTo polled f h
waits_more polled f g h w p = (w.0 ++ h ∷ [], FoldsTo-push (λ a b c. polled a Pending b × (c ≡ b)) f w.0 g h h w.1 (p, refl))

-- what each pending poll keeps, a run of names keeps
pub passes_keep : {F A : Type 0} (polled : ℕ → F → Poll A → F → Type 0) (P : Slots F → Type 0) → ((m : Slots F) (i : ℕ) (f left : F) → value_in m i ≡ Some f → polled i f Pending left → P m → P (with_value m i left)) → (names : List ℕ) (m left : Slots F) → FoldsTo (Passes polled) m names left → P m → P left
passes_keep {F} polled P keeps names m left passes holds = chained_keeps (Passes polled) (λ _ slots. P slots) (λ _ slots i next held pass. by_value slots i next held (value_in slots i) refl pass) names m left holds passes
  where
    by_value : (slots : Slots F) (i : ℕ) (next : Slots F) → P slots → (o : Option F) → value_in slots i ≡ o → MatchOption o (next ≡ slots) (λ f. (now : F) × polled i f Pending now × (next ≡ with_value slots i now)) → P next
    by_value slots i next held None e h = subst P (sym h) held
    by_value slots i next held (Some f) e h = subst P (sym h.2) (keeps slots i f h.0 e h.1 held)

module _ {F A : Type 0} (polled : ℕ → F → Poll A → F → Type 0) where
  -- pending polls, with the waker of its slot, took each item to what its place holds
  pub record Origins (os ps : List (Option F)) : Type 0 where
    pub long : length os ≡ length ps
    pub at : (i : ℕ) → Both (PendsTo (polled i)) (get_or os i None) (get_or ps i None)

  origins_set : (os ps : List (Option F)) (i : ℕ) (o p : Option F) → Origins os ps → i < length ps → Both (PendsTo (polled i)) o p → Origins (set os i o) (set ps i p)
  origins_set os ps i o p came below here = record {
    long = length-set os i o ∙ (came.long ∙ sym (length-set ps i p));
    at = λ j. elim (cases_eq j i) [
      | inl same ↦ rw (same, get_or-set_same os i o None (omega (arith, below, came.long)), get_or-set_same ps i p None below) here
      | inr other ↦ rw (get_or-set_other os i j o None other, get_or-set_other ps i j p None other) (came.at j)
    ];
  }

  -- the item of what a place holds
  origin_of : (os : List (Option F)) (m : Slots F) (i : ℕ) (f : F) → Origins os m.places → value_in m i ≡ Some f → (item : F) × (get_or os i None ≡ Some item) × PendsTo (polled i) item f
  origin_of os m i f came found = by_item (get_or os i None) (rw found at (came.at i))
    where
      by_item : (o : Option F) → Both (PendsTo (polled i)) o (Some f) → (item : F) × (o ≡ Some item) × PendsTo (polled i) item f
      by_item None both = absurd both
      by_item (Some item) both = (item, refl, both)

  -- a run of names
  ran_on : (os : List (Option F)) (names : List ℕ) (m left : Slots F) → FoldsTo (Passes polled) m names left → Origins os m.places → Origins os left.places
  ran_on os = passes_keep polled (λ m. Origins os m.places) (λ m i f left held pends came.
      let (item, is, waits) = origin_of os m i f came held in
      rw (← is, set-get_or os i None) at (origins_set os m.places i (Some item) (Some left) came (held_within m i f (sym held)) (waits_more (polled i) item f left waits pends)))

module _ {F A S : Type 0} (polled : ℕ → F → Poll A → F → Type 0) where
  -- the items whose outputs were given, the items of what is held, and the items drawn
  pub record SoFar (drawn : List F) (outputs : List A) (set : Bounded F S) : Type 0 where
    pub gone : List F
    pub origins : List (Option F)
    pub all : IsPermutation drawn (gone ++ somes origins)
    pub gave : AllZip (MayGiveInSlot polled) gone outputs
    pub came : Origins polled origins set.slots.places

  start : (set : Bounded F S) → held_in set ≡ 0 → SoFar [] [] set
  start set empty = record { gone = []; origins = set.slots.places; all = rw (none_somes set.slots.places empty) (IsPermutation-refl []); gave = tt; came = record { long = refl; at = λ i. alike i (get_or set.slots.places i None) } }
    where
      alike : (i : ℕ) (o : Option F) → Both (PendsTo (polled i)) o o
      alike i None = refl
      alike i (Some f) = ([], refl)

  drew : (marks : S → ℕ → Woke → S → Type 0) (drawn : List F) (outputs : List A) (old new : Bounded F S) (f : F) → SoFar drawn outputs old → Pushes marks old f new → SoFar (drawn ++ f ∷ []) outputs new
  drew marks drawn outputs old new f so (i, push) =
      let into = push.inserted in
      let in_place = somes_in so.origins i f (omega (arith, into.within, so.came.long)) (rw into.was_empty at (so.came.at i)) in
      record {
        gone = so.gone;
        origins = set so.origins i (Some f);
        all = IsPermutation-push_more drawn (so.gone ++ somes so.origins) _ f so.all (IsPermutation-trans _ _ _ (IsPermutation-sym _ _ (IsPermutation-middle so.gone f (somes so.origins))) (IsPermutation-append_right so.gone _ _ in_place));
        gave = so.gave;
        came = rw into.now_held (origins_set polled so.origins old.slots.places i (Some f) (Some f) so.came into.within ([], refl));
      }

  account : (drawn : List F) (outputs : List A) (set : Bounded F S) → SoFar drawn outputs set → Accounts IsPermutation (MayGiveInSlot polled) (WaitsInSlot polled) drawn outputs (held_values set.slots)
  account drawn outputs set so = record { gone = so.gone; kept = somes so.origins; all = so.all; gave = so.gave; became = zip_somes (WaitsInSlot polled) so.origins set.slots.places so.came.long (λ i. in_slot i (get_or so.origins i None) (get_or set.slots.places i None) (so.came.at i)) }
    where
      in_slot : (i : ℕ) (o p : Option F) → Both (PendsTo (polled i)) o p → Both (WaitsInSlot polled) o p
      in_slot i o None both = both
      in_slot i None (Some g) both = absurd both
      in_slot i (Some f) (Some g) both = (i, both)

module _ {F A S W : Type 0} (future : SlotFutureOf F W A) (source : ReadySourceOf S W) where
  gave_one : (drawn : List F) (outputs : List A) (old new : Bounded F S) (answer : Poll (Option A)) → SoFar future.polled drawn outputs old → OfSomeTask (PollsBounded (itself future) source) old answer new → SoFar future.polled drawn (outputs ++ option_to_list (output_given answer)) new
  gave_one drawn outputs old new (Ready None) so (cx, left, poll) = rw (append-nil outputs) (subst (SoFar future.polled drawn outputs) (sym poll.gave.1) so)
  gave_one drawn outputs old new (Ready (Some x)) so (cx, left, poll) =
      let (i, before, asks, emptied) = poll.gave.1 in
      let takes = asks.takes in
      let yields = takes.ends.2 in
      let ran = ran_on future.polled so.origins takes.names old.slots takes.passed takes.passes so.came in
      let (item, is, waits) = origin_of future.polled so.origins takes.passed i yields.value ran yields.held in
      let freed = origins_set future.polled so.origins takes.passed.places i None None ran (held_within takes.passed i yields.value (sym yields.held)) refl in
      record {
        gone = so.gone ++ item ∷ [];
        origins = set so.origins i None;
        all = IsPermutation-pop_more drawn so.gone (somes so.origins) (somes (set so.origins i None)) item so.all (somes_out so.origins i item is);
        gave = all_zipped_more (MayGiveInSlot future.polled) so.gone outputs item x so.gave (i, (waits.0, yields.value, yields.left, waits.1, yields.gave));
        came = rw (emptied, yields.now_holds, set-set takes.passed.places i (Some yields.left) None) freed;
      }
  gave_one drawn outputs old new Pending so (cx, left, poll) =
      let takes = poll.gave.1.takes in
      rw (append-nil outputs, takes.ends.0) (record { gone = so.gone; origins = so.origins; all = so.all; gave = so.gave; came = ran_on future.polled so.origins takes.names old.slots takes.passed takes.passes so.came })

pub loses_nothing : {St F A S W : Type 0} (stream : StreamOf St F) (future : SlotFutureOf F W A) (source : ReadySourceOf S W) → LosesNothing stream future source
loses_nothing stream future source n old new calls empty ran =
    account future.polled _ _ new.queue
    (many_calls (PollsStream stream.yields) held_in n (OnlyPushes (Pushes source.marks)) (OfSomeTask (PollsBounded (itself future) source)) (SoFar future.polled) (drew future.polled source.marks) (λ drawn outputs before after f x so never. absurd never) (gave_one future source)
    calls [] [] old new (start future.polled old.queue empty) ran)

-- the same where the stream gives errors as well
pub try_loses_nothing : {St F T E S W : Type 0} (stream : StreamOf St (Result F E)) (future : SlotFutureOf F W (Result T E)) (source : ReadySourceOf S W) → TryLosesNothing stream future source
try_loses_nothing stream future source n old new calls empty ran =
    let so = many_calls (PollsStream stream.yields) held_in n (PushesOk (OnlyPushes (Pushes source.marks))) (OfSomeTask (PollsBounded (itself future) source)) (AmongErrors (SoFar future.polled)) (ok_drew (SoFar future.polled) (Pushes source.marks) (drew future.polled source.marks)) (error_handed (SoFar future.polled) (Pushes source.marks)) (queue_gave (SoFar future.polled) (OfSomeTask (PollsBounded (itself future) source)) (gave_one future source))
    calls [] [] old new ([], start future.polled old.queue empty, ([], (refl, refl))) ran in
    (so.0, so.2, account future.polled _ _ new.queue so.1)
