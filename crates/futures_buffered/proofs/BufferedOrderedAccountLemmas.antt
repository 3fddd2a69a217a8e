-- That the outputs of an ordered buffer are those of the first items drawn, in order, and that no item drawn is lost.
use Rattle.futures_buffered.proofs.Common.{◌≡◌, ◌≢◌, ℕ, zero, suc, ◌+◌, ◌≤◌, Bool, List, [], ◌∷◌, ◌++◌, set, Option, Some, None, Result, cond, count_by, refl, sym, ap, subst, inl, inr, ◌∙◌, append-nil, append_assoc, arith, option_to_list, chained_keeps, FoldsTo, AllZip, slice_get, get_or-set_other, sum_by-cons, sum_by_push, cases_eq, eq-eqb, Poll, Ready, Pending, Slots, value_in, with_value, with_slot_freed, Inserts, Woke, Passes, Yields, held_in, PollOneOf, itself, apart, value_in-with_value, value_inserted, value_inserted_other, value_in-with_slot_freed_other, PollsNumbered, held_with, one_at, AddsBack, Entry, IsUnused, Kept, LastStep, OrderedGives, Running, SetYields, runs_with, OrderedBounded, PushesNumber, SetGives, Numbered, count-names, in_slots, none_held, numbers_inserted, numbers_polled, unused_none, ReadySourceOf, SlotFutureOf, OnlyPushes, StreamOf, Accounts, PollsStream, output_given, PendsTo, MayGiveInSlot, BecomesEntry, GivesInOrder, TryGivesInOrder, queue_len, PushesOk, same_Some, nil_from_length, all_zipped_more}
use Rattle.std.proofs.lemmas.Bool.Decides.{eqb_tells}
use Rattle.futures_buffered_ordered.proofs.OrderedEntriesInvariantLemmas.{runs-set}
use Rattle.futures_buffered.proofs.BufferAccountLemmas.{many_calls}
use Rattle.futures_buffered.proofs.TryBufferAccountLemmas.{AmongErrors, error_handed, ok_drew, queue_gave}
use Rattle.futures_buffered.proofs.BufferedOrderedLemmas.{one_slot}
use Rattle.futures_buffered.proofs.BufferUnorderedAccountLemmas.{passes_keep, waits_more}

running_same : {A : Type 0} {i j : ℕ} → ◌≡◌ {A = Option (Entry A)} (Some (Running i)) (Some (Running j)) → i ≡ j
running_same e = cc

not_running : {X A : Type 0} {x : A} {i : ℕ} → ◌≡◌ {A = Option (Entry A)} (Some (Kept x)) (Some (Running i)) → X
not_running e = cc

counts_itself : (i : ℕ) → one_at i i ≡ 1
counts_itself i = ap (λ (b : Bool). cond b 1 0) (eq-eqb i i refl)

-- a number that does not count is another
another : (i j : ℕ) → one_at i j ≡ 0 → j ≢ i
another i j none = λ same. let one : one_at i j ≡ 1 = subst (λ (n : ℕ). one_at i n ≡ 1) (sym same) (counts_itself i) in absurd (omega (arith, one, none))

module _ {A : Type 0} where
  abbrev runs : ℕ → Entry A → ℕ
  runs i e = cond (runs_with i e) 1 0

  -- another entry in front of the one with this number has another
  in_front : (i j k : ℕ) (x : A) (es : List (Entry A)) → count_by (runs_with i) (Running j ∷ es) ≤ 1 → slice_get es k ≡ Some (Running i) → j ≢ i
  in_front i j k x es one at = another i j (omega (arith, one, sum_by-cons (runs i) (Running j) es, runs-set i i k es x at, counts_itself i))

  -- at most one entry has a number, also after a push of a number that is not in use
  one_pushed : (n i : ℕ) (es : List (Entry A)) → count_by (runs_with n) es ≤ 1 → IsUnused i es → count_by (runs_with n) (es ++ Running i ∷ []) ≤ 1
  one_pushed n i es one unused = elim (eqb_tells i n) [
    | inl same ↦
        let none : count_by (runs_with n) es ≡ 0 = subst (λ (m : ℕ). count_by (runs_with m) es ≡ 0) same.1 (unused_none i es unused) in
        let at_most : one_at n i ≡ 1 = ap (λ (b : Bool). cond b 1 0) same.0 in
        omega (arith, sum_by_push (runs n) es (Running i), none, at_most)
    | inr other ↦ let none : one_at n i ≡ 0 = ap (λ (b : Bool). cond b 1 0) other.0 in omega (arith, sum_by_push (runs n) es (Running i), one, none)
  ]

module _ {F A : Type 0} (polled : ℕ → F → Poll A → F → Type 0) where
  -- where each entry keeps what it came from, so do all
  came_on : (m w : Slots (Numbered F)) (fs : List F) (es : List (Entry A)) → ((e : Entry A) (f : F) → BecomesEntry polled m f e → BecomesEntry polled w f e) → AllZip (BecomesEntry polled m) fs es → AllZip (BecomesEntry polled w) fs es
  came_on m w [] [] on came = tt
  came_on m w [] (e ∷ es) on came = absurd came
  came_on m w (f ∷ fs) [] on came = absurd came
  came_on m w (f ∷ fs) (e ∷ es) on came = (on e f came.0, came_on m w fs es on came.1)

  -- another future went into an empty slot
  pushed_on : (m w : Slots (Numbered F)) (s : ℕ) (put : Numbered F) → Inserts m s put w → (e : Entry A) (f : F) → BecomesEntry polled m f e → BecomesEntry polled w f e
  pushed_on m w s put into (Running j) f came = (came.0, came.1, value_inserted_other m w s put into came.0 (apart m w s put into came.0 _ came.2) ∙ came.2, came.3)
  pushed_on m w s put into (Kept x) f came = came

  -- a future was pending
  pending_on : (m : Slots (Numbered F)) (s : ℕ) (g left : Numbered F) → value_in m s ≡ Some g → PollsNumbered polled s g Pending left → (e : Entry A) (f : F) → BecomesEntry polled m f e → BecomesEntry polled (with_value m s left) f e
  pending_on m s g left held p (Running j) f came =
      elim (cases_eq came.0 s) [
        | inl same ↦ here (ap (λ (n : ℕ). value_in m n) (sym same) ∙ came.2) (subst (λ (n : ℕ). PendsTo (polled n) f came.1) same came.3)
        | inr other ↦ (came.0, came.1, get_or-set_other m.places s came.0 (Some left) None other ∙ came.2, came.3)
      ]
    where
      here : value_in m s ≡ Some (record { future = came.1; number = j }) → PendsTo (polled s) f came.1 → BecomesEntry polled (with_value m s left) f (Running j)
      here found waits =
          let is : g ≡ record { future = came.1; number = j } = same_Some _ _ (sym held ∙ found) in
          let number : left.number ≡ j = p.1 ∙ ap (λ (n : Numbered F). n.number) is in
          let pends : polled s came.1 Pending left.future = subst (λ (n : Numbered F). polled s n.future Pending left.future) is p.0 in
          (s, left.future, value_in-with_value m s g left (sym held) ∙ ap (λ (n : ℕ). Some (record { future = left.future; number = n })) number, waits_more (polled s) f came.1 left.future waits pends)
  pending_on m s g left held p (Kept x) f came = came

  -- a run of names
  ran_on : (fs : List F) (es : List (Entry A)) (names : List ℕ) (m w : Slots (Numbered F)) → FoldsTo (Passes (PollsNumbered polled)) m names w → AllZip (BecomesEntry polled m) fs es → AllZip (BecomesEntry polled w) fs es
  ran_on fs es = passes_keep (PollsNumbered polled) (λ m. AllZip (BecomesEntry polled m) fs es) (λ m s g left held pends. came_on m (with_value m s left) fs es (pending_on m s g left held pends))

  module _ (m w : Slots (Numbered F)) (s i : ℕ) (x : A) (gave : Yields (PollsNumbered polled) m s (i, x) w) where
    has_number : gave.value.number ≡ i
    has_number = sym gave.gave.2

    -- the slot of an output was emptied
    other_on : (j : ℕ) (f : F) → j ≢ i → BecomesEntry polled m f (Running j) → BecomesEntry polled (with_slot_freed w s) f (Running j)
    other_on j f other came =
        let apart : came.0 ≢ s = λ same. other (sym (ap (λ (n : Numbered F). n.number) (same_Some _ _ (sym gave.held ∙ (ap (λ (n : ℕ). value_in m n) (sym same) ∙ came.2)))) ∙ has_number) in
        (came.0, came.1, ap (λ (v : Slots (Numbered F)). value_in (with_slot_freed v s) came.0) gave.now_holds ∙ (value_in-with_slot_freed_other (with_value m s gave.left) s came.0 apart ∙ (get_or-set_other m.places s came.0 (Some gave.left) None apart ∙ came.2)), came.3)

    others_on : (fs : List F) (es : List (Entry A)) → count_by (runs_with i) es ≡ 0 → AllZip (BecomesEntry polled m) fs es → AllZip (BecomesEntry polled (with_slot_freed w s)) fs es
    others_on [] [] none came = tt
    others_on [] (e ∷ es) none came = absurd came
    others_on (f ∷ fs) [] none came = absurd came
    others_on (f ∷ fs) (Running j ∷ es) none came =
        let more = sum_by-cons (runs i) (Running j) es in
        (other_on j f (another i j (omega (arith, more, none))) came.0, others_on fs es (omega (arith, more, none)) came.1)
    others_on (f ∷ fs) (Kept y ∷ es) none came = (came.0, others_on fs es none came.1)

    -- and its entry keeps the output, since no other slot has its number
    gave_here : (f : F) → in_slots i m ≤ 1 → BecomesEntry polled m f (Running i) → MayGiveInSlot polled f x
    gave_here f one came =
        let same : came.0 ≡ s = one_slot i m s came.0 gave.value _ gave.held has_number came.2 refl one in
        let is : came.1 ≡ gave.value.future = ap (λ (n : Numbered F). n.future) (same_Some _ _ (sym came.2 ∙ (ap (λ (n : ℕ). value_in m n) same ∙ gave.held))) in
        let waits : PendsTo (polled s) f gave.value.future = subst (λ (v : F). PendsTo (polled s) f v) is (subst (λ (n : ℕ). PendsTo (polled n) f came.1) same came.3) in
        (s, (waits.0, gave.value.future, gave.left.future, waits.1, gave.gave.0))

    finished_on : in_slots i m ≤ 1 → (k : ℕ) (fs : List F) (es : List (Entry A)) → count_by (runs_with i) es ≤ 1 → slice_get es k ≡ Some (Running i) → AllZip (BecomesEntry polled m) fs es → AllZip (BecomesEntry polled (with_slot_freed w s)) fs (set es k (Kept x))
    finished_on one k [] [] once at came = tt
    finished_on one k [] (e ∷ es) once at came = absurd came
    finished_on one k (f ∷ fs) [] once at came = absurd came
    finished_on one zero (f ∷ fs) (Running j ∷ es) once at came =
        let same : j ≡ i = running_same at in
        let mine : one_at i j ≡ 1 = subst (λ (n : ℕ). one_at i n ≡ 1) (sym same) (counts_itself i) in
        (gave_here f one (subst (λ (n : ℕ). BecomesEntry polled m f (Running n)) same came.0), others_on fs es (omega (arith, once, mine, sum_by-cons (runs i) (Running j) es)) came.1)
    finished_on one zero (f ∷ fs) (Kept y ∷ es) once at came = not_running at
    finished_on one (suc k) (f ∷ fs) (Running j ∷ es) once at came =
        (other_on j f (in_front i j k x es once at) came.0, finished_on one k fs es (omega (arith, once, sum_by-cons (runs i) (Running j) es)) at came.1)
    finished_on one (suc k) (f ∷ fs) (Kept y ∷ es) once at came = (came.0, finished_on one k fs es once at came.1)

module _ {F A S : Type 0} (polled : ℕ → F → Poll A → F → Type 0) where
  -- the items whose outputs were given, and the items of the entries
  pub record SoFar (drawn : List F) (outputs : List A) (q : OrderedBounded F A S) : Type 0 where
    pub gone : List F
    pub kept : List F
    pub all : drawn ≡ gone ++ kept
    pub gave : AllZip (MayGiveInSlot polled) gone outputs
    pub came : AllZip (BecomesEntry polled q.set.slots) kept q.entries
    pub once : (n : ℕ) → count_by (runs_with n) q.entries ≤ 1
    pub as_many : (n : ℕ) → held_with n q.set ≡ count_by (runs_with n) q.entries

  pub drew : (marks : S → ℕ → Woke → S → Type 0) (drawn : List F) (outputs : List A) (old new : OrderedBounded F A S) (f : F) → SoFar drawn outputs old → AddsBack (PushesNumber marks) old f new → SoFar (drawn ++ f ∷ []) outputs new
  drew marks drawn outputs old new f so added =
      let i = added.0 in
      let put : Numbered F = record { future = f; number = i } in
      let pushed = added.1.pushed in
      let into = pushed.1.inserted in
      record {
        gone = so.gone;
        kept = so.kept ++ f ∷ [];
        all = ap (λ (l : List F). l ++ f ∷ []) so.all ∙ append_assoc so.gone so.kept (f ∷ []);
        gave = so.gave;
        came = subst (λ (l : List (Entry A)). AllZip (BecomesEntry polled new.set.slots) (so.kept ++ f ∷ []) l) (sym added.2)
            (all_zipped_more (BecomesEntry polled new.set.slots) so.kept old.entries f (Running i)
            (came_on polled old.set.slots new.set.slots so.kept old.entries (pushed_on polled old.set.slots new.set.slots pushed.0 put into) so.came)
            (pushed.0, f, value_inserted old.set.slots new.set.slots pushed.0 put into, ([], refl)));
        once = λ n. rw added.2 (one_pushed n i old.entries (so.once n) added.1.unused);
        as_many = λ n.
            let more : count_by (runs_with n) (old.entries ++ Running i ∷ []) ≡ count_by (runs_with n) old.entries + one_at n i = sum_by_push (runs n) old.entries (Running i) in
            omega (arith, so.as_many n, numbers_inserted n marks old.set new.set put pushed, more, ap (λ (l : List (Entry A)). count_by (runs_with n) l) added.2);
      }

module _ {R F W A S : Type 0} (rule : PollOneOf R F W A) (source : ReadySourceOf S W) where
  -- a poll of the set gave an output, which its entry keeps
  one_kept : (drawn : List F) (outputs : List A) (old new : OrderedBounded F A S) (i : ℕ) (x : A) → SoFar rule.polled drawn outputs old → SetYields (SetGives rule source) old (i, x) new → SoFar rule.polled drawn outputs new
  one_kept drawn outputs old new i x so h =
      let (cx, after, poll) = h.gave in
      let (s, left, asks, emptied) = poll.gave.1 in
      let takes = asks.takes in
      let ran = ran_on rule.polled so.kept old.entries takes.names old.set.slots takes.passed takes.passes so.came in
      let one : in_slots i takes.passed ≤ 1 = omega (arith, count-names i rule.polled takes.names old.set.slots takes.passed takes.passes, so.as_many i, so.once i) in
      let done = finished_on rule.polled takes.passed left.slots s i x takes.ends.2 one h.at so.kept old.entries (so.once i) h.was_running ran in
      record {
        gone = so.gone;
        kept = so.kept;
        all = so.all;
        gave = so.gave;
        came = rw (emptied, h.entries) done;
        once = λ n. omega (arith, so.once n, runs-set n i h.at old.entries x h.was_running, ap (λ (l : List (Entry A)). count_by (runs_with n) l) h.entries);
        as_many = λ n.
            omega (arith, so.as_many n, numbers_polled n rule source old.set new.set (Ready (Some (i, x))) cx after poll, runs-set n i h.at old.entries x h.was_running, ap (λ (l : List (Entry A)). count_by (runs_with n) l) h.entries);
      }

  -- the front left with its output
  front_gave : (drawn : List F) (outputs : List A) (before new : OrderedBounded F A S) (x : A) → SoFar rule.polled drawn outputs before → before.entries ≡ Kept x ∷ new.entries → new.set ≡ before.set → SoFar rule.polled drawn (outputs ++ x ∷ []) new
  front_gave drawn outputs before new x so front same = by_kept so.kept so.all (subst (λ (l : List (Entry A)). AllZip (BecomesEntry rule.polled before.set.slots) so.kept l) front so.came)
    where
      by_kept : (kept : List F) → drawn ≡ so.gone ++ kept → AllZip (BecomesEntry rule.polled before.set.slots) kept (Kept x ∷ new.entries) → SoFar rule.polled drawn (outputs ++ x ∷ []) new
      by_kept [] all came = absurd came
      by_kept (f ∷ fs) all came =
          record {
            gone = so.gone ++ f ∷ [];
            kept = fs;
            all = all ∙ sym (append_assoc so.gone (f ∷ []) fs);
            gave = all_zipped_more (MayGiveInSlot rule.polled) so.gone outputs f x so.gave came.0;
            came = rw same came.1;
            once = λ n. subst (λ (l : List (Entry A)). count_by (runs_with n) l ≤ 1) front (so.once n);
            as_many = λ n. rw same (so.as_many n ∙ ap (λ (l : List (Entry A)). count_by (runs_with n) l) front);
          }

  pub one_poll : (drawn : List F) (outputs : List A) (old new : OrderedBounded F A S) (answer : Poll (Option A)) → SoFar rule.polled drawn outputs old → OrderedGives (SetGives rule source) held_in old answer new → SoFar rule.polled drawn (outputs ++ option_to_list (output_given answer)) new
  one_poll drawn outputs old new answer so h = last_one answer h.last_step
    where
      then : SoFar rule.polled drawn outputs h.before
      then = chained_keeps (SetYields (SetGives rule source)) (λ _ q. SoFar rule.polled drawn outputs q) (λ _ q out v kept step. one_kept drawn outputs q v out.0 out.1 kept step) h.yielded old h.before so h.row

      last_one : (answer : Poll (Option A)) → LastStep (SetGives rule source) h.before answer new → SoFar rule.polled drawn (outputs ++ option_to_list (output_given answer)) new
      last_one (Ready None) step = rw (append-nil outputs) (subst (SoFar rule.polled drawn outputs) (sym step.1) then)
      last_one (Ready (Some x)) step = front_gave drawn outputs h.before new x then step.0 step.1
      last_one Pending step =
          let (cx, after, poll) = step.1 in
          let takes = poll.gave.1.takes in
          rw (append-nil outputs)
          (record {
            gone = then.gone;
            kept = then.kept;
            all = then.all;
            gave = then.gave;
            came = rw (step.2, takes.ends.0) (ran_on rule.polled then.kept h.before.entries takes.names h.before.set.slots takes.passed takes.passes then.came);
            once = λ n. rw step.2 (then.once n);
            as_many = λ n. omega (arith, then.as_many n, numbers_polled n rule source h.before.set new.set Pending cx after poll, ap (λ (l : List (Entry A)). count_by (runs_with n) l) step.2);
          })

start : {F A S : Type 0} (polled : ℕ → F → Poll A → F → Type 0) (queue : OrderedBounded F A S) → queue_len queue ≡ 0 → held_in queue.set ≡ 0 → SoFar polled [] [] queue
start polled queue empty none_in =
    let none = nil_from_length queue.entries empty in
    record { gone = []; kept = []; all = refl; gave = tt; came = rw none tt; once = λ i. rw none (omega arith); as_many = λ i. rw none (none_held i queue.set.slots none_in) }

account : {F A S : Type 0} (polled : ℕ → F → Poll A → F → Type 0) (drawn : List F) (outputs : List A) (queue : OrderedBounded F A S) → SoFar polled drawn outputs queue → Accounts (λ drawn items. drawn ≡ items) (MayGiveInSlot polled) (BecomesEntry polled queue.set.slots) drawn outputs queue.entries
account polled drawn outputs queue so = record { gone = so.gone; kept = so.kept; all = so.all; gave = so.gave; became = so.came }

pub gives_in_order : {St F A S W : Type 0} (stream : StreamOf St F) (future : SlotFutureOf F W A) (source : ReadySourceOf S W) → GivesInOrder stream future source
gives_in_order stream future source n old new calls empty none_in ran =
    account future.polled _ _ new.queue
    (many_calls (PollsStream stream.yields) queue_len n (OnlyPushes (AddsBack (PushesNumber source.marks))) (OrderedGives (SetGives (itself future) source) held_in) (SoFar future.polled) (drew future.polled source.marks) (λ drawn outputs before after f x so never. absurd never) (one_poll (itself future) source)
    calls [] [] old new (start future.polled old.queue empty none_in) ran)

-- the same where the stream gives errors as well
pub try_gives_in_order : {St F T E S W : Type 0} (stream : StreamOf St (Result F E)) (future : SlotFutureOf F W (Result T E)) (source : ReadySourceOf S W) → TryGivesInOrder stream future source
try_gives_in_order stream future source n old new calls empty none_in ran =
    let so = many_calls (PollsStream stream.yields) queue_len n (PushesOk (OnlyPushes (AddsBack (PushesNumber source.marks)))) (OrderedGives (SetGives (itself future) source) held_in) (AmongErrors (SoFar future.polled)) (ok_drew (SoFar future.polled) (AddsBack (PushesNumber source.marks)) (drew future.polled source.marks)) (error_handed (SoFar future.polled) (AddsBack (PushesNumber source.marks))) (queue_gave (SoFar future.polled) (OrderedGives (SetGives (itself future) source) held_in) (one_poll (itself future) source))
    calls [] [] old new ([], start future.polled old.queue empty none_in, ([], (refl, refl))) ran in
    (so.0, so.2, account future.polled _ _ new.queue so.1)
