-- What the calls of an ordered queue make of its entries and their numbers.
use Rattle.futures_buffered_ordered.proofs.Common.{◌≡◌, ◌⊎◌, ℕ, zero, suc, ◌+◌, ◌-◌, ◌^◌, ◌%◌, ◌<◌, ◌≤◌, Bool, true, cond, List, [], ◌∷◌, ◌++◌, length, set, count_by, Option, Some, None, Ok, Err, refl, sym, subst, ap, inl, inr, arith, ◌∙◌, slice_get, sum_by, sum_by-cons, sum_by-set, sum_by_push, count_by-le-length, eq-eqb, Context, Ready, NumberedPollsOf, PollsNumberedSet, PushesInto, one_at, outputs_with, AddsBack, AddsFront, BesideTask, Entry, IsLength, IsUnused, Kept, MayRefuse, NoNumberTwice, NumberedSetOf, Ordered, PushesOrHandsBack, QueueIsAtBound, Running, SetYields, is_running, runs_with, starts_running, AddingKeeps, IsNumbered, KeepsQueue, entry_of, numbered_from}
use Rattle.std.proofs.lemmas.Bool.Decides.{eqb_tells}
use Rattle.std.proofs.lemmas.Option.{slice_get_within, get_or_from_slice_get}
use Rattle.futures_buffered_unordered.specs.Groups.{outputs_in}
use Rattle.futures_buffered_ordered.specs.declared.ordered_entries.TheConstants.{MAX_LEN}

-- the place of the entry with this number, if the front has the number `outgoing`
abbrev pub place_of : ℕ → ℕ → ℕ
place_of outgoing number = (number + (2 ^ 64 - outgoing)) % 2 ^ 64

place_found : (o k i : ℕ) → o < 2 ^ 64 → k < 2 ^ 63 → i ≡ (o + k) % 2 ^ 64 → place_of o i ≡ k
place_found o k i word short is = rw is (omega (arith, word, short))

module _ {A : Type 0} where
  running_same : {i j : ℕ} → ◌≡◌ {A = Option (Entry A)} (Some (Running i)) (Some (Running j)) → i ≡ j
  running_same e = cc

  not_kept : {x : A} {i : ℕ} → ◌≡◌ {A = Option (Entry A)} (Some (Kept x)) (Some (Running i)) → ⊥
  not_kept e = cc

  -- entries have the numbers of their places
  pub numbered-length : (o : ℕ) (es : List (Option A)) → length (numbered_from o es) ≡ length es
  numbered-length o [] = refl
  numbered-length o (e ∷ es) = ap suc (numbered-length (o + 1) es)

  running_at : (o k i : ℕ) (es : List (Option A)) → slice_get (numbered_from o es) k ≡ Some (Running i) → (k < length es) × (i ≡ (o + k) % 2 ^ 64)
  running_at o k i [] h = absurd (omega (arith, slice_get_within {A = Entry A} [] k (Running i) h))
  running_at o zero i (None ∷ es) h = let same = running_same h in (omega arith, omega (arith, same))
  running_at o zero i (Some x ∷ es) h = absurd (not_kept h)
  running_at o (suc k) i (e ∷ es) h = let there = running_at (o + 1) k i es h in (omega (arith, there.0), omega (arith, there.1))

  pub once_numbered : (o : ℕ) (es : List (Option A)) → length es < 2 ^ 63 → NoNumberTwice (numbered_from o es)
  once_numbered o es short j k i a b =
      let first = running_at o j i es a in
      let second = running_at o k i es b in
      omega (arith, short, first.0, first.1, second.0, second.1)

  -- only the remainder of the front's number counts
  pub numbered-same : (o p : ℕ) (es : List (Option A)) → o % 2 ^ 64 ≡ p % 2 ^ 64 → numbered_from o es ≡ numbered_from p es
  numbered-same o p [] same = refl
  numbered-same o p (e ∷ es) same = ap (λ l. entry_of o e ∷ l) (numbered-same (o + 1) (p + 1) es (omega (arith, same))) ∙ ap (λ d. d ∷ numbered_from (p + 1) es) (by_entry e)
    where
      by_entry : (e : Option A) → entry_of o e ≡ entry_of p e
      by_entry None = ap (λ n. Running n) same
      by_entry (Some x) = refl

  numbered-append : (o : ℕ) (es : List (Option A)) → numbered_from o (es ++ None ∷ []) ≡ numbered_from o es ++ Running ((o + length es) % 2 ^ 64) ∷ []
  numbered-append o [] = ap (λ n. Running n ∷ []) (omega arith)
  numbered-append o (e ∷ es) = ap (λ l. entry_of o e ∷ l) (numbered-append (o + 1) es ∙ ap (λ n. numbered_from (o + 1) es ++ Running n ∷ []) (omega arith))

  pub numbered-set : (o k : ℕ) (es : List (Option A)) (x : A) → numbered_from o (set es k (Some x)) ≡ set (numbered_from o es) k (Kept x)
  numbered-set o k [] x = refl
  numbered-set o zero (e ∷ es) x = refl
  numbered-set o (suc k) (e ∷ es) x = ap (λ l. entry_of o e ∷ l) (numbered-set (o + 1) k es x)

  abbrev runs : ℕ → Entry A → ℕ
  runs i e = cond (runs_with i e) 1 0

  -- a number that entries have is that of one of them
  pub entry_with : (i : ℕ) (es : List (Entry A)) → 0 < count_by (runs_with i) es → (k : ℕ) × (slice_get es k ≡ Some (Running i))
  entry_with i [] some = absurd (omega (arith, some))
  entry_with i (Kept x ∷ es) some =
      let rest = entry_with i es (omega (arith, some, sum_by-cons (runs i) (Kept x) es)) in
      (suc rest.0, rest.1)
  entry_with i (Running j ∷ es) some = elim (eqb_tells j i) [
    | inl here ↦ (0, ap (λ n. Some (Running n)) here.1)
    | inr other ↦
        let none : one_at i j ≡ 0 = ap (λ (b : Bool). cond b 1 0) other.0 in
        let rest = entry_with i es (omega (arith, some, sum_by-cons (runs i) (Running j) es, none)) in
        (suc rest.0, rest.1)
  ]

  -- an entry that keeps an output is in progress no more
  count-set : (p : Entry A → Bool) (n k : ℕ) (es : List (Entry A)) (x : A) → slice_get es k ≡ Some (Running n) → count_by p (set es k (Kept x)) + cond (p (Running n)) 1 0 ≡ count_by p es + cond (p (Kept x)) 1 0
  count-set p n k es x at =
      let one : Entry A → ℕ = λ e. cond (p e) 1 0 in
      subst (λ (e : Entry A). sum_by one (set es k (Kept x)) + one e ≡ sum_by one es + one (Kept x)) (get_or_from_slice_get es k (Running n) (Kept x) at) (sum_by-set one es k (Kept x) (Kept x) (slice_get_within es k (Running n) at))

  pub runs-set : (i n k : ℕ) (es : List (Entry A)) (x : A) → slice_get es k ≡ Some (Running n) → count_by (runs_with i) (set es k (Kept x)) + one_at i n ≡ count_by (runs_with i) es
  runs-set i n k es x at = let step : count_by (runs_with i) (set es k (Kept x)) + one_at i n ≡ count_by (runs_with i) es + 0 = count-set (runs_with i) n k es x at in omega (arith, step)

module _ {Q A : Type 0} (with_number : ℕ → Q → ℕ) (count : Q → ℕ) where
  -- no more futures are in progress than there are entries
  pub held_by_entries : (q : Ordered Q A) → IsNumbered with_number count q → count q.set ≤ length q.entries
  held_by_entries q numbered = omega (arith, numbered.counted, count_by-le-length is_running q.entries)

  -- what a queue says of its length
  pub queue_length : (places : Q → ℕ) (q : Ordered Q A) (n : ℕ) → KeepsQueue with_number count places q → n ≡ length q.entries → NoNumberTwice q.entries → IsLength with_number count q n
  queue_length places q n keeps long once =
      record { value = long; each = record { as_many = keeps.numbered.as_many; once = once }; in_progress = held_by_entries q keeps.numbered }

  -- a call that changes neither the set's places nor the room
  pub still_keeps : (places : Q → ℕ) (old new : Ordered Q A) → KeepsQueue with_number count places old → IsNumbered with_number count new → places new.set ≡ places old.set → new.room ≡ old.room → KeepsQueue with_number count places new
  still_keeps places old new keeps numbered same room = record { numbered = numbered; fits = omega (arith, keeps.fits, same, room); small = omega (arith, keeps.small, same) }

  -- a new queue: nothing is held, and there is no entry
  pub new_is_numbered : (q : Ordered Q A) → q.entries ≡ [] → ((n : ℕ) → with_number n q.set ≡ 0) → count q.set ≡ 0 → IsNumbered with_number count q
  new_is_numbered q none no_numbers empty =
      record {
        as_many = λ n. no_numbers n ∙ ap (λ (l : List (Entry A)). count_by (runs_with n) l) (sym none);
        counted = empty ∙ ap (λ (l : List (Entry A)). count_by is_running l) (sym none);
      }

  -- the front kept its output, and leaves
  pub popped_is_numbered : (q new : Ordered Q A) (x : A) → IsNumbered with_number count q → q.entries ≡ Kept x ∷ new.entries → new.set ≡ q.set → IsNumbered with_number count new
  popped_is_numbered q new x numbered front same =
      record {
        as_many = λ n. ap (λ (s : Q). with_number n s) same ∙ numbered.as_many n ∙ ap (λ (l : List (Entry A)). count_by (runs_with n) l) front;
        counted = ap (λ (s : Q). count s) same ∙ numbered.counted ∙ ap (λ (l : List (Entry A)). count_by is_running l) front;
      }

-- a poll of the set gave an output with number i, and the entry of this number keeps it
module _ {Q R A : Type 0} (with_number : ℕ → Q → ℕ) (count : Q → ℕ) (keeps : Q → Q → Type 0) (polls : NumberedPollsOf Q R A) (held new : Q) (cx left : Context) (o room i : ℕ) (x : A) (es : List (Option A)) (answer : Option (ℕ × A)) (is : answer ≡ Some (i, x))
    (poll : PollsNumberedSet polls count with_number keeps held (Ready answer) new cx left) (word : o < 2 ^ 64) (short : length es < 2 ^ 63)
    (numbered : IsNumbered with_number count (record { set = held; entries = numbered_from o es; room = room })) where
  fewer : (n : ℕ) → with_number n new + one_at n i ≡ with_number n held
  fewer n = subst (λ (a : Option (ℕ × A)). with_number n new + outputs_with n (Ready a) ≡ with_number n held) is (poll.numbers n)

  stands_at : slice_get (numbered_from o es) (place_of o i) ≡ Some (Running i)
  stands_at =
      let one : one_at i i ≡ 1 = ap (λ (b : Bool). cond b 1 0) (eq-eqb i i refl) in
      let there = entry_with i (numbered_from o es) (omega (arith, numbered.as_many i, fewer i, one)) in
      let found = running_at o there.0 i es there.1 in
      let at = place_found o there.0 i word (omega (arith, found.0, short)) found.1 in
      rw at there.1

  pub kept_within : place_of o i < length es
  kept_within = (running_at o (place_of o i) i es stands_at).0

  pub kept_yields : starts_running (numbered_from o es) ≡ true → SetYields (BesideTask polls.gives) (record { set = (held, cx); entries = numbered_from o es; room = room }) (i, x) (record { set = (new, left); entries = numbered_from o (set es (place_of o i) (Some x)); room = room })
  kept_yields runs = record {
    front_runs = runs;
    gave = subst (λ (a : Option (ℕ × A)). polls.gives held (Ready a) new cx left) is poll.gave;
    at = place_of o i;
    was_running = stands_at;
    entries = numbered-set o (place_of o i) es x;
    room = refl;
  }

  pub kept_is_numbered : IsNumbered with_number count (record { set = new; entries = numbered_from o (set es (place_of o i) (Some x)); room = room })
  kept_is_numbered =
      rw (numbered-set o (place_of o i) es x) (record {
        as_many = λ n. omega (arith, numbered.as_many n, fewer n, runs-set n i (place_of o i) (numbered_from o es) x stands_at);
        counted = let left : count_by is_running (set (numbered_from o es) (place_of o i) (Kept x)) + 1 ≡ count_by is_running (numbered_from o es) + 0 = count-set is_running i (place_of o i) (numbered_from o es) x stands_at in
            let one : count new + 1 ≡ count held = subst (λ (a : Option (ℕ × A)). count new + outputs_in (Ready a) ≡ count held) is poll.fewer in
            omega (arith, numbered.counted, one, left);
      })

-- a push that is refused changes nothing
pub not_added : {F Q A : Type 0} (numbers : NumberedSetOf Q F) (adds : (Q → F → ℕ → Q → Type 0) → Ordered Q A → F → Ordered Q A → Type 0) (old new : Ordered Q A) (future back : F) (cap o : ℕ) (es : List (Option A))
    → old.entries ≡ numbered_from o es → old.room ≤ cap → back ≡ future → new ≡ old → (cap ≤ length es) ⊎ numbers.may_refuse old.set → numbers.keeps old.set new.set → PushesOrHandsBack adds numbers old future (Err back) new
not_added {A = A} numbers adds old new future back cap o es is room same stays refused keeps =
    record { pushed = tt; back = record { same = same; stays = stays; may_refuse = may_refuse refused }; large = λ _. refl; set = keeps }
  where
    may_refuse : (cap ≤ length es) ⊎ numbers.may_refuse old.set → MayRefuse numbers.may_refuse old
    may_refuse (inl full) = inl (omega (arith, full, room, numbered-length o es, ap (λ (l : List (Entry A)). length l) is))
    may_refuse (inr may) = inr (inl may)

-- a future went into the set with number i, and its entry was added
module _ {F Q A : Type 0} (numbers : NumberedSetOf Q F) (old new : Ordered Q A) (future : F) (i : ℕ) (numbered : IsNumbered numbers.with_number numbers.count old)
    (went_in : PushesInto numbers.pushes numbers.count numbers.with_number numbers.keeps old.set (record { future = future; number = i }) new.set) (room : new.room ≡ old.room) where
  adding_keeps : ((p : Entry A → Bool) → count_by p new.entries ≡ count_by p old.entries + cond (p (Running i)) 1 0) → AddingKeeps numbers.with_number numbers.count numbers.keeps old new
  adding_keeps added =
      record {
        set = went_in.set;
        room = room;
        numbered = record {
          as_many = λ n. let more = added (runs_with n) in omega (arith, numbered.as_many n, went_in.numbers n, more);
          counted = let more = added is_running in omega (arith, numbered.counted, went_in.one_more, more);
        };
      }

  pushes : (adds : (Q → F → ℕ → Q → Type 0) → Ordered Q A → F → Ordered Q A → Type 0) → (QueueIsAtBound numbers.refuses old → ⊥) → adds numbers.pushes old future new → PushesOrHandsBack adds numbers old future (Ok tt) new
  pushes adds some_room added = record { pushed = added; back = tt; large = λ bound. absurd (some_room bound); set = went_in.set }

  module _ (o : ℕ) (es : List (Option A)) (was : old.entries ≡ numbered_from o es) (short : length es < 2 ^ 63) (bound : (length es ≡ MAX_LEN) ⊎ numbers.refuses old.set → ⊥) where
    some_room : QueueIsAtBound numbers.refuses old → ⊥
    some_room (inl long) = bound (inl (omega (arith, long, numbered-length o es, ap (λ (l : List (Entry A)). length l) was)))
    some_room (inr refuses) = bound (inr refuses)

    pub added_back : i ≡ (o + length es) % 2 ^ 64 → new.entries ≡ numbered_from o (es ++ None ∷ []) → PushesOrHandsBack AddsBack numbers old future (Ok tt) new × AddingKeeps numbers.with_number numbers.count numbers.keeps old new
    added_back is now = (
      pushes AddsBack some_room (i, record { unused = unused; pushed = went_in.went_in; room = room }, entries),
      adding_keeps (λ p. ap (λ (l : List (Entry A)). count_by p l) entries ∙ sum_by_push (λ (e : Entry A). cond (p e) 1 0) old.entries (Running i)),
    )
      where
        entries : new.entries ≡ old.entries ++ Running i ∷ []
        entries = now ∙ numbered-append o es ∙ ap (λ (l : List (Entry A)). l ++ Running ((o + length es) % 2 ^ 64) ∷ []) (sym was) ∙ ap (λ n. old.entries ++ Running n ∷ []) (sym is)

        unused : IsUnused i old.entries
        unused k there = let at = running_at o k i es (rw (← was) there) in absurd (omega (arith, short, at.0, at.1, is))

    pub added_front : i ≡ (o + (2 ^ 64 - 1)) % 2 ^ 64 → new.entries ≡ numbered_from i (None ∷ es) → PushesOrHandsBack AddsFront numbers old future (Ok tt) new × AddingKeeps numbers.with_number numbers.count numbers.keeps old new
    added_front is now = (
      pushes AddsFront some_room (i, record { unused = unused; pushed = went_in.went_in; room = room }, entries),
      adding_keeps (λ p. let more = sum_by-cons (λ (e : Entry A). cond (p e) 1 0) (Running i) old.entries in omega (arith, ap (λ (l : List (Entry A)). count_by p l) entries, more)),
    )
      where
        entries : new.entries ≡ Running i ∷ old.entries
        entries = now ∙ ap (λ (l : List (Entry A)). Running (i % 2 ^ 64) ∷ l) (numbered-same (i + 1) o es (omega (arith, is)) ∙ sym was) ∙ ap (λ n. Running n ∷ old.entries) (omega (arith, is))

        unused : IsUnused i old.entries
        unused k there = let at = running_at o k i es (rw (← was) there) in absurd (omega (arith, short, at.0, at.1, is))
