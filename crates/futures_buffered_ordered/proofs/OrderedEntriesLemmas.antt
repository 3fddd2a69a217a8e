-- What the calls of an ordered queue add, and what its polls may still give.
use Rattle.futures_buffered_ordered.proofs.Common.{◌≡◌, ◌⊎◌, ℕ, ◌+◌, ◌≤◌, List, [], ◌∷◌, ◌++◌, ◌∙◌, ap, arith, count_by, inl, inr, length, length-set, set, true, Option, Some, None, MatchOption, IfSome, IfNone, OnSome, refl, sym, subst, zero, suc, FoldsTo, slice_get, FoldsTo-push, length_push, Covers, Keeps, Context, Poll, Ready, Pending, IfReady, OnPending, StreamAnswers, stream_of, answers_of, Entry, Kept, Running, Ordered, AddsBack, AddsEachBack, AddsFront, SetYields, LastStep, OrderedGives, BesideTask, with_task, InTurn, EntryGives, ComesInOrder, IsUnused, runs_with, starts_running}
use Rattle.futures.specs.Runs.{Runs, After, Within, Chains, Leads, Ends}
use Rattle.futures_buffered_ordered.proofs.OrderedEntriesInvariantLemmas.{entry_with}

-- one item more was added at the back
pub adds_one_more : {F Q A : Type 0} (pushes : Q → F → ℕ → Q → Type 0) (old mid new : Ordered Q A) (items : List F) (item : F) → AddsEachBack pushes old items mid → AddsBack pushes mid item new → AddsEachBack pushes old (items ++ item ∷ []) new
adds_one_more pushes old mid new items item before added = FoldsTo-push (AddsBack pushes) old items mid item new before added

pub one_entry_more : {F Q A : Type 0} (pushes : Q → F → ℕ → Q → Type 0) (old new : Ordered Q A) (item : F) → AddsBack pushes old item new → length new.entries ≡ length old.entries + 1
one_entry_more {A = A} pushes old new item added = ap (λ (l : List (Entry A)). length l) added.2 ∙ length_push old.entries (Running added.0)

pub one_entry_more_before : {F Q A : Type 0} (pushes : Q → F → ℕ → Q → Type 0) (old new : Ordered Q A) (item : F) → AddsFront pushes old item new → length new.entries ≡ length old.entries + 1
one_entry_more_before {A = A} pushes old new item added = let e = ap (λ (l : List (Entry A)). length l) added.2 in omega (arith, e)

-- how a poll ends, by what was popped: the task is left alone
pub last_from : {Q A : Type 0} (gives : Q → Poll (Option (ℕ × A)) → Q → Context → Context → Type 0) (old new : Ordered Q A) (cx : Context) (o : Option A) → MatchOption o ((old.entries ≡ []) × (new ≡ old)) (λ x. (old.entries ≡ Kept x ∷ new.entries) × (new.room ≡ old.room)) → new.set ≡ old.set
    → LastStep (BesideTask gives) (with_task old cx) (Ready o) (with_task new cx)
last_from {Q} {A} gives old new cx None h same = (h.0, ap (λ (q : Ordered Q A). with_task q cx) h.1)
last_from {Q} {A} gives old new cx (Some x) h same = (h.0, ap (λ (set : Q). (set, cx)) same, h.1)

-- a queue whose set stands beside its task, without the task
abbrev pub without_task : {Q A : Type 0} → Ordered (Q × Context) A → Ordered Q A
without_task q = record { set = q.set.0; entries = q.entries; room = q.room }

-- What a caller takes from the record of a poll, who speaks of the queue alone: `alone` says of one poll of the set what it says of more.
module _ {Q A : Type 0} (gives : Q → Poll (Option (ℕ × A)) → Q → Context → Context → Type 0) (alone : Q → Poll (Option (ℕ × A)) → Q → Type 0)
    (within : (old new : Q) (answer : Poll (Option (ℕ × A))) (cx left : Context) → gives old answer new cx left → alone old answer new) where
  row_alone : (row : List (ℕ × A)) (old new : Ordered (Q × Context) A) → FoldsTo (SetYields (BesideTask gives)) old row new → FoldsTo (SetYields alone) (without_task old) row (without_task new)
  row_alone [] old new same = ap (λ (q : Ordered (Q × Context) A). without_task q) same
  row_alone (out ∷ row) old new h =
      let one = h.1 in (
        without_task h.0,
        record { front_runs = one.front_runs; gave = within old.set.0 h.0.set.0 (Ready (Some out)) old.set.1 h.0.set.1 one.gave; at = one.at; was_running = one.was_running; entries = one.entries; room = one.room },
        row_alone row h.0 new h.2,
      )

  last_alone : (answer : Poll (Option A)) (old new : Ordered (Q × Context) A) → LastStep (BesideTask gives) old answer new → LastStep alone (without_task old) answer (without_task new)
  last_alone (Ready None) old new last = (last.0, ap (λ (q : Ordered (Q × Context) A). without_task q) last.1)
  last_alone (Ready (Some x)) old new last = (last.0, ap (λ (set : Q × Context). set.0) last.1, last.2)
  last_alone Pending old new last = (last.0, within old.set.0 new.set.0 Pending old.set.1 new.set.1 last.1, last.2, last.3)

  pub gives_alone : (count : Q → ℕ) (old new : Ordered Q A) (answer : Poll (Option A)) (cx left : Context) → OrderedGives (BesideTask gives) (λ set. count set.0) (with_task old cx) answer (with_task new left) → OrderedGives alone count old answer new
  gives_alone count old new answer cx left h =
      record {
        yielded = h.yielded;
        before = without_task h.before;
        row = row_alone h.yielded (with_task old cx) h.before h.row;
        count_left = h.count_left;
        last_step = last_alone answer h.before (with_task new left) h.last_step;
      }

module _ {E A : Type 0} (may may' : E → A → Type 0) where
  -- entry by entry, what the new may give the old may give
  abbrev pub Narrows : List E → List E → Type 0
  Narrows [] [] = Unit {0}
  Narrows [] (e ∷ es) = ⊥
  Narrows (e ∷ es) [] = ⊥
  Narrows (e ∷ es) (d ∷ ds) = ((y : A) → may' d y → may e y) × Narrows es ds

  pub InTurn-Within : (es ds : List E) → Narrows es ds → Within (InTurn may es) (InTurn may' ds)
  InTurn-Within [] [] n xs last h = h
  InTurn-Within [] (d ∷ ds) n xs last h = absurd n
  InTurn-Within (e ∷ es) [] n xs last h = absurd n
  InTurn-Within (e ∷ es) (d ∷ ds) n [] None h = h
  InTurn-Within (e ∷ es) (d ∷ ds) n [] (Some y) h = n.0 y h
  InTurn-Within (e ∷ es) (d ∷ ds) n (x ∷ xs) last h = (n.0 x h.0, InTurn-Within es ds n.1 xs last h.1)

  pub Narrows-all : (es : List E) → ((e : E) (y : A) → may' e y → may e y) → Narrows es es
  Narrows-all [] less = tt
  Narrows-all (e ∷ es) less = (less e, Narrows-all es less)

  pub Narrows-each : (es : List E) → ((k : ℕ) (d : E) → slice_get es k ≡ Some d → (y : A) → may' d y → may d y) → Narrows es es
  Narrows-each [] less = tt
  Narrows-each (e ∷ es) less = (less 0 e refl, Narrows-each es (λ k d at. less (suc k) d at))

  pub Narrows-set : (es : List E) (k : ℕ) (d v : E) → slice_get es k ≡ Some d → ((y : A) → may' v y → may d y) → ((e : E) (y : A) → may' e y → may e y) → Narrows es (set es k v)
  Narrows-set [] k d v at here less = tt
  Narrows-set (e ∷ es) zero d v at here less = (λ y h. subst (λ (w : E). may w y) (Some-same (sym at)) (here y h), Narrows-all es less)
    where
      Some-same : {a b : E} → Some a ≡ Some b → a ≡ b
      Some-same e = cc
  Narrows-set (e ∷ es) (suc k) d v at here less = (less e, Narrows-set es k d v at here less)

module _ {Q A : Type 0} (gives : Q → Poll (Option (ℕ × A)) → Q → Type 0) (may_give : Q → ℕ × A → Type 0)
    (still : (old new : Q) (answer : Poll (Option (ℕ × A))) → gives old answer new → (z : ℕ × A) → may_give new z → may_give old z) (gave : (old new : Q) (out : ℕ × A) → gives old (Ready (Some out)) new → may_give old out) where
  -- what an entry may give, where the set may give less
  entry_less : (old new : Q) (answer : Poll (Option (ℕ × A))) → gives old answer new → (e : Entry A) (y : A) → EntryGives may_give new e y → EntryGives may_give old e y
  entry_less old new answer h (Running i) y may = still old new answer h (i, y) may
  entry_less old new answer h (Kept x) y may = may

  one_yield : (old new : Ordered Q A) (out : ℕ × A) → SetYields gives old out new → Within (ComesInOrder may_give old) (ComesInOrder may_give new)
  one_yield old new (i, x) h =
      let before = EntryGives may_give old.set in
      let after = EntryGives may_give new.set in
      let less = entry_less old.set new.set (Ready (Some (i, x))) h.gave in
      let given = gave old.set new.set (i, x) h.gave in
      subst (λ (l : List (Entry A)). Within (ComesInOrder may_give old) (InTurn after l)) (sym h.entries)
      (InTurn-Within before after old.entries (set old.entries h.at (Kept x))
      (Narrows-set before after old.entries h.at (Running i) (Kept x) h.was_running
      (λ y same. subst (λ z. may_give old.set (i, z)) (sym same) given) less))

  row_yields : (row : List (ℕ × A)) (old before : Ordered Q A) → FoldsTo (SetYields gives) old row before → Within (ComesInOrder may_give old) (ComesInOrder may_give before)
  row_yields [] old before h = subst (λ (v : Ordered Q A). Within (ComesInOrder may_give old) (ComesInOrder may_give v)) h (λ xs last k. k)
  row_yields (out ∷ row) old before h = λ xs last k. one_yield old h.0 out h.1 xs last (row_yields row h.0 before h.2 xs last k)

  module _ (count : Q → ℕ) (old new : Ordered Q A) where
    pub value_of : (answer : Poll (Option A)) → OrderedGives gives count old answer new → IfReady answer (ComesInOrder may_give old [])
    value_of (Ready None) h =
        row_yields h.yielded old h.before h.row [] None (subst (λ (l : List (Entry A)). InTurn (EntryGives may_give h.before.set) l [] None) (sym h.last_step.0) (refl, refl))
    value_of (Ready (Some x)) h =
        row_yields h.yielded old h.before h.row [] (Some x) (subst (λ (l : List (Entry A)). InTurn (EntryGives may_give h.before.set) l [] (Some x)) (sym h.last_step.0) refl)
    value_of Pending h = tt

    pub rest_of : (answer : Poll (Option A)) → OrderedGives gives count old answer new → IfReady answer (λ o. IfSome o (λ x. After (ComesInOrder may_give old) x (ComesInOrder may_give new)))
    rest_of (Ready None) h = tt
    rest_of (Ready (Some x)) h = λ xs last k.
        row_yields h.yielded old h.before h.row (x ∷ xs) last
        (subst (λ (l : List (Entry A)). InTurn (EntryGives may_give h.before.set) l (x ∷ xs) last) (sym h.last_step.0)
        (refl, subst (λ (set : Q). InTurn (EntryGives may_give set) new.entries xs last) h.last_step.1 k))
    rest_of Pending h = tt

    pub same_of : (answer : Poll (Option A)) → OrderedGives gives count old answer new → OnPending answer (Within (ComesInOrder may_give old) (ComesInOrder may_give new))
    same_of (Ready o) h = tt
    same_of Pending h = λ xs last k.
        let before = EntryGives may_give h.before.set in
        let after = EntryGives may_give new.set in
        row_yields h.yielded old h.before h.row xs last
        (InTurn-Within before after h.before.entries h.before.entries
        (Narrows-all before after h.before.entries (entry_less h.before.set new.set Pending h.last_step.1))
        xs last (subst (λ (l : List (Entry A)). InTurn after l xs last) h.last_step.2 k))

    -- what `futures` asks of a poll of the queue
    pub queue_answers : (can_poll : Ordered Q A → Type 0) (needs : Ordered Q A → ℕ → Type 0) (answer : Poll (Option A)) (cx left : Context) → OrderedGives gives count old answer new → can_poll new → OnPending answer (Covers left (needs new)) → Keeps cx left → StreamAnswers (stream_of can_poll needs (ComesInOrder may_give)) old answer new cx left
    queue_answers can_poll needs answer cx left h pollable covered kept = answers_of _ old new answer cx left (value_of answer h) (rest_of answer h) (same_of answer h) pollable covered kept

no_start : {A : Type 0} (es : List (Entry A)) → length es ≡ 0 → starts_running es ≡ true → ⊥
no_start [] none runs = cc
no_start (e ∷ es) none runs = omega (arith, none)

-- how many entries a poll leaves
module _ {Q A : Type 0} (gives : Q → Poll (Option (ℕ × A)) → Q → Type 0) (count : Q → ℕ) (old new : Ordered Q A) where
  row_len : (row : List (ℕ × A)) (from before : Ordered Q A) → FoldsTo (SetYields gives) from row before → length before.entries ≡ length from.entries
  row_len [] from before h = ap (λ (q : Ordered Q A). length q.entries) (sym h)
  row_len (out ∷ row) from before h =
      row_len row h.0 before h.2 ∙ (ap (λ (l : List (Entry A)). length l) h.1.entries ∙ length-set from.entries h.1.at (Kept out.1))

  -- a poll that finds none changes nothing
  none_left : OrderedGives gives count old (Ready None) new → (length old.entries ≡ 0) × (new ≡ old)
  none_left h = (none, by_row h.yielded h.row)
    where
      none : length old.entries ≡ 0
      none = sym (row_len h.yielded old h.before h.row) ∙ ap (λ (l : List (Entry A)). length l) h.last_step.0

      by_row : (row : List (ℕ × A)) → FoldsTo (SetYields gives) old row h.before → new ≡ old
      by_row [] ran = h.last_step.1 ∙ sym ran
      by_row (out ∷ row) ran = absurd (no_start old.entries none ran.1.front_runs)

  some_left : (x : A) → OrderedGives gives count old (Ready (Some x)) new → length new.entries + 1 ≡ length old.entries
  some_left x h = let e = row_len h.yielded old h.before h.row in let k = ap (λ (l : List (Entry A)). length l) h.last_step.0 in omega (arith, e, k)

  pub empty_of : (answer : Poll (Option A)) → OrderedGives gives count old answer new → IfReady answer (λ o. IfNone o ((length old.entries ≡ 0) × (new ≡ old)))
  empty_of (Ready None) h = none_left h
  empty_of (Ready (Some x)) h = tt
  empty_of Pending h = tt

  pub fewer_of : (answer : Poll (Option A)) → OrderedGives gives count old answer new → IfReady answer (λ o. OnSome o (length new.entries + 1 ≡ length old.entries))
  fewer_of (Ready None) h = tt
  fewer_of (Ready (Some x)) h = some_left x h
  fewer_of Pending h = tt

  pub as_many_of : (answer : Poll (Option A)) → OrderedGives gives count old answer new → OnPending answer (length new.entries ≡ length old.entries)
  as_many_of (Ready o) h = tt
  as_many_of Pending h = ap (λ (l : List (Entry A)). length l) h.last_step.2 ∙ row_len h.yielded old h.before h.row

  pub no_more_of : (answer : Poll (Option A)) → OrderedGives gives count old answer new → length new.entries ≤ length old.entries
  no_more_of (Ready None) h = let e = ap (λ (q : Ordered Q A). length q.entries) (none_left h).1 in omega (arith, e)
  no_more_of (Ready (Some x)) h = let e = some_left x h in omega (arith, e)
  no_more_of Pending h = let e = as_many_of Pending h in omega (arith, e)

module _ {E A : Type 0} (may : E → A → Type 0) where
  -- one more entry leads
  lead : (d : E) (ds : List E) (more : Runs A) (x : A) (xs : List A) (last : Option A) → may d x → Chains (InTurn may ds) more xs last → Chains (InTurn may (d ∷ ds)) more (x ∷ xs) last
  lead d ds more x xs None gave (inl h) = absurd h
  lead d ds more x xs (Some y) gave (inl h) = inl (gave, h)
  lead d ds more x xs last gave (inr h) = inr (x ∷ h.0, h.1, ap (λ (l : List A). x ∷ l) h.2, (gave, h.3), h.4)

  -- what comes from the entries before the last, and what comes from that
  pub last_apart : (after : E → A → Type 0) (es : List E) (e : E) (P : A → Type 0) → ((k : ℕ) (d : E) → slice_get es k ≡ Some d → (y : A) → after d y → may d y) → ((y : A) → after e y → P y)
      → (xs : List A) (last : Option A) → InTurn after (es ++ e ∷ []) xs last → Chains (InTurn may es) (Leads P Ends) xs last
  last_apart after [] e P less this [] None h = absurd h
  last_apart after [] e P less this [] (Some y) h = inr ([], [], refl, (refl, refl), this y h)
  last_apart after [] e P less this (x ∷ xs) last h = inr ([], x ∷ xs, refl, (refl, refl), (this x h.0, h.1))
  last_apart after (d ∷ ds) e P less this [] None h = absurd h
  last_apart after (d ∷ ds) e P less this [] (Some y) h = inl (less 0 d refl y h)
  last_apart after (d ∷ ds) e P less this (x ∷ xs) last h =
      lead d ds (Leads P Ends) x xs last (less 0 d refl x h.0) (last_apart after ds e P (λ k c at. less (suc k) c at) this xs last h.1)

  -- what comes from the first entry, and what comes from those behind it
  pub first_apart : (after : E → A → Type 0) (es : List E) (e : E) (P : A → Type 0) → ((k : ℕ) (d : E) → slice_get es k ≡ Some d → (y : A) → after d y → may d y) → ((y : A) → after e y → P y)
      → (xs : List A) (last : Option A) → InTurn after (e ∷ es) xs last → Leads P (InTurn may es) xs last
  first_apart after es e P less this [] None h = h
  first_apart after es e P less this [] (Some y) h = this y h
  first_apart after es e P less this (x ∷ xs) last h = (this x h.0, InTurn-Within may after es es (Narrows-each may after es less) xs last h.1)

-- where no entry has a number, none counts
pub unused_none : {A : Type 0} (i : ℕ) (es : List (Entry A)) → IsUnused i es → count_by (runs_with i) es ≡ 0
unused_none i es unused = by_count (count_by (runs_with i) es) refl
  where
    by_count : (n : ℕ) → count_by (runs_with i) es ≡ n → count_by (runs_with i) es ≡ 0
    by_count zero e = e
    by_count (suc n) e = let there = entry_with i es (omega (arith, e)) in absurd (unused there.0 there.1)

-- an output more comes, of an entry at either end, where the set may give no more than before but with the number of the new entry
module _ {Q F A : Type 0} (may_give : Q → ℕ × A → Type 0) (gives : F → A → Type 0) (old new : Ordered Q A) (item : F) (i : ℕ) (unused : IsUnused i old.entries)
    (more : (out : ℕ × A) → may_give new.set out → may_give old.set out ⊎ ((out.0 ≡ i) × gives item out.1)) (none : (y : A) → may_give old.set (i, y) → ⊥) where
  no_more : (k : ℕ) (d : Entry A) → slice_get old.entries k ≡ Some d → (y : A) → EntryGives may_give new.set d y → EntryGives may_give old.set d y
  no_more k (Kept x) at y h = h
  no_more k (Running j) at y h = elim (more (j, y) h) [
    | inl was ↦ was
    | inr own ↦ absurd (unused k (at ∙ ap (λ (n : ℕ). Some (Running n)) own.0))
  ]

  of_item : (y : A) → may_give new.set (i, y) → gives item y
  of_item y h = elim (more (i, y) h) [ inl was ↦ absurd (none y was) | inr own ↦ own.1 ]

  at_back : new.entries ≡ old.entries ++ Running i ∷ [] → Within (Chains (ComesInOrder may_give old) (Leads (gives item) Ends)) (ComesInOrder may_give new)
  at_back is xs last h =
      last_apart (EntryGives may_give old.set) (EntryGives may_give new.set) old.entries (Running i) (gives item) no_more of_item xs last
      (subst (λ (l : List (Entry A)). InTurn (EntryGives may_give new.set) l xs last) is h)

  at_front : new.entries ≡ Running i ∷ old.entries → Within (Leads (gives item) (ComesInOrder may_give old)) (ComesInOrder may_give new)
  at_front is xs last h = first_apart (EntryGives may_give old.set) (EntryGives may_give new.set) old.entries (Running i) (gives item) no_more of_item xs last
      (subst (λ (l : List (Entry A)). InTurn (EntryGives may_give new.set) l xs last) is h)

module _ {Q F A : Type 0} (may_give : Q → ℕ × A → Type 0) (gives : F → A → Type 0) (pushes : Q → F → ℕ → Q → Type 0) (old new : Ordered Q A) (item : F) where
  pub comes_behind : (added : AddsBack pushes old item new) → ((out : ℕ × A) → may_give new.set out → may_give old.set out ⊎ ((out.0 ≡ added.0) × gives item out.1)) → ((y : A) → may_give old.set (added.0, y) → ⊥)
      → Within (Chains (ComesInOrder may_give old) (Leads (gives item) Ends)) (ComesInOrder may_give new)
  comes_behind added more none = at_back may_give gives old new item added.0 added.1.unused more none added.2

  pub comes_before : (added : AddsFront pushes old item new) → ((out : ℕ × A) → may_give new.set out → may_give old.set out ⊎ ((out.0 ≡ added.0) × gives item out.1)) → ((y : A) → may_give old.set (added.0, y) → ⊥)
      → Within (Leads (gives item) (ComesInOrder may_give old)) (ComesInOrder may_give new)
  comes_before added more none = at_front may_give gives old new item added.0 added.1.unused more none added.2
