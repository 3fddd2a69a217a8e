-- The rule of the table: it holds of an empty list, tells what a step finds, and is kept by steps, splits and joins.
use Rattle.futures_buffered_table.proofs.Common.{◌≡◌, ◌≢◌, ℕ, zero, suc, ◌+◌, ◌≤◌, List, [], ◌∷◌, ◌++◌, refl, sym, ap, subst, ⊎_elim, arith, ◌<◌, get_or, set, length, set-append_seam, AtomicStep, Phase, Start, Moved, StubCleared, StubLinked, Role, Idle, Cleared, Polls, View, owed, owed_by, times, total, FitsRole, KeepsRow, outside, outside_by, empty_words, link, is_unmark, is_win, unmarks, wins, next_view, put_by_role, word_of_role, first_poller, new_waker_beside, spent_view, HoldsRow, MayFind, PlaysRole, Allows, Me, State, at_last, at_set, at_snoc, some, get_elem?, none, table_step, keeps, Arrives, Splits, Joins, set_again, with_steps_of, PlaysNewWaker}
use Rattle.futures_buffered_table.proofs.RowLemmas.{row_goes_on, same_cases, same_here, total-append, total_set}
use Rattle.futures_buffered_table.proofs.EffectLemmas.{IsPolls, poll_keeps, wake_keeps}
use Rattle.futures_buffered_table.proofs.RowInvariantLemmas.{SeatFits, follows, keeps_first, tail_low}

pub begins_at : (n : ℕ) (words : List ℕ) → words ≡ empty_words n →
    HoldsRow n record { words = words; homes = []; views = first_poller n ∷ [] }
begins_at n words is = (n, [], 0, subst (λ (ws : List ℕ). KeepsRow n n [] 0 ws (first_poller n ∷ [])) (sym is) (keeps_first 0 n))

module _ {n h : ℕ} {rest : List ℕ} {poller : ℕ} {words : List ℕ} {views : List View} (R : KeepsRow n h rest poller words views) where
  -- what the rule tells of the number that a wake's step finds
  wake_tells : (slot : ℕ) (role : Role) → (role ≡ Idle → slot < n) → (IsPolls role → ⊥) →
      MayFind n role (get_or words (word_of_role n slot role) 0)
  wake_tells slot Idle lt wakes = (R.whereabouts slot (lt refl)).1
  wake_tells slot (Cleared e) lt wakes = tail_low R
  wake_tells slot (Polls head phase) lt wakes = absurd (wakes tt)
  wake_tells slot role lt wakes = tt

  -- what the head's link names is an entry, and behind the stub a slot
  link_low : (link n words h ≤ suc n) × (h ≡ n → link n words h ≤ n)
  link_low = by_link (link n words h) refl
    where
      by_link : (l : ℕ) → l ≡ link n words h → (l ≤ suc n) × (h ≡ n → l ≤ n)
      by_link zero is = (omega arith, λ _. omega arith)
      by_link (suc q) is =
          let more = row_goes_on h q rest (follows R q (sym is)).0 in
          let low = (R.linked q (subst (λ (r : List ℕ). 0 < times q (h ∷ r)) (sym more.1) (let a = same_here q in omega arith))).0 in
          let twice = subst (λ (r : List ℕ). times n (h ∷ r) ≤ 1) more.1 (let d = R.stub_once in omega arith) in
          (omega arith, λ at_stub. let a = same_cases n h in let b = same_cases n q in grind arith)

  -- what the rule tells of the number that a step of a taking finds
  poll_tells : (slot : ℕ) (phase : Phase) → MayFind n (Polls h phase) (get_or words (word_of_role n slot (Polls h phase)) 0)
  poll_tells slot Start = link_low
  poll_tells slot Moved = link_low.0
  poll_tells slot StubLinked = link_low.0
  poll_tells slot StubCleared = tail_low R
  poll_tells slot phase = tt

-- a seat with this role and these steps, and no slot of the table
abbrev pub seated : ℕ → Role → List AtomicStep → Me ℕ View
seated n role steps = (record { stub = n; role = role; steps = steps }, [])

pub is_seated : (n : ℕ) (role : Role) (me : Me ℕ View) → me.0.stub ≡ n → me.0.role ≡ role → me.1 ≡ [] → me ≡ seated n role me.0.steps
is_seated n role me a b c = λ k. (record { stub = a k; role = b k; steps = me.0.steps }, c k)

module _ (n id i : ℕ) (steps : List AtomicStep) where
  -- the state after the step of this role at the word k, of which the rule tells what it found
  abbrev KeepsAt : ℕ → Role → State ℕ View → Type 0
  KeepsAt k role s = HoldsRow n record {
    words = set s.words k (put_by_role n role (get_or s.words k 0));
    homes = s.homes;
    views = set s.views id (next_view i (seated n role steps).0 (get_or s.words k 0));
  } × MayFind n role (get_or s.words k 0)

  keeps_wake : (role : Role) → (role ≡ Idle → i < n) → (IsPolls role → ⊥) → (s : State ℕ View) → HoldsRow n s →
      get_elem? s.views id ≡ some (seated n role steps).0 → KeepsAt (word_of_role n i role) role s
  keeps_wake role lt wakes s held at =
      let kept = wake_keeps held.3 id steps i role lt wakes at (get_or s.words (word_of_role n i role) 0) refl in
      ((kept.0, kept.1, held.2, kept.2), wake_tells held.3 i role lt wakes)

  keeps_poll : (h : ℕ) (phase : Phase) → (s : State ℕ View) → HoldsRow n s → get_elem? s.views id ≡ some (seated n (Polls h phase) steps).0 →
      KeepsAt (word_of_role n i (Polls h phase)) (Polls h phase) s
  keeps_poll h phase s held at =
      let ok = (held.3.seats id (seated n (Polls h phase) steps).0 at).0 in
      let R : KeepsRow n h held.1 id s.words s.views = subst (λ (x : ℕ
      × ℕ). KeepsRow n x.0 held.1 x.1 s.words s.views) (λ k. (sym ok.1 k, sym ok.0 k)) held.3 in
      let kept = poll_keeps R steps i phase at (get_or s.words (word_of_role n i (Polls h phase)) 0) refl in
      ((kept.0, kept.1, id, kept.2), poll_tells R i phase)

  -- an idle seat wakes a slot below the capacity
  abbrev pub SlotHandle : Role → Type 0
  SlotHandle Idle = i < n
  SlotHandle _ = Unit {0}

  keeps_rule : (role : Role) → SlotHandle role → (s : State ℕ View) → HoldsRow n s → get_elem? s.views id ≡ some (seated n role steps).0 →
      KeepsAt (word_of_role n i role) role s
  keeps_rule Idle lt = keeps_wake Idle (λ _. lt) (λ z. z)
  keeps_rule (Polls h phase) lt = keeps_poll h phase
  keeps_rule role lt = keeps_wake role (λ e. absurd cc) (λ z. grind arith)

  -- So the table lets the seat make it, by a step that puts what the role puts there. The seat may see less than the step finds (`seen`).
  pub allows : (role : Role) → SlotHandle role → i ≡ word_of_role n i role → (slots key : ℕ) → key ≡ n → (me : Me ℕ View) →
      me ≡ seated n role steps → (a b : ℕ) (f seen : ℕ → ℕ) → ((found : ℕ) → put_by_role n role found ≡ f found)
      → ((found : ℕ) → next_view i (seated n role steps).0 found ≡ next_view i (seated n role steps).0 (seen found))
      → ((found : ℕ) → MayFind n role found → MayFind n role (seen found))
      → Allows (HoldsRow key) slots id me i f (λ found. PlaysRole (table_step slots i a b none) me (seen found))
  allows role lt there slots key is_key me is_me a b f seen put blind told = subst (λ (x : ℕ
      × Me ℕ View). Allows (HoldsRow x.0) slots id x.1 i f (λ found. PlaysRole (table_step slots i a b none) x.1 (seen found)))
      (λ k. (sym is_key k, sym is_me k))
      (λ s held len at fits.
      let found : ℕ = get_or s.words i 0 in
      let kept = subst (λ (k : ℕ). KeepsAt k role s) (sym there) (keeps_rule role lt s held at) in
      let now = subst (λ (x : ℕ × View). HoldsRow n record { words = set s.words i x.0; homes = s.homes; views = set s.views id x.1 })
      (λ k. (put found k, blind found k)) kept.0 in
      (next_view i (seated n role steps).0 (seen found), keeps, tt, now, (refl, refl, told found kept.1)))

-- the rule sees of the views only these sums, and what each seat knows
pub same_sums : {n h : ℕ} {rest : List ℕ} {poller : ℕ} {words : List ℕ} {views : List View} → KeepsRow n h rest poller words views → (now : List View)
    → ((e : ℕ) → outside n now e ≡ outside n views e) → ((p : ℕ) → owed now p ≡ owed views p)
    → ((e : ℕ) → total (λ (v : View). wins e v.steps) now ≡ total (λ (v : View). wins e v.steps) views)
    → ((e : ℕ) → total (λ (v : View). unmarks e v.steps) now ≡ total (λ (v : View). unmarks e v.steps) views)
    → ((j : ℕ) (v : View) → get_elem? now j ≡ some v → FitsRole n words h rest poller j v.role
    × (j ≢ poller → (e : ℕ) → unmarks e v.steps ≡ 0)) → KeepsRow n h rest poller words now
same_sums {n} {h} {rest} {poller} {words} {views} R now outs oweds won undone seats = grind arith

-- a new wake seat comes, and has made no step
pub grows : (n : ℕ) (v : View) (s : State ℕ View) → HoldsRow n s →
    HoldsRow n record { words = s.words; homes = s.homes; views = s.views ++ new_waker_beside v ∷ [] }
grows n v s held =
    let w : View = new_waker_beside v in
    let now = same_sums held.3 (s.views ++ w ∷ []) (λ e. grind (arith, total-append)) (λ p. grind (arith, total-append))
    (λ e. grind (arith, total-append)) (λ e. grind (arith, total-append)) (λ j u e. ⊎_elim (λ t. held.3.seats j u t)
    (λ (t : w ≡ u). subst (SeatFits n s.words held.0 held.1 held.2 j) t (tt, λ _ x. refl)) (at_snoc s.views w u j e)) in
    (held.0, held.1, held.2, now)

pub splits : (n id : ℕ) (v : View) → Splits (HoldsRow n) id v v (new_waker_beside v)
splits n id v s held at =
    subst (λ (vs : List View). HoldsRow n record { words = s.words; homes = s.homes; views = vs ++ new_waker_beside v ∷ [] })
    (sym (set_again s.views id v at)) (grows n v s held)

-- whatever the words and views are, a new wake seat can come with the mark swap of a slot
pub arrives : (n slots i : ℕ) → i < n →
    Arrives (HoldsRow n) slots i (λ _. 1) (PlaysNewWaker (table_step slots i 1 0 none) (first_poller n, []))
arrives n slots i lt s held len fits =
    let fresh = new_waker_beside (first_poller n) in
    let more : State ℕ View = record { words = s.words; homes = s.homes; views = s.views ++ fresh ∷ [] } in
    let w = next_view i fresh (get_or s.words i 0) in
    let kept = keeps_rule n (length s.views) i [] Idle lt more (grows n (first_poller n) s held) (at_last s.views fresh (length s.views) refl) in
    let now = subst (λ (vs : List View). HoldsRow n record { words = set s.words i 1; homes = s.homes; views = vs })
    (set-append_seam s.views fresh [] w) kept.0 in
    (w, keeps, tt, now, (refl, refl, kept.1))

pub joins : (n id other : ℕ) (v w : View) (head : ℕ) (phase : Phase) → v.role ≡ Polls head phase → w.role ≡ Idle →
    Joins (HoldsRow n) id v other w (with_steps_of v w) spent_view
joins n id other v w head phase polls idle s held at apart there =
    let R = held.3 in
    let both = with_steps_of v w in
    let one : List View = set s.views id both in
    let two : List View = set one other spent_view in
    let here : id ≡ held.2 = (subst (FitsRole n s.words held.0 held.1 held.2 id) polls (R.seats id v at).0).0 in
    let sums : (f : View → ℕ) → f both ≡ f v + f w → f spent_view ≡ 0 → total f two ≡ total f s.views = λ f a b.
    let x = total_set f s.views id v both at in let y = total_set f one other w spent_view there in omega arith in
    let now = same_sums R two
    (λ e. sums (λ u. outside_by n e u.role) (let a : outside_by n e w.role ≡ 0 = ap (outside_by n e) idle in omega arith) refl)
    (λ p. sums (λ u. owed_by p u.role) (let a : owed_by p w.role ≡ 0 = ap (owed_by p) idle in omega arith) refl)
    (λ e. sums (λ u. wins e u.steps) (total-append (is_win e) v.steps w.steps) refl)
    (λ e. sums (λ u. unmarks e u.steps) (total-append (is_unmark e) v.steps w.steps) refl)
    (λ j u e. ⊎_elim
    (λ (t : (j ≡ other) × (spent_view ≡ u)). subst (SeatFits n s.words held.0 held.1 held.2 j) t.1 (tt, λ _ x. refl))
    (λ (t : (j ≢ other) × (get_elem? one j ≡ some u)). ⊎_elim
    (λ (r : (j ≡ id) × (both ≡ u)). subst (λ (y : ℕ × View). SeatFits n s.words held.0 held.1 held.2 y.0 y.1)
    (λ k. (sym r.0 k, r.1 k)) ((R.seats id v at).0, λ ne. absurd (ne here)))
    (λ (r : (j ≢ id) × (get_elem? s.views j ≡ some u)). R.seats j u r.1)
    (at_set s.views id j both u t.1))
    (at_set one other j spent_view u e)) in
    (held.0, held.1, held.2, now)
