-- The step of each role stays in range, and keeps the row (`KeepsRow`).
use Rattle.futures_buffered_table.proofs.Common.{rules, false, ◌≡◌, ◌≢◌, ℕ, zero, suc, ◌+◌, ◌<◌, ◌≤◌, List, [], ◌∷◌, set, get_or, refl, sym, ap, ◌∙◌, ⊎_elim, arith, ◌++◌, subst, append-nil, ◌⊎◌, inl, inr, if◌then◌else◌, ◌==◌, AtomicStep, MarkSwap, LinkClear, TailSwap, LinkWrite, LinkRead, TailRead, Unmark, Phase, Start, AtStub, Moved, NoNext, Last, StubCleared, StubPut, StubLinked, InHand, Role, Idle, Won, Cleared, Swapped, Polls, View, next, owed, owed_by, same, times, FitsPhase, FitsRole, KeepsRow, outside, outside_by, link, mark, tail, tail_at, is_unmark, InRange, next_role, put_by_role, step_of_role, word_of_role, set-get_or, some, some-injective, get_elem?, after_first_read, after_slot_read}
use Rattle.std.proofs.Props.{props}
use Rattle.std.proofs.lemmas.Bool.{eqb-true, eqb-false}
use Rattle.futures_buffered_table.proofs.RowLemmas.{Flows, alone, not_last, row_end, row_goes_on, row_slots, same_else, slots_put, slots_put_stub, slots_slot, slots_stub, total_none, total_some}
use Rattle.futures_buffered_table.proofs.RowInvariantLemmas.{Turns, clears, follows, goes_on, head_low, here, links_up, no, only, puts_in, quiet, takes_stub, unmarks_slot, wins_mark}
use Rattle.futures_buffered_table.proofs.ListLemmas.{by_test}

pub word_range : (n slot : ℕ) (role : Role) → slot ≤ n → InRange n role → word_of_role n slot role < n + n + 2
word_range n slot role le ok = grind arith

-- the role of a poller
abbrev pub IsPolls : Role → Type 0
IsPolls (Polls h phase) = Unit {0}
IsPolls _ = ⊥

pub role_polls : (role : Role) → IsPolls role → (h : ℕ) × (phase : Phase) × (role ≡ Polls h phase)
role_polls role is = grind arith

-- a poller stays one
pub still_polls : (n h : ℕ) (phase : Phase) (found : ℕ) → IsPolls (next_role n 0 (Polls h phase) found)
still_polls n h Start zero = by_test IsPolls (h == n) (Polls h AtStub) (Polls h NoNext) (λ _. tt) (λ _. tt)
still_polls n h Start (suc q) = by_test IsPolls (h == n) (Polls q Moved) (Polls q (InHand h)) (λ _. tt) (λ _. tt)
still_polls n h NoNext found = by_test IsPolls (found == h) (Polls h Last) (Polls h Start) (λ _. tt) (λ _. tt)
still_polls n h phase found = grind arith

-- no seat polls but the poller
pub wakes_only : (n : ℕ) (words : List ℕ) (h : ℕ) (rest : List ℕ) (poller j : ℕ) (role : Role) → j ≢ poller →
    FitsRole n words h rest poller j role → IsPolls role → ⊥
wakes_only n words h rest poller j (Polls head phase) ne ok is = ne ok.0
wakes_only n words h rest poller j role ne ok is = grind arith

pub role_range : (n : ℕ) (words : List ℕ) (h : ℕ) (rest : List ℕ) (poller j : ℕ) (role : Role) → h ≤ n →
    FitsRole n words h rest poller j role → InRange n role
role_range n words h rest poller j role le ok = grind arith

pub in_range_prop : (n : ℕ) (role : Role) → IsProp (InRange n role)
in_range_prop n Idle = hlevel props
in_range_prop n (Polls h Start) = hlevel props
in_range_prop n role = hlevel props

-- some waker stands between its tail swap and its link write
abbrev pub SomeWakerStands : List View → Type 0
SomeWakerStands views = (j : ℕ) × ((i : ℕ) × (p : ℕ) × (u : View) × (get_elem? views j ≡ some u) × (u.role ≡ Swapped i p))

-- a step that puts back what it finds changes no word
same_after : {n h : ℕ} {rest : List ℕ} {poller : ℕ} {words : List ℕ} {views : List View} (i found : ℕ) → found ≡ get_or words i 0 →
    KeepsRow n h rest poller words views → KeepsRow n h rest poller (set words i found) views
same_after {n} {h} {rest} {poller} {words} {views} i found is R =
    rw (subst (λ (x : ℕ). set words i x ≡ words) (sym is) (set-get_or words i 0)) R

-- the seat id has the role and the steps, and makes a step
module _ {n h : ℕ} {rest : List ℕ} {poller : ℕ} {words : List ℕ} {views : List View} (R : KeepsRow n h rest poller words views) (id : ℕ)
    (steps : List AtomicStep) where
  abbrev with_role : Role → View
  with_role role = record { stub = n; role = role; steps = steps }

  abbrev then_role : Role → AtomicStep → View
  then_role role m = record { stub = n; role = role; steps = steps ++ m ∷ [] }

  -- the rule holds of these words, with this role and this step made, for some row
  abbrev pub KeepsSomeRow : Role → List ℕ → Role → AtomicStep → Type 0
  KeepsSomeRow old now role m = (h' : ℕ) × (rest' : List ℕ) × KeepsRow n h' rest' poller now (set views id (then_role role m))
      × Flows n old role (h ∷ rest) (h' ∷ rest')

  row_stays : row_slots n (h ∷ rest) ++ [] ≡ row_slots n (h ∷ rest)
  row_stays = append-nil (row_slots n (h ∷ rest))

  mark_swap : (slot : ℕ) → slot < n → get_elem? views id ≡ some (with_role Idle) → (found : ℕ) → found ≡ mark words slot →
      KeepsSomeRow Idle (set words slot 1) (next_role n slot Idle found) (step_of_role n slot Idle found)
  mark_swap slot lt at zero is =
      let now = wins_mark R id steps (Won slot) (MarkSwap slot 0) at (λ _ _. refl) slot lt (sym is) (search rules) lt in (h, rest, now, row_stays)
  mark_swap slot lt at (suc k) is =
      let one : 1 ≡ get_or words slot 0 = let a = R.whereabouts slot lt in omega arith in
      let now = same_after slot 1 one (quiet R id steps Idle (MarkSwap slot (suc k)) at (λ _ _. refl) (search rules) tt) in (h, rest, now, row_stays)

  -- a step of a wake, in whatever role the seat is
  pub wake_keeps : (slot : ℕ) (role : Role) → (role ≡ Idle → slot < n) → (IsPolls role → ⊥) → get_elem? views id ≡ some (with_role role)
      → (found : ℕ) → found ≡ get_or words (word_of_role n slot role) 0 →
      KeepsSomeRow role (set words (word_of_role n slot role) (put_by_role n role found)) (next_role n slot role found)
      (step_of_role n slot role found)
  wake_keeps slot Idle lt wakes at found is = mark_swap slot (lt refl) at found is
  wake_keeps slot (Won e) lt wakes at found is = let ok = (R.seats id (with_role (Won e)) at).0 in
      let now = clears R id steps (Cleared e) (LinkClear e) at (λ _ _. refl) e (omega arith) (search rules) (λ z. (ok, z)) in (h, rest, now, row_stays)
  wake_keeps slot (Cleared e) lt wakes at found is = let ok = (R.seats id (with_role (Cleared e)) at).0 in
      let now = puts_in R id steps (Swapped e (tail n words)) (TailSwap e (tail n words)) at (λ _ _. refl) e (let a = ok.0 in omega arith) ok.1
      (search rules) (λ le z. (ok.0, le, z)) in
      subst (λ (x : ℕ). KeepsSomeRow (Cleared e) (set words (tail_at n) e) (Swapped e x) (TailSwap e x)) (sym is)
      (h, rest ++ e ∷ [], now, slots_put n (h ∷ rest) e ok.0)
  wake_keeps slot (Swapped e p) lt wakes at found is = let ok = (R.seats id (with_role (Swapped e p)) at).0 in
      let now = links_up R id steps Idle (LinkWrite p e) at (λ _ _. refl) e p (let a = ok.0 in omega arith) ok.1 ok.2 (search rules) tt in
      (h, rest, now, row_stays)
  wake_keeps slot (Polls head phase) lt wakes at found is = absurd (wakes tt)

-- a step of the poller, whose head is h
module _ {n h : ℕ} {rest : List ℕ} {poller : ℕ} {words : List ℕ} {views : List View} (R : KeepsRow n h rest poller words views)
    (steps : List AtomicStep) where
  abbrev Polling : Phase → Type 0
  Polling phase = get_elem? views poller ≡ some (with_role R poller steps (Polls h phase))

  abbrev PollKeepsRow : Phase → List ℕ → Role → AtomicStep → Type 0
  PollKeepsRow phase now role m = KeepsSomeRow R poller steps (Polls h phase) now role m

  stays : row_slots n (h ∷ rest) ++ [] ≡ row_slots n (h ∷ rest)
  stays = append-nil (row_slots n (h ∷ rest))

  ok_of : (phase : Phase) → Polling phase → FitsPhase n words h rest phase
  ok_of phase at = (R.seats poller (with_role R poller steps (Polls h phase)) at).0.2

  mine : (m : AtomicStep) → poller ≢ poller → (e : ℕ) → is_unmark e m ≡ 0
  mine m ne = absurd (ne refl)

  -- a read that tells nothing: the next phase has no more in hand
  reads : (phase next_phase : Phase) (m : AtomicStep) → Polling phase → Turns n (Polls h phase) (Polls h next_phase) m no no no no no no
      → FitsPhase n words h rest next_phase → Flows n (Polls h phase) (Polls h next_phase) (h ∷ rest) (h ∷ rest)
      → (i found : ℕ) → found ≡ get_or words i 0 → PollKeepsRow phase (set words i found) (Polls h next_phase) m
  reads phase next_phase m at T ok flow i found is =
      let now = same_after i found is (quiet R poller steps (Polls h next_phase) m at (mine m) T (refl, refl, ok)) in (h, rest, now, flow)

  -- the link of the head names q: the head goes on to q
  heads_on : (phase next_phase : Phase) (q : ℕ) → Polling phase → suc q ≡ link n words h
      → Turns n (Polls h phase) (Polls q next_phase) (LinkRead h (suc q)) no (λ e. outside_by n e (Polls q next_phase)) no no no no
      → ((e : ℕ) → e < n → outside_by n e (Polls q next_phase) ≡ same e h) → outside_by n n (Polls q next_phase) ≡ 0
      → ((rest' : List ℕ) → q ≤ n → q ≢ h → h ≤ n → FitsPhase n words q rest' next_phase)
      → ((xs : List ℕ) → rest ≡ q ∷ xs → Flows n (Polls h phase) (Polls q next_phase) (h ∷ rest) (q ∷ xs))
      → PollKeepsRow phase (set words (n + h) (suc q)) (Polls q next_phase) (LinkRead h (suc q))
  heads_on phase next_phase q at is T new_out new_out_stub ok flow =
      let more = row_goes_on h q rest (follows R q (sym is)).0 in
      let R' : KeepsRow n h (q ∷ more.0) poller words views = subst (λ (r : List ℕ). KeepsRow n h r poller words views) more.1 R in
      let now = same_after (n + h) (suc q) is (goes_on R' steps (Polls q next_phase) (LinkRead h (suc q)) at (λ z. omega arith) T new_out new_out_stub
      (λ lq ne lh. (refl, refl, ok more.0 lq ne lh))) in (q, more.0, now, flow more.0 more.1)

  -- the head is a slot
  read_on : (phase none : Phase) → Polling phase → h < n → Turns n (Polls h phase) (Polls h none) (LinkRead h 0) no no no no no no
      → ((q : ℕ) → Turns n (Polls h phase) (Polls q (InHand h)) (LinkRead h (suc q)) no (only h) no no no no)
      → FitsPhase n words h rest none → Flows n (Polls h phase) (Polls h none) (h ∷ rest) (h ∷ rest) → (found : ℕ) → found ≡ link n words h
      → PollKeepsRow phase (set words (n + h) found) (after_slot_read h none found) (LinkRead h found)
  read_on phase none at lt T T' ok flow zero is = reads phase none (LinkRead h zero) at T ok flow (n + h) zero is
  read_on phase none at lt T T' ok flow (suc q) is =
      heads_on phase (InHand h) q at is (T' q) (λ e _. refl) (same_else n h (λ z. omega arith)) (λ _ lq _ _. (lq, lt))
      (λ xs e. stays ∙ (slots_slot n h rest lt ∙ ap (λ (l : List ℕ). h ∷ row_slots n l) e))

  below : (k : ℕ) → k ≤ n → k ≢ n → k < n
  below k le ne = grind arith

  read_at_first : Polling Start → (found : ℕ) → found ≡ link n words h →
      PollKeepsRow Start (set words (n + h) found) (after_first_read n h found) (LinkRead h found)
  read_at_first at found is = by_found found is
    where
      from_slot : (h == n) ≡ false → (x : ℕ) → x ≡ link n words h →
          PollKeepsRow Start (set words (n + h) x) (after_slot_read h NoNext x) (LinkRead h x)
      from_slot t = let lt = below h (head_low R) (eqb-false h n t) in read_on Start NoNext at lt (search rules) (λ q. search rules) lt stays

      by_found : (x : ℕ) → x ≡ link n words h → PollKeepsRow Start (set words (n + h) x) (after_first_read n h x) (LinkRead h x)
      by_found zero is = by_test (λ (r : Role). PollKeepsRow Start (set words (n + h) zero) r (LinkRead h zero)) (h == n)
          (Polls h AtStub) (Polls h NoNext)
          (λ t. reads Start AtStub (LinkRead h zero) at (search rules) (eqb-true h n t) stays (n + h) zero is) (λ t. from_slot t zero is)
      by_found (suc q) is = by_test (λ (r : Role). PollKeepsRow Start (set words (n + h) (suc q)) r (LinkRead h (suc q))) (h == n)
          (Polls q Moved) (Polls q (InHand h))
          (λ t. let at_stub : h ≡ n = eqb-true h n t in
          heads_on Start Moved q at is (search rules) (λ e lt. sym (same_else e h (λ z. omega arith))) refl
          (λ _ lq ne lh. below q lq (λ z. ne (z ∙ sym at_stub))) (λ xs e. stays ∙ (slots_stub n h rest at_stub ∙ ap (row_slots n) e)))
          (λ t. from_slot t (suc q) is)

  -- no seat but the poller ever has the stub
  no_stub : (phase : Phase) → outside_by n n (Polls h phase) ≡ 0 → Polling phase → outside n views n ≡ 0
  no_stub phase none at = grind (arith, total_none, same_else)

  tail_read : Polling NoNext → (found : ℕ) → found ≡ tail n words →
      PollKeepsRow NoNext (set words (tail_at n) found) (if found == h then Polls h Last else Polls h Start) (TailRead found)
  tail_read at found is = by_test (λ (r : Role). PollKeepsRow NoNext (set words (tail_at n) found) r (TailRead found)) (found == h)
      (Polls h Last) (Polls h Start) (λ t. takes_stub_alone (eqb-true found h t))
      (λ t. reads NoNext Start (TailRead found) at (search rules) (head_low R) stays (tail_at n) found is)
    where
      lt : h < n
      lt = ok_of NoNext at

      stub_free : found ≡ h → times n (h ∷ rest) ≡ 0
      stub_free e = ap (λ (r : List ℕ). times n (h ∷ r))
          (alone h rest (sym e ∙ (is ∙ sym R.ends)) (let b = R.whereabouts h lt in omega arith)) ∙
          (let b = lt in let a = same_else n h (λ z. omega arith) in omega arith)

      takes_stub_alone : found ≡ h → PollKeepsRow NoNext (set words (tail_at n) found) (Polls h Last) (TailRead found)
      takes_stub_alone e = let now = same_after (tail_at n) found is (takes_stub R poller steps (Polls h Last) (TailRead found) at
          (mine (TailRead found)) (stub_free e) (no_stub NoNext refl at) (search rules) (refl, refl, lt)) in (h, rest, now, stays)

  -- where the head's link names none, the row has one entry, or a waker stands between its tail swap and its link write
  pub row_ends_or_waker_stands : (phase : Phase) → Polling phase → owed_by h (Polls h phase) ≡ 0 →
      link n words h ≡ 0 → (rest ≡ []) ⊎ SomeWakerStands views
  row_ends_or_waker_stands phase at owes_none zero_link = ⊎_elim
      (λ (t : (link n words h ≡ next h h rest) × (owed views h ≡ 0)). inl (row_end h rest (sym t.0 ∙ zero_link)))
      (λ (t : (link n words h ≡ 0) × (owed views h ≡ 1)
      × (0 < next h h rest)). let some_seat = total_some (λ (u : View). owed_by h u.role) views (let a = t.1 in omega arith) in
      inr (some_seat.0, waiter some_seat.0 some_seat.1 some_seat.2 some_seat.1.role refl some_seat.3))
      (R.linked h (here h rest)).1
    where
      waiter : (j : ℕ) (u : View) → get_elem? views j ≡ some u → (role : Role) → u.role ≡ role → 0 < owed_by h u.role → (i : ℕ) × (p : ℕ)
          × (u : View) × (get_elem? views j ≡ some u) × (u.role ≡ Swapped i p)
      waiter j u e (Swapped i p) is pos = (i, p, u, e, is)
      waiter j u e (Polls head ph) is pos =
          let at_poller : j ≡ poller = (subst (FitsRole n words h rest poller j) is (R.seats j u e).0).0 in
          let same_u = some-injective u (with_role R poller steps (Polls h phase)) (sym e ∙ (ap (get_elem? views) at_poller ∙ at)) in
          let a : owed_by h u.role ≡ 0 = ap (λ (y : View). owed_by h y.role) same_u ∙ owes_none in absurd (omega arith)
      waiter j u e role is pos = let a : owed_by h u.role ≡ 0 = ap (owed_by h) is in absurd (omega arith)

  -- a step of a taking, in whatever phase it is
  pub poll_keeps : (slot : ℕ) (phase : Phase) → Polling phase → (found : ℕ) → found ≡ get_or words (word_of_role n slot (Polls h phase)) 0 →
      PollKeepsRow phase (set words (word_of_role n slot (Polls h phase)) (put_by_role n (Polls h phase) found))
      (next_role n slot (Polls h phase) found) (step_of_role n slot (Polls h phase) found)
  poll_keeps slot Start at found is = read_at_first at found is
  poll_keeps slot AtStub at found is = reads AtStub Start (TailRead found) at (search rules) (head_low R) stays (tail_at n) found is
  poll_keeps slot Moved at found is = read_on Moved NoNext at (ok_of Moved at) (search rules) (λ q. search rules) (ok_of Moved at) stays found is
  poll_keeps slot NoNext at found is = tail_read at found is
  poll_keeps slot Last at found is = let now = clears R poller steps (Polls h StubCleared) (LinkClear n) at (mine (LinkClear n)) n (omega arith)
      (search rules) (λ z. (refl, refl, (ok_of Last at, z))) in (h, rest, now, stays)
  poll_keeps slot StubCleared at found is = let ok = ok_of StubCleared at in let l : ℕ = tail n words in
      let now = puts_in R poller steps (Polls h (StubPut l)) (TailSwap n l) at (mine (TailSwap n l)) n (omega arith) ok.1 (search rules)
      (λ le z. (refl, refl, (ok.0, le, z))) in
      subst (λ (x : ℕ). PollKeepsRow StubCleared (set words (tail_at n) n) (Polls h (StubPut x)) (TailSwap n x)) (sym is)
      (h, rest ++ n ∷ [], now, slots_put_stub n (h ∷ rest))
  poll_keeps slot (StubPut p) at found is = let ok = ok_of (StubPut p) at in
      let now = links_up R poller steps (Polls h StubLinked) (LinkWrite p n) at (mine (LinkWrite p n)) n p (omega arith) ok.1 ok.2 (search rules)
      (refl, refl, (ok.0, not_last p h n rest ok.2)) in (h, rest, now, stays)
  poll_keeps slot StubLinked at found is = read_on StubLinked Start at (ok_of StubLinked at).0 (search rules) (λ q. search rules) (head_low R) stays found is
  poll_keeps slot (InHand i) at found is = let ok = ok_of (InHand i) at in
      let now = unmarks_slot R poller steps (Polls h Start) (Unmark i) at (mine (Unmark i)) i ok.1 (search rules) (refl, refl, ok.0) in
      (h, rest, now, stays)
