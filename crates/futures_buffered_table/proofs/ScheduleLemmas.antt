-- Over a legal schedule the row keeps itself, and the slots come out in the order in which they were put in.
use Rattle.futures_buffered_table.proofs.Common.{◌≡◌, ℕ, ◌<◌, List, [], ◌∷◌, ◌++◌, length, map, set, get_or, refl, sym, ap, ◌∙◌, subst, arith, append_assoc, length-set, ◌+◌, is_win, wins, AtomicStep, Phase, Start, Role, Idle, Polls, View, Step, Mark, Go, Poll, StepReply, WAKE_SEATS, KeepsRow, next_role, next_view, put_by_role, reply_of_role, step_of_role, word_of_role, first_poller, new_waker_beside, role_of, spent_view, CanStep, seat_of, slot_of, Legal, Moment, after_step, at_start, found_at, replies_of, run, view_at, set_else, set_here, get_or-map, some, some-injective, get_elem?, word_of}
use Rattle.futures_buffered_table.proofs.RowLemmas.{in_hand, put_by, row_slots, total-append}
use Rattle.futures_buffered_table.proofs.ViewLemmas.{stubs_set, each_first}
use Rattle.futures_buffered_table.proofs.EffectLemmas.{IsPolls, poll_keeps, role_polls, still_polls, wake_keeps, wakes_only}
use Rattle.futures_buffered_table.proofs.ListLemmas.{elem_at, place_low, length_and_last, last_at}
use Rattle.futures_buffered_table.proofs.RowInvariantLemmas.{keeps_first}

-- the seat 64 polls, at the head h, and won no mark
abbrev pub PollsAt : ℕ → ℕ → List View → Type 0
PollsAt n h views = (phase : Phase) × (steps : List AtomicStep)
    × (get_elem? views WAKE_SEATS ≡ some (record { stub = n; role = Polls h phase; steps = steps })) × ((e : ℕ) → wins e steps ≡ 0)

-- 64 wake seats and the poll seat of one list for n slots, with some row that keeps itself
abbrev pub IsReachable : ℕ → Moment → Type 0
IsReachable n c =
    ((j : ℕ) (v : View) → get_elem? c.views j ≡ some v → v.stub ≡ n) × (length c.views ≡ WAKE_SEATS + 1)
    × ((h : ℕ) × (rest : List ℕ) × KeepsRow n h rest WAKE_SEATS c.words c.views × PollsAt n h c.views)

-- what is out of the row and not yet answered, and then the row
abbrev pub pending : (n : ℕ) (c : Moment) → IsReachable n c → List ℕ
pending n c good = in_hand (Polls good.2.0 good.2.3.0) ++ row_slots n (good.2.0 ∷ good.2.1)

-- where the poller's phase has nothing in hand, or is answered
abbrev pub StaysReachable : (n : ℕ) (c : Moment) → IsReachable n c → Step → Type 0
StaysReachable n c good step = (on : IsReachable n (after_step n c step))
    × (pending n c good ++ put_by (view_at c step).role ≡ in_hand (view_at c step).role ++ pending n (after_step n c step) on)

no_hand : (role : Role) → (IsPolls role → ⊥) → in_hand role ≡ []
no_hand role wakes = grind arith

wake_stays : (n slot : ℕ) (role : Role) (found : ℕ) → (IsPolls role → ⊥) → IsPolls (next_role n slot role found) → ⊥
wake_stays n slot role found wakes is = grind arith

poll_wins_none : (e n h : ℕ) (phase : Phase) (found : ℕ) → is_win e (step_of_role n 0 (Polls h phase) found) ≡ 0
poll_wins_none e n h phase found = grind arith

-- a wake's step
wake_reaches : (n : ℕ) (c : Moment) (good : IsReachable n c) (step : Step) → seat_of step < WAKE_SEATS →
    ((view_at c step).role ≡ Idle → slot_of step < n) → StaysReachable n c good step
wake_reaches n c good step low lt =
    let h = good.2.0 in let rest = good.2.1 in let R = good.2.2 in let polls = good.2.3 in
    let seat = seat_of step in let v = view_at c step in let found = found_at n c step in
    let there : get_elem? c.views seat ≡ some v = elem_at c.views seat spent_view (let a = good.1 in omega arith) in
    let stub : v.stub ≡ n = good.0 seat v there in
    let at : get_elem? c.views seat ≡ some (record { stub = n; role = v.role; steps = v.steps }) = there ∙
    (λ k. some (record { stub = stub k; role = v.role; steps = v.steps })) in
    let wakes : IsPolls v.role → ⊥ = wakes_only n c.words h rest WAKE_SEATS seat v.role (λ z. omega arith) (R.seats seat v there).0 in
    let kept = wake_keeps R seat v.steps (slot_of step) v.role lt wakes at found refl in
    let made : ℕ → View = λ x. record
    { stub = x; role = next_role x (slot_of step) v.role found; steps = v.steps ++ step_of_role x (slot_of step) v.role found ∷ [] } in
    let w : View = made n in
    let now : List View = set c.views seat w in
    let still : get_elem? now WAKE_SEATS ≡ some (record { stub = n; role = Polls h polls.0; steps = polls.1 }) = set_else c.views seat
    WAKE_SEATS w (λ z. omega arith) ∙ polls.2 in
    let same_head : h ≡ kept.0 = (kept.2.seats WAKE_SEATS _ still).0.1 in
    let words_now = set c.words (word_of n c step) (put_by_role n v.role found) in
    let still_on : get_elem? now WAKE_SEATS ≡ some (record { stub = n; role = Polls kept.0 polls.0; steps = polls.1 }) =
    still ∙ (λ k. some (record { stub = n; role = Polls (same_head k) polls.0; steps = polls.1 })) in
    let stubs = stubs_set n c.views seat w good.0 refl in let wide = length-set c.views seat w ∙ good.1 in
    let on : IsReachable n (record { words = words_now; views = now }) = (stubs, wide, (kept.0, kept.1, kept.2, (polls.0, polls.1, still_on, polls.3))) in
    let row : List ℕ = row_slots n (kept.0 ∷ kept.1) in
    let flow : row_slots n (h ∷ rest) ++ put_by v.role ≡ row =
    kept.3 ∙ ap (λ (l : List ℕ). l ++ row) (no_hand _ (wake_stays n (slot_of step) v.role found wakes)) in
    let all : (in_hand (Polls h polls.0) ++ row_slots n (h ∷ rest)) ++ put_by v.role ≡ in_hand v.role ++
    (in_hand (Polls kept.0 polls.0) ++ row) =
    append_assoc (in_hand (Polls h polls.0)) (row_slots n (h ∷ rest)) (put_by v.role) ∙
    (λ k. sym (no_hand v.role wakes) k ++ (in_hand (Polls (same_head k) polls.0) ++ flow k)) in
    subst (λ (u : View). (on : IsReachable n (record { words = words_now; views = set c.views seat u }))
    × ((in_hand (Polls h polls.0) ++ row_slots n (h ∷ rest)) ++ put_by v.role ≡ in_hand v.role ++ pending n
    (record { words = words_now; views = set c.views seat u }) on)) (ap made (sym stub)) (on, all)

-- the poller's step
poll_reaches : (n : ℕ) (c : Moment) (good : IsReachable n c) → StaysReachable n c good Poll
poll_reaches n c good =
    let h = good.2.0 in let rest = good.2.1 in let R = good.2.2 in let polls = good.2.3 in
    let v = view_at c Poll in
    let there : get_elem? c.views WAKE_SEATS ≡ some v = elem_at c.views WAKE_SEATS spent_view (let a = good.1 in omega arith) in
    let p : View = record { stub = n; role = Polls h polls.0; steps = polls.1 } in
    let same_v : p ≡ v = some-injective p v (sym polls.2 ∙ there) in
    let f : ℕ = get_or c.words (word_of_role n 0 (Polls h polls.0)) 0 in
    let kept = poll_keeps R polls.1 0 polls.0 polls.2 f refl in
    let w : View = next_view 0 p f in
    let next = role_polls (next_role n 0 (Polls h polls.0) f) (still_polls n h polls.0 f) in
    let at : get_elem? (set c.views WAKE_SEATS w) WAKE_SEATS ≡ some w = set_here c.views WAKE_SEATS w (place_low c.views WAKE_SEATS _ there)
    in
    let at_next : get_elem? (set c.views WAKE_SEATS w) WAKE_SEATS ≡ some (record { stub = n; role = Polls next.0 next.1; steps = w.steps })
    = at ∙ (λ k. some (record { stub = n; role = next.2 k; steps = w.steps })) in
    let same_head : next.0 ≡ kept.0 = (kept.2.seats WAKE_SEATS _ at_next).0.1 in
    let polled : View → Moment = λ u. let x : ℕ = get_or c.words (word_of_role n 0 u.role) 0 in
    record { words = set c.words (word_of_role n 0 u.role) (put_by_role n u.role x); views = set c.views WAKE_SEATS (next_view 0 u x) } in
    let at_on : get_elem? (set c.views WAKE_SEATS w) WAKE_SEATS ≡ some (record { stub = n; role = Polls kept.0 next.1; steps = w.steps }) =
    at_next ∙ (λ k. some (record { stub = n; role = Polls (same_head k) next.1; steps = w.steps })) in
    let won : (e : ℕ) → wins e w.steps ≡ 0 = λ e. let a = polls.3 e in let b = poll_wins_none e n h polls.0 f in
    omega (arith, total-append (is_win e) polls.1 (step_of_role n 0 (Polls h polls.0) f ∷ [])) in
    let stubs = stubs_set n c.views WAKE_SEATS w good.0 refl in let wide = length-set c.views WAKE_SEATS w ∙ good.1 in
    let on : IsReachable n (polled p) = (stubs, wide, (kept.0, kept.1, kept.2, (next.1, w.steps, at_on, won))) in
    let row : List ℕ = row_slots n (kept.0 ∷ kept.1) in
    let flow : row_slots n (h ∷ rest) ++ [] ≡ in_hand (Polls kept.0 next.1) ++ row = kept.3 ∙
    (λ k. in_hand ((next.2 ∙ ap (λ (x : ℕ). Polls x next.1) same_head) k) ++ row) in
    let all : pending n c good ++ [] ≡ in_hand (Polls h polls.0) ++ (in_hand (Polls kept.0 next.1) ++ row) =
    append_assoc (in_hand (Polls h polls.0)) (row_slots n (h ∷ rest)) [] ∙ ap (λ (l : List ℕ). in_hand (Polls h polls.0) ++ l) flow in
    subst (λ (u : View). (now : IsReachable n (polled u)) × (pending n c good ++ put_by u.role ≡ in_hand u.role ++ pending n (polled u) now))
    same_v (on, all)

pub step_reaches : (n : ℕ) (c : Moment) (good : IsReachable n c) (step : Step) → CanStep n (map role_of c.views) step →
    StaysReachable n c good step
step_reaches n c good (Mark seat slot) can = wake_reaches n c good (Mark seat slot) can.0 (λ _. can.1)
step_reaches n c good (Go seat) can = wake_reaches n c good (Go seat) can.0
    (λ e. absurd (can.1 (get_or-map role_of c.views seat spent_view ∙ e)))
step_reaches n c good Poll can = poll_reaches n c good

-- after a legal schedule
pub run_reaches : (n : ℕ) (c : Moment) (good : IsReachable n c) (steps : List Step) → Legal n c steps → IsReachable n (run n c steps)
run_reaches n c good [] legal = good
run_reaches n c good (s ∷ ss) legal = run_reaches n (after_step n c s) (step_reaches n c good s legal.0).0 ss legal.1

abbrev pub reachable_start : (n : ℕ) → IsReachable n (at_start n)
reachable_start n = (
  each_first WAKE_SEATS n (λ j v. v.stub ≡ n) (λ j l. refl) refl,
  length_and_last WAKE_SEATS
      (new_waker_beside (first_poller n)) (first_poller n),
  (n, [], keeps_first WAKE_SEATS n, (Start, [], last_at WAKE_SEATS (new_waker_beside (first_poller n)) (first_poller n), λ e. refl)),
)

pub run_more : (n : ℕ) (c : Moment) (ss : List Step) (s : Step) → run n c (ss ++ s ∷ []) ≡ after_step n (run n c ss) s
run_more n c [] s = refl
run_more n c (x ∷ xs) s = run_more n (after_step n c x) xs s

pub legal_more : (n : ℕ) (c : Moment) (ss : List Step) (s : Step) → Legal n c ss → CanStep n (map role_of (run n c ss).views) s →
    Legal n c (ss ++ s ∷ [])
legal_more n c [] s legal can = (can, tt)
legal_more n c (x ∷ xs) s legal can = (legal.0, legal_more n (after_step n c x) xs s legal.1 can)

pub replies_more : (n : ℕ) (c : Moment) (ss : List Step) (s : Step) →
    replies_of n c (ss ++ s ∷ []) ≡ replies_of n c ss ++ reply_of_role n (view_at (run n c ss) s).role (found_at n (run n c ss) s) ∷ []
replies_more n c [] s = refl
replies_more n c (x ∷ xs) s = ap (λ (l : List StepReply). reply_of_role n (view_at c x).role (found_at n c x) ∷ l)
    (replies_more n (after_step n c x) xs s)

pub reachable_at : (n : ℕ) (schedule : List Step) → Legal n (at_start n) schedule → IsReachable n (run n (at_start n) schedule)
reachable_at n schedule legal = run_reaches n (at_start n) (reachable_start n) schedule legal
