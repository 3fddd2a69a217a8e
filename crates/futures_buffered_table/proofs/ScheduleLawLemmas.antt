-- A legal schedule keeps the laws.
use Rattle.futures_buffered_table.proofs.Common.{◌≡◌, ◌≢◌, ◌⊎◌, ℕ, zero, suc, ◌+◌, ◌<◌, List, [], ◌∷◌, ◌++◌, map, set, get_or, refl, sym, ap, ◌∙◌, subst, inl, inr, ⊎_elim, arith, append-nil, append_assoc, nat_tests, Empty, Pause, AtomicStep, Phase, Start, AtStub, Moved, NoNext, StubLinked, Role, Idle, Won, Cleared, Swapped, Polls, View, Step, Mark, Go, Poll, StepReply, WAKE_SEATS, owed_by, FitsRole, KeepsRow, link, tail, next_role, next_view, put_by_role, reply_of_role, word_of_role, role_of, spent_view, CanStep, seat_of, slot_of, Legal, Moment, after_step, at_start, found_at, replies_of, view_at, at_set, set_else, set_here, get_or-map, some, some-injective, get_elem?, AfterEach, AnswersInOrder, EmptyIsTrue, IsUnderWay, PauseHasCause, Made, Wake, WakerStands, WakerStood, answered, put_in, put_in_by, slot_named, wake_after, wake_of}
use Rattle.futures_buffered_table.specs.declared.step.StepReply.TheVariants.{Taken}
use Rattle.futures_buffered_table.proofs.ScheduleLemmas.{IsReachable, pending, reachable_start, step_reaches}
use Rattle.futures_buffered_table.proofs.EffectLemmas.{IsPolls, SomeWakerStands, row_ends_or_waker_stands, wakes_only}
use Rattle.futures_buffered_table.proofs.RowLemmas.{alone, in_hand, put_by, row_slots, slots_stub}
use Rattle.futures_buffered_table.proofs.WordsLemmas.{tail_kept}
use Rattle.futures_buffered_table.proofs.ListLemmas.{elem_at, place_low}
use Rattle.futures_buffered_table.proofs.ViewLemmas.{each_first}
use Rattle.futures_buffered_table.proofs.RowInvariantLemmas.{head_low}

-- what a seat's role says of the wake that is told of it
abbrev ShowsWake : Wake → Role → Type 0
ShowsWake w Idle = Unit {0}
ShowsWake w (Won e) = (w.slot ≡ e) × (w.made ≡ 1)
ShowsWake w (Cleared e) = (w.slot ≡ e) × (w.made ≡ 2)
ShowsWake w (Swapped e p) = (w.slot ≡ e) × (w.made ≡ 3)
ShowsWake w (Polls h phase) = Unit {0}

-- what is told of the taking under way; the tail is t
abbrev TellsPhase : List Made → ℕ → ℕ → Phase → Type 0
TellsPhase past t h Start = Unit {0}
TellsPhase past t h AtStub = IsUnderWay past × (WakerStood past ⊎ (t ≡ h))
TellsPhase past t h NoNext = IsUnderWay past × (WakerStood past ⊎ (t ≡ h))
TellsPhase past t h _ = IsUnderWay past

-- the same of what seat 64 does
abbrev TellsRole : List Made → ℕ → Role → Type 0
TellsRole past t (Polls h phase) = TellsPhase past t h phase
TellsRole past t _ = Unit {0}

record IsTold (n : ℕ) (past : List Made) (c : Moment) (good : IsReachable n c) : Type 0 where
  wakes : (seat : ℕ) → seat < WAKE_SEATS → (v : View) → get_elem? c.views seat ≡ some v → ShowsWake (wake_of seat past) v.role
  flow : put_in past ≡ answered past ++ pending n c good
  takes : (v : View) → get_elem? c.views WAKE_SEATS ≡ some v → TellsRole past (tail n c.words) v.role

-- what a reply says of the history before it
abbrev IsRight : StepReply → List Made → Type 0
IsRight (Taken Empty) past = put_in past ≡ answered past
IsRight (Taken Pause) past = WakerStands past ⊎ WakerStood past
IsRight _ past = Unit {0}

wake_same : (seat : ℕ) (e : Made) (past : List Made) → seat_of e.step ≡ seat →
    wake_of seat (e ∷ past) ≡ wake_after e.step e.reply (wake_of seat past)
wake_same seat e past is = grind (arith, nat_tests)

wake_else : (seat : ℕ) (e : Made) (past : List Made) → seat_of e.step ≢ seat → wake_of seat (e ∷ past) ≡ wake_of seat past
wake_else seat e past ne = grind (arith, nat_tests)

-- a waker that stands so is told of
stands_told : (n : ℕ) (past : List Made) (c : Moment) (good : IsReachable n c) → IsTold n past c good → SomeWakerStands c.views →
    WakerStands past
stands_told n past c good tells waits = grind (arith, place_low)

abbrev event : (n : ℕ) (c : Moment) → Step → Made
event n c s = record { step = s; reply = reply_of_role n (view_at c s).role (found_at n c s) }

abbrev StaysTold : (n : ℕ) (past : List Made) (c : Moment) (good : IsReachable n c) → Step → Type 0
StaysTold n past c good s = IsRight (event n c s).reply past
    × ((on : IsReachable n (after_step n c s)) × IsTold n (event n c s ∷ past) (after_step n c s) on)

abbrev MayMake : Step → Role → Type 0
MayMake (Mark seat slot) role = role ≡ Idle
MayMake (Go seat) role = (role ≢ Idle) × (IsPolls role → ⊥)
MayMake Poll role = ⊥

shows_on : (n m : ℕ) (s : Step) (role : Role) (found : ℕ) (w : Wake) → MayMake s role → ShowsWake w role →
    ShowsWake (wake_after s (reply_of_role n role found) w) (next_role m (slot_of s) role found)
shows_on n m s role found w may shows = grind arith

put_on : (n : ℕ) (s : Step) (role : Role) (found : ℕ) (w : Wake) → MayMake s role → ShowsWake w role →
    put_in_by s (reply_of_role n role found) w ≡ put_by role
put_on n s role found w may shows = grind arith

slot_on : (n : ℕ) (role : Role) (found : ℕ) → slot_named (reply_of_role n role found) ≡ in_hand role
slot_on n role found = grind arith

put_poll : (reply : StepReply) (w : Wake) → put_in_by Poll reply w ≡ []
put_poll reply w = grind arith

right_wake : (n : ℕ) (role : Role) (found : ℕ) (past : List Made) → (IsPolls role → ⊥) → IsRight (reply_of_role n role found) past
right_wake n role found past wakes = grind arith

takes_as : (s : Step) (r : StepReply) (past : List Made) (t now : ℕ) (role : Role) → seat_of s < WAKE_SEATS → (now ≡ t)
    ⊎ WakerStands (record { step = s; reply = r } ∷ past) → TellsRole past t role →
    TellsRole (record { step = s; reply = r } ∷ past) now role
takes_as s r past t now role low or takes = grind arith

-- a step of a wake leaves the tail, or its waker stands so after it
tail_or : (n h : ℕ) (rest : List ℕ) (words : List ℕ) (j : ℕ) (s : Step) (role : Role) (found : ℕ) (w : Wake) →
    FitsRole n words h rest WAKE_SEATS j role → (role ≡ Idle → slot_of s < n) → (IsPolls role → ⊥) →
    ShowsWake (wake_after s (reply_of_role n role found) w) (next_role n (slot_of s) role found)
    → (tail n (set words (word_of_role n (slot_of s) role) (put_by_role n role found)) ≡ tail n words)
    ⊎ ((wake_after s (reply_of_role n role found) w).made ≡ 3)
tail_or n h rest words j s role found w ok lt wakes shows = grind (arith, tail_kept)

moved_on : (p q a b d x : List ℕ) → x ≡ a ++ p → p ++ q ≡ b ++ d → x ++ q ≡ (a ++ b) ++ d
moved_on p q a b d x e f = ap (λ (l : List ℕ). l ++ q) e ∙ (append_assoc a p q ∙ (ap (λ (l : List ℕ). a ++ l) f ∙ sym (append_assoc a b d)))

wake_next : (n : ℕ) (past : List Made) (c : Moment) (good : IsReachable n c) → IsTold n past c good → (s : Step) →
    CanStep n (map role_of c.views) s → seat_of s < WAKE_SEATS → ((IsPolls (view_at c s).role → ⊥) → MayMake s (view_at c s).role) →
    ((view_at c s).role ≡ Idle → slot_of s < n) → StaysTold n past c good s
wake_next n past c good tells s can low may_of lt =
    let seat = seat_of s in let v = view_at c s in let found = found_at n c s in
    let there : get_elem? c.views seat ≡ some v = elem_at c.views seat spent_view (let a = good.1 in omega arith) in
    let ok : FitsRole n c.words good.2.0 good.2.1 WAKE_SEATS seat v.role = (good.2.2.seats seat v there).0 in
    let wakes : IsPolls v.role → ⊥ = wakes_only n c.words good.2.0 good.2.1 WAKE_SEATS seat v.role (λ z. omega arith) ok in
    let may = may_of wakes in
    let stub : v.stub ≡ n = good.0 seat v there in
    let goes_there = step_reaches n c good s can in
    let e : Made = event n c s in
    let shows = tells.wakes seat low v there in
    let mine : wake_of seat (e ∷ past) ≡ wake_after s e.reply (wake_of seat past) = wake_same seat e past refl in
    let shows_now = shows_on n n s v.role found (wake_of seat past) may shows in
    let or = tail_or n good.2.0 good.2.1 c.words seat s v.role found (wake_of seat past) ok lt wakes shows_now in (
      right_wake n v.role found past wakes,
      (
        goes_there.0,
        record {
          wakes = λ j lj u at. ⊎_elim
              (λ (t : (j ≡ seat) × (next_view (slot_of s) v found ≡ u)).
              subst (λ (y : ℕ × View). ShowsWake (wake_of y.0 (e ∷ past)) y.1.role) (λ k. (sym t.0 k, t.1 k))
              (subst (λ (w : Wake). ShowsWake w (next_role v.stub (slot_of s) v.role found)) (sym mine)
              (shows_on n v.stub s v.role found (wake_of seat past) may shows)))
              (λ (t : (j ≢ seat) × (get_elem? c.views j ≡ some u)). subst (λ (w : Wake). ShowsWake w u.role)
              (sym (wake_else j e past (λ z. t.0 (sym z)))) (tells.wakes j lj u t.1))
              (at_set c.views seat j (next_view (slot_of s) v found) u at);
          flow = (λ k. put_in past ++ put_on n s v.role found (wake_of seat past) may shows k)
              ∙ (moved_on (pending n c good) (put_by v.role) (answered past) (in_hand v.role)
              (pending n (after_step n c s) goes_there.0) (put_in past) tells.flow goes_there.1
              ∙ (λ k. (answered past ++ sym (slot_on n v.role found) k) ++ pending n (after_step n c s) goes_there.0));
          takes = λ u at. takes_as s e.reply past (tail n c.words) (tail n (after_step n c s).words) u.role low
              (⊎_elim (λ (t : tail n (set c.words (word_of_role n (slot_of s) v.role) (put_by_role n v.role found)) ≡ tail n c.words). inl
              t)
              (λ (t : (wake_after s (reply_of_role n v.role found) (wake_of seat past)).made ≡ 3). inr
              (seat, low, ap (λ (w : Wake). w.made) mine ∙ t)) or)
              (tells.takes u (sym (set_else c.views seat WAKE_SEATS (next_view (slot_of s) v found) (λ z. omega arith)) ∙ at));
        },
      ),
    )

-- a step of the poller
module _ {n h : ℕ} {rest : List ℕ} {words : List ℕ} {views : List View} (R : KeepsRow n h rest WAKE_SEATS words views)
    (steps : List AtomicStep) (past : List Made) (stands : SomeWakerStands views → WakerStands past) where
  abbrev now_tail : Phase → ℕ → ℕ
  now_tail phase f = tail n (set words (word_of_role n 0 (Polls h phase)) (put_by_role n (Polls h phase) f))

  abbrev made : Phase → ℕ → Made
  made phase f = record { step = Poll; reply = reply_of_role n (Polls h phase) f }

  abbrev Case : Phase → ℕ → Type 0
  Case phase f = IsRight (reply_of_role n (Polls h phase) f) past
      × TellsRole (made phase f ∷ past) (now_tail phase f) (next_role n 0 (Polls h phase) f)

  -- where the link of the head names none, it is the last, or some waker stands so
  none_behind : (phase : Phase) → get_elem? views WAKE_SEATS ≡ some (record { stub = n; role = Polls h phase; steps = steps }) →
      owed_by h (Polls h phase) ≡ 0 → link n words h ≡ 0 → (x : ℕ) → (WakerStands past ⊎ WakerStood past)
      ⊎ (tail n (set words (n + h) x) ≡ h)
  none_behind phase at owes zero_link x =
      let low = head_low R in let or = row_ends_or_waker_stands R steps phase at owes zero_link in grind (arith, tail_kept)

  poll_case : (phase : Phase) → get_elem? views WAKE_SEATS ≡ some (record { stub = n; role = Polls h phase; steps = steps }) →
      TellsPhase past (tail n words) h phase
      → put_in past ≡ answered past ++ (in_hand (Polls h phase) ++ row_slots n (h ∷ rest)) → (f : ℕ) →
      f ≡ get_or words (word_of_role n 0 (Polls h phase)) 0 → Case phase f
  poll_case Start at takes flow zero is = let or = none_behind Start at refl (sym is) 0 in grind arith
  poll_case Start at takes flow (suc q) is = grind arith
  poll_case AtStub at takes flow f is =
      let at_stub : h ≡ n = (R.seats WAKE_SEATS _ at).0.2 in let ends = R.ends in let once = R.stub_once in
      grind (arith, alone, slots_stub, append-nil)
  poll_case Moved at takes flow zero is = (tt, (tt, none_behind Moved at refl (sym is) 0))
  poll_case NoNext at takes flow f is = grind arith
  poll_case StubLinked at takes flow zero is =
      let ok = (R.seats WAKE_SEATS _ at).0.2 in let or = row_ends_or_waker_stands R steps StubLinked at refl (sym is) in
      grind arith
  poll_case phase at takes flow f is = (tt, tt)

poll_next : (n : ℕ) (past : List Made) (c : Moment) (good : IsReachable n c) → IsTold n past c good → StaysTold n past c good Poll
poll_next n past c good tells =
    let h = good.2.0 in let polls = good.2.3 in let phase = polls.0 in
    let v = view_at c Poll in
    let p : View = record { stub = n; role = Polls h phase; steps = polls.1 } in
    let there : get_elem? c.views WAKE_SEATS ≡ some v = elem_at c.views WAKE_SEATS spent_view (let a = good.1 in omega arith) in
    let same_v : p ≡ v = some-injective p v (sym polls.2 ∙ there) in
    let goes_there = step_reaches n c good Poll tt in
    let f : ℕ = get_or c.words (word_of_role n 0 p.role) 0 in
    let case = poll_case good.2.2 polls.1 past (stands_told n past c good tells) phase polls.2 (tells.takes p polls.2) tells.flow f refl in
    let finds : View → ℕ = λ u. get_or c.words (word_of_role n 0 u.role) 0 in
    let Right : View → Type 0 = λ u. IsRight (reply_of_role n u.role (finds u)) past
    × TellsRole (record { step = Poll; reply = reply_of_role n u.role (finds u) } ∷ past)
    (tail n (set c.words (word_of_role n 0 u.role) (put_by_role n u.role (finds u)))) (next_role n 0 u.role (finds u)) in
    let right : Right v = subst Right same_v case in
    let stub : n ≡ v.stub = ap (λ (u : View). u.stub) same_v in
    let found = found_at n c Poll in
    let e : Made = event n c Poll in
    let no_put : put_by v.role ≡ [] = ap (λ (u : View). put_by u.role) (sym same_v) in (
      right.0,
      (
        goes_there.0,
        record {
          wakes = λ j lj u at. subst (λ (w : Wake). ShowsWake w u.role) (sym (wake_else j e past (λ z. omega arith)))
              (tells.wakes j lj u (sym (set_else c.views WAKE_SEATS j (next_view 0 v found) (λ z. omega arith)) ∙ at));
          flow = (λ k. put_in past ++ (put_poll e.reply (wake_of WAKE_SEATS past) ∙ sym no_put) k)
              ∙ (moved_on (pending n c good) (put_by v.role) (answered past) (in_hand v.role)
              (pending n (after_step n c Poll) goes_there.0) (put_in past) tells.flow goes_there.1
              ∙ (λ k. (answered past ++ sym (slot_on n v.role found) k) ++ pending n (after_step n c Poll) goes_there.0));
          takes = λ u at. subst (λ (y : View). TellsRole (e ∷ past) (tail n (after_step n c Poll).words) y.role)
              (some-injective (next_view 0 v found) u
              (sym (set_here c.views WAKE_SEATS (next_view 0 v found) (place_low c.views WAKE_SEATS v there)) ∙ at))
              (subst (λ (m : ℕ). TellsRole (e ∷ past) (tail n (after_step n c Poll).words) (next_role m 0 v.role found)) stub right.1);
        },
      ),
    )

next_here : (n : ℕ) (past : List Made) (c : Moment) (good : IsReachable n c) → IsTold n past c good → (s : Step) →
    CanStep n (map role_of c.views) s → StaysTold n past c good s
next_here n past c good tells (Mark seat slot) can = wake_next n past c good tells (Mark seat slot) can can.0
    (λ wakes. sym (get_or-map role_of c.views seat spent_view) ∙ can.2) (λ _. can.1)
next_here n past c good tells (Go seat) can = wake_next n past c good tells (Go seat) can can.0
    (λ wakes. ((λ e. can.1 (get_or-map role_of c.views seat spent_view ∙ e)), wakes))
    (λ e. absurd (can.1 (get_or-map role_of c.views seat spent_view ∙ e)))
next_here n past c good tells Poll can = poll_next n past c good tells

-- what holds of each turn
abbrev pub Lawful : List Made → Type 0
Lawful history = AnswersInOrder history × EmptyIsTrue history × PauseHasCause history

lawful_from : (P : List Made → Type 0) → ((history : List Made) → Lawful history → P history) → (n : ℕ) (past : List Made) (c : Moment)
    (good : IsReachable n c) → IsTold n past c good → (ss : List Step) → Legal n c ss → AfterEach P past ss (replies_of n c ss)
lawful_from P f n past c good tells [] legal = tt
lawful_from P f n past c good tells (s ∷ ss) legal =
    let one = next_here n past c good tells s legal.0 in
    let t : Made = event n c s in
    let right : (r : StepReply) → t.reply ≡ r → IsRight r past = λ r is. subst (λ (x : StepReply). IsRight x past) is one.0 in (
      f (t ∷ past) ((pending n (after_step n c s) one.1.0, one.1.1.flow), right (Taken Empty), right (Taken Pause)),
      lawful_from P f n (t ∷ past) (after_step n c s) one.1.0 one.1.1 ss legal.1,
    )

-- so what follows from the laws holds after each step
pub lawful : (P : List Made → Type 0) → ((history : List Made) → Lawful history → P history) → (n : ℕ) (ss : List Step) →
    Legal n (at_start n) ss → AfterEach P [] ss (replies_of n (at_start n) ss)
lawful P f n ss legal = lawful_from P f n [] (at_start n) (reachable_start n) (record {
  wakes = λ j lj v at. each_first WAKE_SEATS n (λ j v. ShowsWake (wake_of j []) v.role) (λ j l. tt) tt j v at;
  flow = sym (slots_stub n n [] refl);
  takes = each_first WAKE_SEATS n (λ j v. TellsRole [] (tail n (at_start n).words) v.role) (λ j l. tt) tt WAKE_SEATS;
}) ss legal
