-- Each kind of step keeps the row (`KeepsRow`).
use Rattle.futures_buffered_table.proofs.Common.{◌≡◌, ◌≢◌, ℕ, suc, ◌+◌, ◌<◌, ◌≤◌, List, [], ◌∷◌, length, set, get_or, refl, sym, ap, ◌∙◌, ⊎_elim, arith, ◌⊎◌, ◌++◌, subst, length-set, get_or-set_other, get_or-set_same, AtomicStep, Phase, StubCleared, StubPut, Role, Cleared, Swapped, Polls, View, IsLinked, last_entry, next, owed, owed_by, same, times, total, FitsPhase, FitsRole, KeepsRow, outside, outside_by, empty_words, link, mark, tail, tail_at, is_unmark, is_win, unmarks, wins, first_poller, first_views, new_waker_beside, at_set, some, get_elem?}
use Rattle.std.proofs.Common.{length-append}
use Rattle.futures_buffered_table.proofs.RowLemmas.{last_in, last_snoc, next_absent, next_kept, next_last, next_later, next_put, next_stays, same_cases, same_else, same_here, times_snoc, total-append, total_at, total_set, total_none}
use Rattle.futures_buffered_table.proofs.ViewLemmas.{each_first}
use Rattle.futures_buffered_table.proofs.WordsLemmas.{empty_word, empty_tail, empty_wide}

one : (i : ℕ) → 0 < same i i
one i = omega (arith, same_here i)

pub here : (h : ℕ) (rest : List ℕ) → 0 < times h (h ∷ rest)
here h rest = let a = same_here h in omega arith

-- what a seat knows stays true where the links that it cleared stay clear, the gap that it made stays, and the head too
module _ (n : ℕ) (words now : List ℕ) (h : ℕ) (rest : List ℕ) (h' : ℕ) (rest' : List ℕ) where
  phase_moves : (phase : Phase) (head : ℕ)
      → ((i : ℕ) → i ≤ n → 0 < outside_by n i (Polls head phase) → link n words i ≡ 0 → link n now i ≡ 0)
      → ((p i : ℕ) → 0 < owed_by p (Polls head phase) → next p h rest ≡ suc i → next p h' rest' ≡ suc i)
      → h ≡ h' → length rest ≤ length rest' → FitsPhase n words h rest phase → FitsPhase n now h' rest' phase
  phase_moves StubCleared head f g e more ok = (omega arith, f n (omega arith) (one n) ok.1)
  phase_moves (StubPut p) head f g e more ok = (omega arith, ok.1, g p n (one p) ok.2)
  phase_moves phase head f g e more ok = omega arith

  pub role_moves : (poller j : ℕ) (role : Role)
      → ((i : ℕ) → i ≤ n → 0 < outside_by n i role → link n words i ≡ 0 → link n now i ≡ 0)
      → ((p i : ℕ) → 0 < owed_by p role → next p h rest ≡ suc i → next p h' rest' ≡ suc i)
      → (j ≡ poller → (h ≡ h') × (length rest ≤ length rest')) → FitsRole n words h rest poller j role →
      FitsRole n now h' rest' poller j role
  role_moves poller j (Cleared i) f g k ok = (ok.0, f i (let a = ok.0 in omega arith) (one i) ok.1)
  role_moves poller j (Swapped i p) f g k ok = (ok.0, ok.1, g p i (one p) ok.2)
  role_moves poller j (Polls head phase) f g k ok = (ok.0, ok.1 ∙ (k ok.0).0, phase_moves phase head f g (k ok.0).0 (k ok.0).1 ok.2)
  role_moves poller j role f g k ok = ok

-- a seat fits the row, and does not unmark unless it polls
abbrev pub SeatFits : ℕ → List ℕ → ℕ → List ℕ → ℕ → ℕ → View → Type 0
SeatFits n words h rest poller j v = FitsRole n words h rest poller j v.role × (j ≢ poller → (e : ℕ) → unmarks e v.steps ≡ 0)

-- no entry, and the entry i alone
abbrev pub no : ℕ → ℕ
no e = 0

abbrev pub only : ℕ → ℕ → ℕ
only i e = same e i

-- a step m from the role `old` to the role `new`: what the seat has outside the row, and owes, before and after it; what it wins and unmarks
pub record Turns (n : ℕ) (old new : Role) (m : AtomicStep) (out now_out owes now_owes won undone : ℕ → ℕ) : Type 0 where
  pub was_out : (e : ℕ) → outside_by n e old ≡ out e
  pub is_out : (e : ℕ) → outside_by n e new ≡ now_out e
  pub was_owed : (p : ℕ) → owed_by p old ≡ owes p
  pub is_owed : (p : ℕ) → owed_by p new ≡ now_owes p
  pub wins_it : (e : ℕ) → is_win e m ≡ won e
  pub undoes_it : (e : ℕ) → is_unmark e m ≡ undone e

module _ {n h : ℕ} {rest : List ℕ} {poller : ℕ} {words : List ℕ} {views : List View} (R : KeepsRow n h rest poller words views) where
  pub head_low : h ≤ n
  head_low = (R.linked h (here h rest)).0

  pub tail_low : tail n words ≤ n
  tail_low = (R.linked (tail n words) (subst (λ (q : ℕ). 0 < times q (h ∷ rest)) R.ends (last_in h rest))).0

  -- a link of the head that is set points to the next entry, and no seat owes it
  pub follows : (q : ℕ) → link n words h ≡ suc q → (next h h rest ≡ suc q) × (owed views h ≡ 0)
  follows q is = let at_h = (R.linked h (here h rest)).1 in grind arith

  -- an entry is in the row, or with a seat
  once : (e : ℕ) → e ≤ n → times e (h ∷ rest) + outside n views e ≤ 1
  once e le = ⊎_elim (λ (lt : e < n). let a = R.whereabouts e lt in omega arith)
      (λ (is : e ≡ n). subst (λ (x : ℕ). times x (h ∷ rest) + outside n views x ≤ 1) (sym is) R.stub_once) (below_or_stub e le)
    where
      below_or_stub : (e : ℕ) → e ≤ n → (e < n) ⊎ (e ≡ n)
      below_or_stub e le = grind arith

  -- the seat id, in the role `old`, makes the step m and then is in the role `new`
  module _ (id : ℕ) (steps : List AtomicStep) {old : Role} (new : Role) (m : AtomicStep)
      (at : get_elem? views id ≡ some (record { stub = n; role = old; steps = steps })) (by_poller : id ≢ poller → (e : ℕ) → is_unmark e m ≡ 0)
    where
      abbrev after : View
      after = record { stub = n; role = new; steps = steps ++ m ∷ [] }

      abbrev seen : List View
      seen = set views id after

      owed_now : (p : ℕ) → owed seen p + owed_by p old ≡ owed views p + owed_by p new
      owed_now p = total_set (λ (u : View). owed_by p u.role) views id _ after at

      out_now : (e : ℕ) → outside n seen e + outside_by n e old ≡ outside n views e + outside_by n e new
      out_now e = total_set (λ (u : View). outside_by n e u.role) views id _ after at

      -- an entry that the seat has is not in the row
      absent : (i : ℕ) → i ≤ n → outside_by n i old ≡ same i i → times i (h ∷ rest) ≡ 0
      absent i le has = let a = once i le in let b = total_at (λ (u : View). outside_by n i u.role) views id _ at in let d = same_here i in omega arith

      counted : (f : AtomicStep → ℕ) → total (λ (u : View). total f u.steps) seen ≡ total (λ (u : View). total f u.steps) views + f m
      counted f =
          let a = total_set (λ (u : View). total f u.steps) views id _ after at in
          let b = total-append f steps (m ∷ []) in omega arith

      tallied_now : (now : List ℕ) → ((e : ℕ) → e < n → is_win e m + mark words e ≡ is_unmark e m + mark now e) → (e : ℕ) → e < n →
          total (λ (u : View). wins e u.steps) seen ≡ total (λ (u : View). unmarks e u.steps) seen + mark now e
      tallied_now now even e lt = let a = counted (is_win e) in let b = counted (is_unmark e) in let c = R.tallied e lt in let d = even e lt in omega arith

      seats_now : (now : List ℕ) (h' : ℕ) (rest' : List ℕ)
          → ((i : ℕ) → i ≤ n → 0 < outside n views i → link n words i ≡ 0 → link n now i ≡ 0)
          → ((p i : ℕ) → 0 < owed views p → next p h rest ≡ suc i → next p h' rest' ≡ suc i)
          → (id ≢ poller → (h ≡ h') × (length rest ≤ length rest'))
          → FitsRole n now h' rest' poller id new
          → (j : ℕ) (u : View) → get_elem? seen j ≡ some u → SeatFits n now h' rest' poller j u
      seats_now now h' rest' f g k mine j u e = ⊎_elim
          (λ (t : (j ≡ id) × (after ≡ u)). subst (λ (y : ℕ × View). SeatFits n now h' rest' poller y.0 y.1) (λ i. (sym t.0 i, t.1 i)) (
            mine,
            λ ne x. let a = (R.seats id _ at).1 ne x in let b = by_poller ne x in omega (arith, total-append (is_unmark x) steps (m ∷ [])),
          ))
          (λ (t : (j ≢ id) × (get_elem? views j ≡ some u)). let was = R.seats j u t.1 in (
            role_moves n words now h rest h' rest' poller j u.role
                (λ i le some_out. f i le (let a = total_at (λ (y : View). outside_by n i y.role) views j u t.1 in omega arith))
                (λ p i some_owed. g p i (let a = total_at (λ (y : View). owed_by p y.role) views j u t.1 in omega arith))
                (λ is. k (λ same_seat. t.0 (is ∙ sym same_seat))) was.0,
            was.1,
          ))
          (at_set views id j after u e)

      -- no word changes
      same_words : ((e : ℕ) → e < n → outside_by n e new ≡ outside_by n e old) → times n (h ∷ rest) + outside n seen n ≤ 1
          → ((p : ℕ) → owed_by p new ≡ owed_by p old) → ((e : ℕ) → is_win e m ≡ 0) → ((e : ℕ) → is_unmark e m ≡ 0)
          → FitsRole n words h rest poller id new → KeepsRow n h rest poller words seen
      same_words same_out stub same_owed no_win no_unmark mine = record {
        wide = R.wide;
        ends = R.ends;
        linked = λ p some_p. grind (arith, owed_now);
        unowed = λ p none. grind (arith, owed_now);
        whereabouts = λ e lt. grind (arith, out_now);
        stub_once = stub;
        seats = seats_now words h rest (λ i _ _ z. z) (λ p i _ z. z) (λ _. (refl, omega arith)) mine;
        tallied = tallied_now words (λ e lt. grind arith);
      }

      -- nothing changes but the role
      pub quiet : Turns n old new m no no no no no no → FitsRole n words h rest poller id new → KeepsRow n h rest poller words seen
      quiet T = same_words (λ e _. T.is_out e ∙ sym (T.was_out e)) (let a = out_now n in let b = T.was_out n in let b' = T.is_out n in
          let c = R.stub_once in omega arith) (λ p. T.is_owed p ∙ sym (T.was_owed p)) T.wins_it T.undoes_it

      -- the poller found itself at the last entry, so the stub is out of the row, and the poller has it then
      pub takes_stub : times n (h ∷ rest) ≡ 0 → outside n views n ≡ 0 → Turns n old new m no (only n) no no no no
          → FitsRole n words h rest poller id new → KeepsRow n h rest poller words seen
      takes_stub free alone T = same_words (λ e lt. let a = T.was_out e in let b = T.is_out e in let c = same_else e n (λ z. omega arith) in omega arith)
          (let a = out_now n in let b = T.is_out n in let c = same_here n in omega arith) (λ p. T.is_owed p ∙ sym (T.was_owed p)) T.wins_it T.undoes_it

      module _ (i x : ℕ) (room : i < n + n + 2) where
        at_i : get_or (set words i x) i 0 ≡ x
        at_i = let r : i < length words = let a = R.wide in omega arith in get_or-set_same words i x 0 r

        off_i : (j : ℕ) → j ≢ i → get_or (set words i x) j 0 ≡ get_or words j 0
        off_i j ne = get_or-set_other words i j x 0 ne

        still_wide : length (set words i x) ≡ n + n + 2
        still_wide = length-set words i x ∙ R.wide

        ends_as : i ≢ tail_at n → last_entry h rest ≡ tail n (set words i x)
        ends_as ne = R.ends ∙ sym (off_i (tail_at n) (λ z. ne (sym z)))

      -- the mark of a slot changes, as what the seat has of it
      sets_mark : (i x : ℕ) → i < n → x ≤ 1 → ((e : ℕ) → e < n → outside_by n e new + mark words e ≡ outside_by n e old + mark (set words i x) e)
          → outside_by n n new ≡ outside_by n n old → ((p : ℕ) → owed_by p new ≡ owed_by p old)
          → ((e : ℕ) → e < n → is_win e m + mark words e ≡ is_unmark e m + mark (set words i x) e) → FitsRole n words h rest poller id new
          → KeepsRow n h rest poller (set words i x) seen
      sets_mark i x lt low outs same_stub same_owed even mine =
          let room : i < n + n + 2 = omega arith in
          let now : List ℕ = set words i x in
          let links : (p : ℕ) → link n now p ≡ link n words p = λ p. off_i i x room (n + p) (λ z. omega arith) in
          record {
            wide = still_wide i x room;
            ends = ends_as i x room (λ z. omega arith);
            linked = λ p some_p. grind (arith, owed_now);
            unowed = λ p none. grind (arith, owed_now);
            whereabouts = λ e lt'. let a = out_now e in let b = outs e lt' in let c = R.whereabouts e lt' in
                let d = at_i i x room in let f = off_i i x room e in let k = same_cases e i in (omega arith, grind arith);
            stub_once = let a = out_now n in let b = R.stub_once in omega arith;
            seats = seats_now now h rest (λ i' _ _ z. links i' ∙ z) (λ p i' _ z. z) (λ _. (refl, omega arith))
                (role_moves n words now h rest h rest poller id new (λ i' _ _ z. links i' ∙ z) (λ p i' _ z. z) (λ _. (refl, omega arith)) mine);
            tallied = tallied_now now even;
          }

      -- a seat wins the mark of a slot that was idle
      pub wins_mark : (i : ℕ) → i < n → mark words i ≡ 0 → Turns n old new m no (only i) no no (only i) no
          → FitsRole n words h rest poller id new → KeepsRow n h rest poller (set words i 1) seen
      wins_mark i lt clear T = sets_mark i 1 lt (omega arith) (λ e lt'. grind (arith, at_i, off_i, same_cases))
          (let a = T.was_out n in let b = T.is_out n in let c = same_else n i (λ z. omega arith) in omega arith) (λ p. T.is_owed p ∙ sym (T.was_owed p))
          (λ e lt'. grind (arith, at_i, off_i, same_cases))

      -- a seat clears the link of an entry outside the row
      pub clears : (i : ℕ) → i ≤ n → Turns n old new m (only i) (only i) no no no no
          → (link n (set words (n + i) 0) i ≡ 0 → FitsRole n (set words (n + i) 0) h rest poller id new)
          → KeepsRow n h rest poller (set words (n + i) 0) seen
      clears i le T mine =
          let room : n + i < n + n + 2 = omega arith in
          let now : List ℕ = set words (n + i) 0 in
          let gone = absent i le (T.was_out i) in
          let links : (p : ℕ) → p ≢ i → link n now p ≡ link n words p = λ p ne. off_i (n + i) 0 room (n + p) (λ z. ne (omega arith)) in
          let marks : (e : ℕ) → e < n → mark now e ≡ mark words e = λ e lt. off_i (n + i) 0 room e (λ z. omega arith) in
          let zeros : (p : ℕ) → link n words p ≡ 0 → link n now p ≡ 0 = λ p z. grind (arith, at_i, links, same_cases) in
          record {
            wide = still_wide (n + i) 0 room;
            ends = ends_as (n + i) 0 room (λ z. omega arith);
            linked = λ p some_p. grind (arith, owed_now);
            unowed = λ p none. grind (arith, owed_now);
            whereabouts = λ e lt. grind (arith, out_now);
            stub_once = let a = out_now n in let b = T.was_out n in let b' = T.is_out n in let c = R.stub_once in omega arith;
            seats = seats_now now h rest (λ p _ _ z. zeros p z) (λ p i' _ z. z) (λ _. (refl, omega arith)) (mine (at_i (n + i) 0 room));
            tallied = tallied_now now (λ e lt. let y = marks e lt in grind arith);
          }

      -- a seat puts its entry in at the end of the row, by a swap of the tail
      pub puts_in : (i : ℕ) → i ≤ n → link n words i ≡ 0 → Turns n old new m (only i) no no (only (tail n words)) no no
          → (tail n words ≤ n → next (tail n words) h (rest ++ i ∷ []) ≡ suc i →
          FitsRole n (set words (tail_at n) i) h (rest ++ i ∷ []) poller id new)
          → KeepsRow n h (rest ++ i ∷ []) poller (set words (tail_at n) i) seen
      puts_in i le clear T mine =
          let room : tail_at n < n + n + 2 = omega arith in
          let now : List ℕ = set words (tail_at n) i in
          let l : ℕ = tail n words in
          let is_last : l ≡ last_entry h rest = sym R.ends in
          let one_last : times l (h ∷ rest) ≤ 1 = let a = once l tail_low in omega arith in
          let last_there : 0 < times l (h ∷ rest) = subst (λ (q : ℕ). 0 < times q (h ∷ rest)) (sym is_last) (last_in h rest) in
          let behind : next l h (rest ++ i ∷ []) ≡ suc i = next_put l h rest i is_last one_last in
          let none_behind : next l h rest ≡ 0 = next_last l h rest is_last one_last in
          let gone = absent i le (T.was_out i) in
          let apart : l ≢ i = λ is. let a : times i (h ∷ rest) ≡ times l (h ∷ rest) = ap (λ (q : ℕ). times q (h ∷ rest)) (sym is) in
          omega arith in
          let links : (p : ℕ) → p ≤ n → link n now p ≡ link n words p = λ p lt. off_i (tail_at n) i room (n + p) (λ z. omega arith) in
          let marks : (e : ℕ) → e < n → mark now e ≡ mark words e = λ e lt. off_i (tail_at n) i room e (λ z. omega arith) in
          let times_now : (p : ℕ) → times p (h ∷ (rest ++ i ∷ [])) ≡ times p (h ∷ rest) + same p i = λ p. times_snoc p (h ∷ rest) i in
          record {
            wide = still_wide (tail_at n) i room;
            ends = last_snoc h rest i ∙ sym (at_i (tail_at n) i room);
            linked = λ p some_p. grind (arith, next_kept, next_absent, owed_now, same_else, same_cases);
            unowed = λ p none. grind (arith, owed_now, same_else);
            whereabouts = λ e lt. grind (arith, out_now);
            stub_once = grind (arith, out_now);
            seats = seats_now now h (rest ++ i ∷ []) (λ p le' _ z. links p le' ∙ z) (λ p q _ z. next_stays p h rest i q z)
                (λ _. (refl, omega (arith, length-append rest (i ∷ [])))) (mine tail_low behind);
            tallied = tallied_now now (λ e lt. let y = marks e lt in grind arith);
          }

      -- a seat writes the link that it owes
      pub links_up : (i p : ℕ) → i ≤ n → p ≤ n → next p h rest ≡ suc i → Turns n old new m no no (only p) no no no
          → FitsRole n (set words (n + p) (suc i)) h rest poller id new → KeepsRow n h rest poller (set words (n + p) (suc i)) seen
      links_up i p le lep after T mine =
          let room : n + p < n + n + 2 = omega arith in
          let now : List ℕ = set words (n + p) (suc i) in
          let owes : 0 < owed views p = let a = total_at (λ (u : View). owed_by p u.role) views id _ at in let b = T.was_owed p in
          let c = same_here p in omega arith in
          let there : 0 < times p (h ∷ rest) = in_row owes in
          let links : (q : ℕ) → q ≢ p → link n now q ≡ link n words q = λ q ne. off_i (n + p) (suc i) room (n + q) (λ z. ne (omega arith)) in
          let marks : (e : ℕ) → e < n → mark now e ≡ mark words e = λ e lt. off_i (n + p) (suc i) room e (λ z. omega arith) in
          record {
            wide = still_wide (n + p) (suc i) room;
            ends = ends_as (n + p) (suc i) room (λ z. omega arith);
            linked = λ q some_q. grind (arith, owed_now, at_i, same_cases);
            unowed = λ q none. let a = owed_now q in let b = T.was_owed q in let c = T.is_owed q in let d = R.unowed q none in omega arith;
            whereabouts = λ e lt. grind (arith, out_now);
            stub_once = let a = out_now n in let b = T.was_out n in let b' = T.is_out n in let c = R.stub_once in omega arith;
            seats = seats_now now h rest (λ q leq some_out z. links q (λ is. let a = once q leq in
                let b : times q (h ∷ rest) ≡ times p (h ∷ rest) = ap (λ (y : ℕ). times y (h ∷ rest)) is in
                omega arith) ∙ z) (λ q j _ z. z) (λ _. (refl, omega arith)) mine;
            tallied = tallied_now now (λ e lt. let y = marks e lt in grind arith);
          }
        where
          in_row : 0 < owed views p → 0 < times p (h ∷ rest)
          in_row owes = let a = R.unowed p in grind arith

      -- the poller takes a slot out of its hand: the slot is idle again
      pub unmarks_slot : (i : ℕ) → i < n → Turns n old new m (only i) no no no no (only i)
          → FitsRole n words h rest poller id new → KeepsRow n h rest poller (set words i 0) seen
      unmarks_slot i lt T =
          let was_set : mark words i ≡ 1 = let a = R.whereabouts i lt in let b = total_at (λ (u : View). outside_by n i u.role) views id _ at in
          let c = T.was_out i in let d = same_here i in omega arith in
          sets_mark i 0 lt (omega arith) (λ e lt'. grind (arith, at_i, off_i, same_cases))
          (let a = T.was_out n in let b = T.is_out n in let c = same_else n i (λ z. omega arith) in omega arith) (λ p. T.is_owed p ∙ sym (T.was_owed p))
          (λ e lt'. grind (arith, at_i, off_i, same_cases))

-- the poller's head moves on to the entry that its link names; where it was a slot, the poller has it then
pub goes_on : {n h q : ℕ} {rest : List ℕ} {poller : ℕ} {words : List ℕ} {views : List View} (R : KeepsRow n h (q ∷ rest) poller words views)
    (steps : List AtomicStep) {old : Role} (new : Role) (m : AtomicStep) → get_elem? views poller ≡ some (record { stub = n; role = old; steps = steps })
    → link n words h ≢ 0 → Turns n old new m no (λ e. outside_by n e new) no no no no
    → ((e : ℕ) → e < n → outside_by n e new ≡ same e h) → outside_by n n new ≡ 0
    → (q ≤ n → q ≢ h → h ≤ n → FitsRole n words q rest poller poller new)
    → KeepsRow n q rest poller words (set views poller (record { stub = n; role = new; steps = steps ++ m ∷ [] }))
goes_on {n} {h} {q} {rest} {poller} {words} {views} R steps {old} new m at named T new_out new_out_stub mine =
    let by_poller : poller ≢ poller → (e : ℕ) → is_unmark e m ≡ 0 = λ ne. absurd (ne refl) in
    let owed_is = owed_now R poller steps new m at by_poller in
    let out_is = out_now R poller steps new m at by_poller in
    let at_h = R.linked h (here h (q ∷ rest)) in
    let gone : times h (q ∷ rest) ≡ 0 = let a = same_here h in let b = once R h at_h.0 in omega arith in
    let next_there : 0 < times q (h ∷ q ∷ rest) = let a = same_here q in omega arith in
    let no_debt : owed views h ≡ 0 = ⊎_elim (λ (y : (link n words h ≡ next h h (q ∷ rest))
    × (owed views h ≡ 0)). y.1) (λ (y : (link n words h ≡ 0) × (owed views h ≡ 1)
    × (0 < next h h (q ∷ rest))). absurd (named y.0)) at_h.1 in
    let apart : (p : ℕ) → 0 < times p (q ∷ rest) →
    p ≢ h = λ p some_p is. let a : times p (q ∷ rest) ≡ times h (q ∷ rest) = ap (λ (y : ℕ). times y (q ∷ rest)) is in omega arith in
    record {
      wide = R.wide;
      ends = R.ends;
      linked = λ p some_p. let was = R.linked p (omega arith) in let a = owed_is p in let b = T.was_owed p in let c = T.is_owed p in (
        was.0,
        subst (λ (z : ℕ × ℕ). IsLinked z.0 (link n words p) z.1)
            (λ k. (next_later p h q rest (apart p some_p) k, (let o : owed views p ≡ owed (seen R poller steps new m at by_poller) p = omega arith in o) k)) was.1,
      );
      unowed = λ p none. grind arith;
      whereabouts = λ e lt. grind arith;
      stub_once = let a = out_is n in let b = T.was_out n in let c = R.stub_once in omega arith;
      seats = seats_now R poller steps new m at by_poller words q rest (λ i _ _ z. z)
          (λ p i some_owed z. let ne : p ≢ h = λ is. let d : owed views p ≡ owed views h = ap (owed views) is in omega arith in
          sym (next_later p h q rest ne) ∙ z)
          (λ ne. absurd (ne refl)) (mine (R.linked q next_there).0 (apart q (let a = same_here q in omega arith)) at_h.0);
      tallied = tallied_now R poller steps new m at by_poller words (λ e lt. grind arith);
    }

-- the row of an empty list, with so many wake seats
pub keeps_first : (count n : ℕ) → KeepsRow n n [] count (empty_words n) (first_views count n)
keeps_first count n = record {
  wide = empty_wide n;
  ends = sym (empty_tail n);
  linked = λ p there. grind (arith, empty_word, no_owed, same_cases);
  unowed = λ p none. no_owed p;
  whereabouts = λ e lt. grind (arith, empty_word, same_else, no_out);
  stub_once = let a = same_here n in let d = no_out n in omega arith;
  seats = each_first count n (SeatFits n (empty_words n) n [] count) (λ j lt. (tt, λ ne e. refl))
      ((refl, refl, (let a : n ≤ n = omega arith in a)), λ ne e. refl);
  tallied = λ e lt. grind (arith, empty_word, none_of);
}
  where
    none_of : (f : View → ℕ) → f (new_waker_beside (first_poller n)) ≡ 0 → f (first_poller n) ≡ 0 → total f (first_views count n) ≡ 0
    none_of f wakes polls = total_none f (first_views count n) (each_first count n (λ j v. f v ≡ 0) (λ j l. wakes) polls)

    no_out : (e : ℕ) → outside n (first_views count n) e ≡ 0
    no_out e = none_of (λ v. outside_by n e v.role) refl refl

    no_owed : (p : ℕ) → owed (first_views count n) p ≡ 0
    no_owed p = none_of (λ v. owed_by p v.role) refl refl
