-- A list begins with its row, full or not: a full list has the words and the steps that wakes of its slots, in order,
-- leave.
use Rattle.futures_buffered_table.proofs.Common.{◌≡◌, ◌≢◌, ℕ, zero, suc, ◌+◌, ◌<◌, ◌≤◌, List, [], ◌∷◌, ◌++◌, Bool, true, false, length, get_or, set, refl, sym, ap, ◌∙◌, subst, ⊎_elim, arith, append_assoc, length-set, get_or-set_other, get_or-set_same, AtomicStep, MarkSwap, LinkClear, TailSwap, LinkWrite, Role, Idle, Won, Cleared, Swapped, View, owed_by, total, outside_by, empty_words, link, mark, tail, tail_at, is_unmark, unmarks, wins, next_role, put_by_role, step_of_role, word_of_role, first_poller, HoldsRow, Me, TableId, at_set, at_snoc, set-get_or, some, some-injective, some-ne-none, get_elem?, Splits, ListKey, all_wakes, entry_before, first_view, full_words, steps_at_first, wake_in_order, wakes_in_order, words_at_first, words_in_order, KeepsPoller, KeepsWaker, waker_with_steps_of, without_steps}
use Rattle.futures_buffered_table.proofs.EffectLemmas.{IsPolls, wake_keeps}
use Rattle.futures_buffered_table.proofs.RowLemmas.{total-append, total_set}
use Rattle.futures_buffered_table.proofs.RowInvariantLemmas.{SeatFits}
use Rattle.futures_buffered_table.proofs.RuleLemmas.{begins_at, grows, same_sums}
use Rattle.futures_buffered_table.proofs.WordsLemmas.{empty_tail, empty_wide, empty_word}

entry_low : (n k : ℕ) → k < n → entry_before n k ≤ n
entry_low n zero lt = omega arith
entry_low n (suc k) lt = omega arith

entry_apart : (n k e : ℕ) → k < e → e < n → e ≢ entry_before n k
entry_apart n zero e later lt = λ is. omega arith
entry_apart n (suc k) e later lt = λ is. omega arith

pub wide_in_order : (n k : ℕ) → length (words_in_order n k) ≡ n + n + 2
wide_in_order n zero = empty_wide n
wide_in_order n (suc k) = grind (arith, length-set, wide_in_order n k)

-- a word that the wake of slot k leaves
unwritten : (n k i : ℕ) → i ≢ k → i ≢ tail_at n → i ≢ n + entry_before n k →
    get_or (words_in_order n (suc k)) i 0 ≡ get_or (words_in_order n k) i 0
unwritten n k i not_mark not_tail not_link = get_or-set_other _ (n + entry_before n k) i (suc k) 0 not_link
    ∙ (get_or-set_other _ (tail_at n) i k 0 not_tail ∙ get_or-set_other _ k i 1 0 not_mark)

-- a slot that is not woken yet has no mark and no link
still_clear : (n k e : ℕ) → k ≤ e → e < n → (mark (words_in_order n k) e ≡ 0) × (link n (words_in_order n k) e ≡ 0)
still_clear n zero e le lt = (empty_word n e (omega arith), empty_word n (n + e) (omega arith))
still_clear n (suc k) e le lt =
    let was = still_clear n k e (omega arith) lt in let apart = entry_apart n k e (omega arith) lt in
    let low = entry_low n k (omega arith) in (
      unwritten n k e (λ z. omega arith) (λ z. omega arith) (λ z. omega arith) ∙ was.0,
      unwritten n k (n + e) (λ z. omega arith) (λ z. omega arith) (λ z. apart (omega arith)) ∙ was.1,
    )

-- the tail names the slot that was woken last
tail_in_order : (n k : ℕ) → k ≤ n → tail n (words_in_order n k) ≡ entry_before n k
tail_in_order n zero le = empty_tail n
tail_in_order n (suc k) le =
    let low = entry_low n k (omega arith) in let wide = wide_in_order n k in
    let room : tail_at n < length (set (words_in_order n k) k 1) = let a = length-set (words_in_order n k) k 1 in omega arith in
    get_or-set_other _ (n + entry_before n k) (tail_at n) (suc k) 0 (λ z. omega arith) ∙ get_or-set_same _ (tail_at n) k 0 room

four_more : (s : List AtomicStep) (a b c d : AtomicStep) →
    (((s ++ a ∷ []) ++ b ∷ []) ++ c ∷ []) ++ d ∷ [] ≡ s ++ a ∷ b ∷ c ∷ d ∷ []
four_more s a b c d = grind (arith, append_assoc)

-- a list over these words, of which one wake seat in this role made these steps, and no other seat a step
abbrev HoldsBy : ℕ → Role → List ℕ → List AtomicStep → Type 0
HoldsBy n role words steps =
    HoldsRow n record { words = words; homes = []; views = first_poller n ∷ record { stub = n; role = role; steps = steps } ∷ [] }

-- that seat makes a step of a wake of slot k
makes : (n k : ℕ) (role : Role) (words : List ℕ) (steps : List AtomicStep) → (role ≡ Idle → k < n) →
    (IsPolls role → ⊥) → HoldsBy n role words steps →
    (found : ℕ) → found ≡ get_or words (word_of_role n k role) 0 →
    HoldsBy n (next_role n k role found) (set words (word_of_role n k role) (put_by_role n role found))
    (steps ++ step_of_role n k role found ∷ [])
makes n k role words steps lt wakes held found is =
    let now = wake_keeps held.3 1 steps k role lt wakes refl found is in (now.0, now.1, held.2, now.2)

-- that seat wakes slot k
wakes_one : (n k : ℕ) → k < n → HoldsBy n Idle (words_in_order n k) (wakes_in_order n k) →
    HoldsBy n Idle (words_in_order n (suc k)) (wakes_in_order n (suc k))
wakes_one n k lt held =
    let p : ℕ = entry_before n k in let words : List ℕ = words_in_order n k in let steps : List AtomicStep = wakes_in_order n k in
    let clear = still_clear n k k (omega arith) lt in
    let marked : List ℕ = set words k 1 in
    let no_link : get_or marked (n + k) 0 ≡ 0 = get_or-set_other words k (n + k) 1 0 (λ z. omega arith) ∙ clear.1 in
    let last : get_or marked (tail_at n) 0 ≡ p = get_or-set_other words k (tail_at n) 1 0 (λ z. omega arith) ∙ tail_in_order n k (omega arith) in
    let won = makes n k Idle words steps (λ _. lt) (λ z. z) held 0 (sym clear.0) in
    let cleared = makes n k (Won k) marked (steps ++ MarkSwap k 0 ∷ []) (λ e. absurd cc) (λ z. z) won _ refl in
    let same : set marked (n + k) 0 ≡ marked = subst (λ (x : ℕ). set marked (n + k) x ≡ marked) no_link (set-get_or marked (n + k) 0) in
    let unlinked = subst (λ (ws : List ℕ). HoldsBy n (Cleared k) ws ((steps ++ MarkSwap k 0 ∷ []) ++ LinkClear k ∷ [])) same cleared in
    let swapped = makes n k (Cleared k) marked ((steps ++ MarkSwap k 0 ∷ []) ++ LinkClear k ∷ []) (λ e. absurd cc) (λ z. z) unlinked p
    (sym last) in
    let linked = makes n k (Swapped k p) (set marked (tail_at n) k) (((steps ++ MarkSwap k 0 ∷ []) ++ LinkClear k ∷ []) ++ TailSwap k p ∷ [])
    (λ e. absurd cc) (λ z. z) swapped _ refl in
    subst (HoldsBy n Idle (words_in_order n (suc k)))
    (four_more steps (MarkSwap k 0) (LinkClear k) (TailSwap k p) (LinkWrite p k)) linked

wakes_all : (n k : ℕ) → k ≤ n → HoldsBy n Idle (words_in_order n k) (wakes_in_order n k)
wakes_all n zero le = grows n (first_poller n) record { words = empty_words n; homes = []; views = first_poller n ∷ [] } (begins_at n (empty_words n) refl)
wakes_all n (suc k) le = wakes_one n k (omega arith) (wakes_all n k (omega arith))

-- wakes unmark nothing
pub wakes_unmark_none : (n k e : ℕ) → unmarks e (wakes_in_order n k) ≡ 0
wakes_unmark_none n zero e = refl
wakes_unmark_none n (suc k) e = total-append (is_unmark e) (wakes_in_order n k) (wake_in_order n k) ∙ (let a = wakes_unmark_none n k e in omega arith)

pub first_unmarks_none : (key : ListKey) (e : ℕ) → unmarks e (steps_at_first key) ≡ 0
first_unmarks_none key e = grind (arith, wakes_unmark_none key.capacity key.capacity e)

only_at : {X : Type 0} (P : ℕ → X → Type 0) (v : X) → P 0 v → (j : ℕ) (u : X) → get_elem? (v ∷ []) j ≡ some u → P j u
only_at P v here zero u e = subst (P 0) (some-injective v u e) here
only_at P v here (suc j) u e = absurd (some-ne-none u (sym e))

-- the steps of that seat can be the poller's: the rule sees the sums of all seats
full_begins : (n : ℕ) → HoldsRow n record { words = full_words n; homes = []; views = first_view record { capacity = n; full = true } ∷ [] }
full_begins n =
    let held = wakes_all n n (omega arith) in
    let v : View = first_view record { capacity = n; full = true } in
    let w : View = record { stub = n; role = Idle; steps = all_wakes n } in
    let R = held.3 in
    let now = same_sums R (v ∷ []) (λ e. refl) (λ p. refl) (λ e. omega arith) (λ e. omega arith)
    (only_at (SeatFits n (full_words n) held.0 held.1 held.2) v ((R.seats 0 (first_poller n) refl).0, λ _ e. wakes_unmark_none n n e)) in
    (held.0, held.1, held.2, now)

pub begins : (key : ListKey) (words : List ℕ) → words ≡ words_at_first key →
    HoldsRow key.capacity record { words = words; homes = []; views = first_view key ∷ [] }
begins key words is = subst (λ (ws : List ℕ). HoldsRow key.capacity record { words = ws; homes = []; views = first_view key ∷ [] }) (sym is) (by_full key.full)
  where
    by_full : (full : Bool) → let k : ListKey = record { capacity = key.capacity; full = full } in
        HoldsRow key.capacity record { words = words_at_first k; homes = []; views = first_view k ∷ [] }
    by_full true = full_begins key.capacity
    by_full false = begins_at key.capacity (empty_words key.capacity) refl

pub first_wide : (key : ListKey) → length (words_at_first key) ≡ key.capacity + key.capacity + 2
first_wide key = grind (arith, wide_in_order key.capacity key.capacity, empty_wide key.capacity)

-- a new wake seat takes the steps of a seat that unmarked nothing
pub hands_on : (n id : ℕ) (v : View) → ((e : ℕ) → unmarks e v.steps ≡ 0) → Splits (HoldsRow n) id v (without_steps v) (waker_with_steps_of v)
hands_on n id v none s held at =
    let R = held.3 in
    let left : View = without_steps v in let right : View = waker_with_steps_of v in
    let one : List View = set s.views id left in
    let sums : (f : View → ℕ) → f left + f right ≡ f v → total f (one ++ right ∷ []) ≡ total f s.views = λ f a.
    let x = total_set f s.views id v left at in let y = total-append f one (right ∷ []) in omega arith in
    let now = same_sums R (one ++ right ∷ [])
    (λ e. sums (λ u. outside_by n e u.role) (omega arith)) (λ p. sums (λ u. owed_by p u.role) (omega arith))
    (λ e. sums (λ u. wins e u.steps) (omega arith)) (λ e. sums (λ u. unmarks e u.steps) (omega arith))
    (λ j u e. ⊎_elim
    (λ (t : get_elem? one j ≡ some u). ⊎_elim
    (λ (r : (j ≡ id) × (left ≡ u)). subst (λ (y : ℕ × View). SeatFits n s.words held.0 held.1 held.2 y.0 y.1)
    (λ k. (sym r.0 k, r.1 k)) ((R.seats id v at).0, λ _ x. refl))
    (λ (r : (j ≢ id) × (get_elem? s.views j ≡ some u)). R.seats j u r.1)
    (at_set s.views id j left u t))
    (λ (t : right ≡ u). subst (SeatFits n s.words held.0 held.1 held.2 j) t (tt, λ _ x. none x))
    (at_snoc one right u j e)) in
    (held.0, held.1, held.2, now)

-- the two seats of a new list
module _ (key : ListKey) (table : TableId) (wide : table.words ≡ key.capacity + key.capacity + 2) (was : Me ℕ View)
    (began : was ≡ (first_view key, [])) where
  pub begun_unmarks_none : (e : ℕ) → unmarks e was.0.steps ≡ 0
  begun_unmarks_none e = ap (λ (m : Me ℕ View). unmarks e m.0.steps) began ∙ first_unmarks_none key e

  pub begun_poller : (now : Me ℕ View) → now ≡ (without_steps was.0, was.1) → KeepsPoller table now key.capacity
  begun_poller now split =
      let is : now ≡ (without_steps (first_view key), []) = split ∙ ap (λ (m : Me ℕ View). (without_steps m.0, m.1)) began in
      let stub : now.0.stub ≡ key.capacity = ap (λ (m : Me ℕ View). m.0.stub) is in
      record {
        seat = record { rests = ap (λ (m : Me ℕ View). m.0.role) is; empty = ap (λ (m : Me ℕ View). m.1) is; sized = omega arith };
        low = omega arith;
      }

  pub begun_waker : (now : Me ℕ View) → now ≡ (waker_with_steps_of was.0, []) → KeepsWaker table now
  begun_waker now split =
      let stub : now.0.stub ≡ key.capacity = ap (λ (m : Me ℕ View). m.0.stub) split ∙ ap (λ (m : Me ℕ View). m.0.stub) began in
      record {
        seat = record { rests = ap (λ (m : Me ℕ View). m.0.role) split; empty = ap (λ (m : Me ℕ View). m.1) split; sized = omega arith };
        wakes = λ e. ap (λ (m : Me ℕ View). unmarks e m.0.steps) split ∙ begun_unmarks_none e;
      }
