-- How the line of a run grows, and which numbers the futures of its set hold and give.
use Rattle.fbuf_program.proofs.Common.{◌≡◌, ℕ, zero, suc, ◌+◌, ◌<◌, ◌≤◌, Bool, true, false, cond, eqb, List, [], ◌∷◌, ◌++◌, length, take, get_or, set, append-nil, Option, Some, None, is_some, IfSome, MatchOption, subst, sym, ap, refl, ◌∙◌, arith, inl, inr, Appends-trans, cases_lt, ne_eqb, eq-eqb, take_all, take_more, flat_map_more, map-id, map-range_with_len_more, get_or-range_with_len, length-range_with_len, sum_by-cons, sum_by_push, sum_by-set, sum_by-le-sum_by, sum_by-IsPermutation, flat_map, range_with_len, FoldsTo, Appends, Ready, Pending, Passes, Yields, value_in-with_value, spaced_number, times_in, is_numbered, times_held, AnswersNumber, HoldsNumbers, GaveNumber, GiveNumbers}
use Rattle.std.proofs.lemmas.List.Folds.{sum_by-replicate}
use Rattle.std.specs.List.Sorted.{IsNonDecreasing, IsPermutation}
use Rattle.std.specs.Option.{option_to_list}
use Rattle.futures.specs.declared.task.context.Context.{Context}
use Rattle.futures.specs.declared.task.Poll.{Poll}
use Rattle.futures.specs.Poll.{IfReady, OnPending}
use Rattle.futures.specs.Runs.{After, Within}
use Rattle.futures_buffered_core.specs.SlotMap.{Slots, Inserts, value_in, slot_count}
use Rattle.futures_buffered_core.specs.SlotMap.{held_count, no_slots, with_value, with_slot_freed}
use Rattle.futures_buffered_core.proofs.SlotMapLemmas.{value_within}
use Rattle.futures_buffered_unordered.specs.FuturesUnorderedBounded.{Bounded}
use Rattle.futures_buffered_core.specs.declared.ready_source.ReadySource.{Ghosts as ReadySourceOf}
use Rattle.futures_buffered_unordered.specs.PollsBounded.{PollsBounded, itself}
use Rattle.fbuf_program.specs.declared.threads.AllWakes.{AllWakes}

-- no number stands behind the text yet
pub line_begins : (first now : Option (List ℕ)) (text outputs : List ℕ) → Appends first now text
    → Appends first now (text ++ flat_map spaced_number (take 0 outputs))
line_begins first now text outputs begun = subst (Appends first now) (sym (append-nil text)) begun

-- one more number
pub line_grows : (first now later : Option (List ℕ)) (text outputs : List ℕ) (k : ℕ)
    → k < length outputs → Appends first now (text ++ flat_map spaced_number (take k outputs))
    → Appends now later (spaced_number (get_or outputs k 0))
    → Appends first later (text ++ flat_map spaced_number (take (k + 1) outputs))
line_grows first now later text outputs k below so_far more =
    subst (Appends first later)
    (flat_map_more spaced_number text (take k outputs) (get_or outputs k 0)
    ∙ ap (λ (front : List ℕ). text ++ flat_map spaced_number front)
    (sym (take_more outputs k 0 below)))
    (Appends-trans first now later _ _ so_far more)

-- the end of the line
pub line_ends : (first now later : Option (List ℕ)) (text outputs last : List ℕ) (k : ℕ)
    → length outputs ≤ k → Appends first now (text ++ flat_map spaced_number (take k outputs))
    → Appends now later last
    → Appends first later (text ++ flat_map spaced_number outputs ++ last)
line_ends first now later text outputs last k past so_far more =
    let whole = subst (λ (front : List ℕ). Appends first now (text ++ flat_map spaced_number front))
    (take_all k outputs past) so_far in
    Appends-trans first now later _ _ whole more

-- whether two numbers are one
one_if : (x y : ℕ) → x ≡ y → cond {A = ℕ} (eqb x y) 1 0 ≡ 1
one_if x y same = ap {B = ℕ} (λ b. cond b 1 0) (eq-eqb x y same)

zero_if : (x y : ℕ) → (x ≡ y → ⊥) → cond {A = ℕ} (eqb x y) 1 0 ≡ 0
zero_if x y apart = ap {B = ℕ} (λ b. cond b 1 0) (ne_eqb x y apart)

alike : (x y k : ℕ) → x ≡ y → cond {A = ℕ} (eqb x k) 1 0 ≡ cond (eqb y k) 1 0
alike x y k same = ap {B = ℕ} (λ z. cond (eqb z k) 1 0) same

-- one number more in front
times_in-cons : (x : ℕ) (xs : List ℕ) (k : ℕ)
    → times_in (x ∷ xs) k ≡ cond (eqb x k) 1 0 + times_in xs k
times_in-cons x xs k = sum_by-cons (λ (number : ℕ). cond (eqb number k) 1 0) x xs

times_in-itself : (x : ℕ) (xs : List ℕ) → times_in (x ∷ xs) x ≡ 1 + times_in xs x
times_in-itself x xs = omega (arith, times_in-cons x xs x, one_if x x refl)

-- a number that is less than each of these is none of them
times_in-below : (k : ℕ) (xs : List ℕ) → ((i : ℕ) → i < length xs → k < get_or xs i 0)
    → times_in xs k ≡ 0
times_in-below k [] above = refl
times_in-below k (x ∷ xs) above =
    let first : k < x = above 0 (omega arith) in
    let rest : times_in xs k ≡ 0 = times_in-below k xs (λ i within. above (suc i) (omega arith)) in
    omega (arith, times_in-cons x xs k, zero_if x k (λ e. omega arith), rest)

-- numbers in rising order, as often as those of a range, are that range
rising_range : (a n : ℕ) (xs : List ℕ) → IsNonDecreasing xs
    → ((k : ℕ) → times_in xs k ≡ times_in (range_with_len a n) k) → xs ≡ range_with_len a n
rising_range a zero [] rising same = refl
rising_range a zero (x ∷ xs) rising same = absurd (omega (arith, same x, times_in-itself x xs))
rising_range a (suc n) [] rising same =
    absurd (omega (arith, same a, times_in-itself a (range_with_len (a + 1) n)))
rising_range a (suc n) (x ∷ xs) rising same =
    let range = range_with_len a (suc n) in
    let behind = range_with_len (a + 1) n in
    let first : x ≡ a = elim (cases_lt x a) [
      | inl less ↦
          let none : times_in range x ≡ 0 = times_in-below x range (λ i within.
          omega (arith, length-range_with_len a (suc n), get_or-range_with_len a (suc n) i 0)) in
          absurd (omega (arith, same x, times_in-itself x xs, none))
      | inr past ↦ elim (cases_lt a x) [
        | inl less ↦
            let none : times_in (x ∷ xs) a ≡ 0 = times_in-below a (x ∷ xs) (λ i within.
            omega (arith, rising 0 i 0 (omega arith) within)) in
            absurd (omega (arith, same a, times_in-itself a behind, none))
        | inr equal ↦ omega arith
      ]
    ] in
    let rest : xs ≡ behind = rising_range (a + 1) n xs
    (λ i j d up within. rising (suc i) (suc j) d (omega arith) (omega arith))
    (λ k. omega (arith, same k, times_in-cons x xs k, times_in-cons a behind k, alike x a k first)) in
    ap (λ y. y ∷ xs) first ∙ ap (λ ys. a ∷ ys) rest

-- one number more behind
times_in-range : (n k : ℕ)
    → times_in (range_with_len 0 (n + 1)) k ≡ times_in (range_with_len 0 n) k + cond (eqb n k) 1 0
times_in-range n k =
    let longer : range_with_len 0 (n + 1) ≡ range_with_len 0 n ++ n ∷ [] =
    sym (map-id (range_with_len 0 (n + 1))) ∙ map-range_with_len_more (λ j. j) 0 n n (omega arith)
    ∙ ap (λ front. front ++ n ∷ []) (map-id (range_with_len 0 n)) in
    ap (λ numbers. times_in numbers k) longer
    ∙ sum_by_push (λ (number : ℕ). cond (eqb number k) 1 0) (range_with_len 0 n) n

-- where all slots are free, no number is held
pub HoldsNumbers-none : (R : Type 0) (n : ℕ) → HoldsNumbers {R = R} (no_slots n) []
HoldsNumbers-none R n k =
    omega (
      arith,
      sum_by-replicate (λ (o : Option (AllWakes R)). cond (is_numbered k o) 1 0) n None,
    )

-- a sort, and one after a push
pub sorted_times : (xs sorted : List ℕ) (k : ℕ) → IsPermutation xs sorted
    → times_in sorted k ≡ times_in xs k
sorted_times xs sorted k moved =
    sum_by-IsPermutation (λ (number : ℕ). cond (eqb number k) 1 0) xs sorted moved

pub pushed_times : (xs ys sorted : List ℕ) (x k : ℕ) → ys ≡ xs ++ x ∷ [] → IsPermutation ys sorted
    → times_in sorted k ≡ times_in xs k + times_in (x ∷ []) k
pushed_times xs ys sorted x k is moved =
    omega (
      arith,
      sorted_times ys sorted k moved,
      ap {B = ℕ} (λ numbers. times_in numbers k) is,
      sum_by_push (λ (number : ℕ). cond (eqb number k) 1 0) xs x,
      times_in-cons x [] k,
    )

module _ {R : Type 0} where
  -- another future, or none, in a slot
  times_held-set : (slots : Slots (AllWakes R)) (i : ℕ) (held : Option (AllWakes R))
      (free : List ℕ) (k : ℕ) → i < slot_count slots
      → times_held (record { places = set slots.places i held; free = free }) k
      + cond (is_numbered k (value_in slots i)) 1 0
      ≡ times_held slots k + cond (is_numbered k held) 1 0
  times_held-set slots i held free k within =
      sum_by-set (λ (o : Option (AllWakes R)). cond (is_numbered k o) 1 0)
      slots.places i held None within

  within_slots : (slots : Slots (AllWakes R)) (i : ℕ) (future : AllWakes R)
      → value_in slots i ≡ Some future → i < slot_count slots
  within_slots slots i future held = value_within slots.places i (ap is_some held)

  -- a future of the same number
  times_held-with : (slots : Slots (AllWakes R)) (i : ℕ) (future left : AllWakes R) (k : ℕ)
      → value_in slots i ≡ Some future → left.number ≡ future.number
      → times_held (with_value slots i left) k ≡ times_held slots k
  times_held-with slots i future left k held same =
      let within = within_slots slots i future held in
      omega (
        arith,
        rw held at (times_held-set slots i (Some left) slots.free k within),
        alike left.number future.number k same,
      )

  -- a future less
  times_held-freed : (slots : Slots (AllWakes R)) (i : ℕ) (future : AllWakes R) (k : ℕ)
      → value_in slots i ≡ Some future
      → times_held (with_slot_freed slots i) k + cond (eqb future.number k) 1 0 ≡ times_held slots k
  times_held-freed slots i future k held =
      let within = within_slots slots i future held in
      omega (arith, rw held at (times_held-set slots i None (i ∷ slots.free) k within))

  -- where nothing is held, no number is
  times_held-none : (slots : Slots (AllWakes R)) (k : ℕ) → held_count slots ≡ 0
      → times_held slots k ≡ 0
  times_held-none slots k none =
      omega (
        arith,
        sum_by-le-sum_by (λ (o : Option (AllWakes R)). cond (is_numbered k o) 1 0)
            (λ o. cond (is_some o) 1 0) slots.places counts,
      )
    where
      at_most : (b : Bool) → cond b 1 0 ≤ 1
      at_most true = omega arith
      at_most false = omega arith

      counts : (o : Option (AllWakes R)) → cond (is_numbered k o) 1 0 ≤ cond (is_some o) 1 0
      counts None = omega arith
      counts (Some future) = at_most (eqb future.number k)

  -- the future whose number comes next was put in
  pub HoldsNumbers-push : (old new : Slots (AllWakes R)) (i n : ℕ) (future : AllWakes R)
      → Inserts old i future new → future.number ≡ n
      → HoldsNumbers old (range_with_len 0 n) → HoldsNumbers new (range_with_len 0 (n + 1))
  HoldsNumbers-push old new i n future put is held k =
      let more = rw put.was_empty at (times_held-set old i (Some future) new.free k put.within) in
      let made : times_held new k
      ≡ times_held (record { places = set old.places i (Some future); free = new.free }) k =
      ap (λ (places : List (Option (AllWakes R))).
      times_held (record { places = places; free = new.free }) k) put.now_held in
      omega (arith, times_in-range n k, held k, more, made, alike future.number n k is)

  -- the numbers that came are those that were held, in rising order
  pub all_numbers : (all : List ℕ) (n : ℕ) (first : Option ℕ) (outputs : List ℕ)
      (held left : Slots (AllWakes R)) → HoldsNumbers held (range_with_len 0 n)
      → GaveNumber held first left → HoldsNumbers left outputs
      → ((k : ℕ) → times_in all k ≡ times_in outputs k + times_in (option_to_list first) k)
      → IsNonDecreasing all → all ≡ range_with_len 0 n
  all_numbers all n first outputs held left whole gave rest every rising =
      rising_range 0 n all rising (λ k. omega (arith, whole k, gave k, rest k, every k))

  module _ {S W : Type 0} (can_poll : AllWakes R → Type 0) (source : ReadySourceOf S W) where
    -- one poll of a set of such futures
    abbrev Polls : Bounded (AllWakes R) S → Poll (Option ℕ) → Bounded (AllWakes R) S → Context → Context → Type 0
    Polls = PollsBounded (itself (record { can_poll = can_poll; polled = AnswersNumber })) source

    passed : (names : List ℕ) (old new : Slots (AllWakes R)) (k : ℕ)
        → FoldsTo (Passes AnswersNumber) old names new → times_held new k ≡ times_held old k
    passed [] old new k h = ap (λ slots. times_held slots k) (sym h)
    passed (i ∷ names) old new k h = passed names h.0 new k h.2 ∙ by_value (value_in old i) refl h.1
      where
        by_value : (o : Option (AllWakes R)) → value_in old i ≡ o
            → MatchOption o (h.0 ≡ old) (λ f. (left : AllWakes R)
            × AnswersNumber i f Pending left × (h.0 ≡ with_value old i left))
            → times_held h.0 k ≡ times_held old k
        by_value None e p = ap (λ slots. times_held slots k) p
        by_value (Some f) e p =
            ap (λ slots. times_held slots k) p.2 ∙ times_held-with old i f p.0 k e p.1.0

    yielded : (old left : Slots (AllWakes R)) (i x k : ℕ) → Yields AnswersNumber old i x left
        → times_in (x ∷ []) k + times_held (with_slot_freed left i) k ≡ times_held old k
    yielded old left i x k h =
        let there : value_in left i ≡ Some h.left = ap (λ slots. value_in slots i) h.now_holds
        ∙ value_in-with_value old i h.value h.left (sym h.held) in
        let before : times_held left k ≡ times_held old k =
        ap (λ slots. times_held slots k) h.now_holds
        ∙ times_held-with old i h.value h.left k h.held h.gave.0 in
        omega (
          arith,
          times_held-freed left i h.left k there,
          before,
          times_in-cons x [] k,
          alike x h.left.number k (h.gave.1 ∙ sym h.gave.0),
        )

    -- a poll gives the number of one future that was held, or leaves all
    pub poll_gave : (old new : Bounded (AllWakes R) S) (answer : Poll (Option ℕ)) (cx left : Context)
        → Polls old answer new cx left
        → IfReady answer (λ o. GaveNumber old.slots o new.slots)
    poll_gave old new (Ready None) cx left h = λ k. omega (arith, ap {B = ℕ} (λ b. times_held b.slots k) h.gave.1)
    poll_gave old new (Ready (Some x)) cx left h = λ k.
        let (i, before, asks, emptied) = h.gave.1 in
        let takes = asks.takes in
        ap (λ b. times_in (x ∷ []) k + times_held b.slots k) emptied
        ∙ yielded takes.passed before.slots i x k takes.ends.2
        ∙ passed takes.names old.slots takes.passed k takes.passes
    poll_gave old new Pending cx left h = tt

    pub poll_left : (old new : Bounded (AllWakes R) S) (answer : Poll (Option ℕ)) (cx left : Context)
        → Polls old answer new cx left
        → OnPending answer (GaveNumber old.slots None new.slots)
    poll_left old new (Ready o) cx left h = tt
    poll_left old new Pending cx left h = λ k.
        let takes = h.gave.1.takes in
        omega (
          arith,
          ap {B = ℕ} (λ slots. times_held slots k) takes.ends.0,
          passed takes.names old.slots takes.passed k takes.passes,
        )

    pub first_given : (old new : Bounded (AllWakes R) S) (answer : Poll (Option ℕ)) (cx left : Context)
        → Polls old answer new cx left
        → IfReady answer (GiveNumbers old.slots [])
    first_given old new (Ready None) cx left h = record {
      once = λ k. omega arith;
      each = λ is k. sym (times_held-none old.slots k h.gave.0);
    }
    first_given old new (Ready (Some x)) cx left h =
        let gave = poll_gave old new (Ready (Some x)) cx left h in
        record {
          once = λ k. omega (arith, gave k);
          each = λ is. cc;
        }
    first_given old new Pending cx left h = tt

    pub rest_given : (old new : Bounded (AllWakes R) S) (answer : Poll (Option ℕ)) (cx left : Context)
        → Polls old answer new cx left
        → IfReady answer (λ o. IfSome o (λ x. After (GiveNumbers old.slots) x (GiveNumbers new.slots)))
    rest_given old new (Ready None) cx left h = tt
    rest_given old new (Ready (Some x)) cx left h = λ xs last more.
        let gave = poll_gave old new (Ready (Some x)) cx left h in
        record {
          once = λ k. omega (
            arith,
            gave k,
            more.once k,
            times_in-cons x [] k,
            times_in-cons x (xs ++ option_to_list last) k,
          );
          each = λ is k. omega (arith, gave k, more.each is k, times_in-cons x [] k, times_in-cons x xs k);
        }
    rest_given old new Pending cx left h = tt

    pub same_given : (old new : Bounded (AllWakes R) S) (answer : Poll (Option ℕ)) (cx left : Context)
        → Polls old answer new cx left
        → OnPending answer (Within (GiveNumbers old.slots) (GiveNumbers new.slots))
    same_given old new (Ready o) cx left h = tt
    same_given old new Pending cx left h = λ xs last more.
        let left = poll_left old new Pending cx left h in
        record {
          once = λ k. omega (arith, left k, more.once k);
          each = λ is k. omega (arith, left k, more.each is k);
        }
