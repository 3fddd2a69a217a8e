-- The row of links of a ready core: what a mark and a taking leave of it.
use Rattle.futures_buffered_core.proofs.Common.{◌≡◌, ◌≢◌, ℕ, zero, suc, ◌+◌, ◌-◌, ◌<◌, ◌≤◌, Bool, true, false, cond, eqb, List, [], ◌∷◌, ◌++◌, length, get_or, set, replicate, refl, sym, ap, subst, ◌∙◌, arith, length-set, list_any, IsDistinct, or_parts, or_right, nat_tests, length-replicate, get_or-set_same, get_or-set_other, get_or-replicate, IsDistinct-head, IsDistinct-tail, KeepsOnce, first_link, slots_behind, LeadsThrough, KeepsLinks}
use Rattle.std.proofs.lemmas.Grind.{get_or_default_zero}
use Rattle.std.proofs.lemmas.Map.Steps.{length-le_from_distinct_below}
use Rattle.futures_buffered_table.specs.Row.{last_entry}
use Rattle.futures_buffered_table.proofs.RowLemmas.{last_snoc}
use Rattle.futures_buffered_core.specs.ReadyCoreInvariant.{slots_of}
use Rattle.futures_buffered_core.proofs.KeepsOnceLemmas.{KeepsOnce-below, KeepsOnce-first, KeepsOnce-mark, KeepsOnce-none, KeepsOnce-take, absent_rest}

first_at_stub : (links : List ℕ) (n : ℕ) → first_link links n n ≡ get_or links n 0
first_at_stub links n = grind (arith, nat_tests)

first_at_slot : (links : List ℕ) (n head : ℕ) → head ≢ n → first_link links n head ≡ head + 1
first_at_slot links n head slot = grind (arith, nat_tests)

behind_found : (links : List ℕ) (most link : ℕ) (row : List ℕ) → LeadsThrough links link row →
    length row ≤ most → slots_behind links most link ≡ row
behind_found links zero link [] leads fits = refl
behind_found links (suc most) link [] leads fits = rw leads refl
behind_found links zero link (e ∷ row) leads fits = absurd (omega arith)
behind_found links (suc most) link (e ∷ row) leads fits =
    let rest = behind_found links most (get_or links e 0) row leads.1 (omega arith) in
    let at = leads.0 in
    grind arith

length_row : (marks : List Bool) (row : List ℕ) (n : ℕ) → KeepsOnce marks row n → length row ≤ n
length_row marks row n once =
    omega (arith, once.fits, length-le_from_distinct_below row (length marks) once.distinct (λ q listed. KeepsOnce-below marks row n q once listed))

-- the row that is kept is the one that a contract sees
pub slots_found : (n : ℕ) (marks : List Bool) (links : List ℕ) (head tail : ℕ) (row : List ℕ) →
    KeepsLinks n marks links head tail row → slots_of links n head ≡ row
slots_found n marks links head tail row kept =
    behind_found links n (first_link links n head) row kept.linked (length_row marks row n kept.once)

pub KeepsLinks-found : (n : ℕ) (marks : List Bool) (links : List ℕ) (head tail : ℕ) (row : List ℕ) →
    KeepsLinks n marks links head tail row →
    KeepsLinks n marks links head tail (slots_of links n head)
KeepsLinks-found n marks links head tail row kept = rw (slots_found n marks links head tail row kept) kept

pub KeepsLinks-none : (slots n : ℕ) → n ≡ slots →
    KeepsLinks n (replicate slots false) (replicate (slots + 1) 0) slots slots []
KeepsLinks-none slots n same =
    rw same (record {
      slots = length-replicate slots false;
      entries = length-replicate {A = ℕ} (slots + 1) 0;
      once = KeepsOnce-none slots slots (omega arith);
      linked = first_at_stub (replicate (slots + 1) 0) slots ∙ get_or-replicate (slots + 1) slots 0 0 (omega arith);
      ends = refl;
    })

-- the last of a list is in it
last_listed : (e : ℕ) (rest : List ℕ) → list_any (eqb (last_entry e rest)) (e ∷ rest) ≡ true
last_listed e [] = grind (arith, nat_tests)
last_listed e (x ∷ rest) = or_right (eqb (last_entry x rest) e) (list_any (eqb (last_entry x rest)) (x ∷ rest)) (last_listed x rest)

-- what a link is once 0 was written at i, and then y at the tail
link_after : (links : List ℕ) (i tail k y : ℕ) → i < length links → tail < length links →
    get_or (set (set links i 0) tail y) k 0 ≡ cond (eqb k tail) y (cond (eqb k i) 0 (get_or links k 0))
link_after links i tail k y within low = grind (arith, nat_tests, get_or-set_same, get_or-set_other, length-set)

-- what stands outside the row can be linked behind its last
leads_put : (links : List ℕ) (link i : ℕ) (e : ℕ) (rest : List ℕ) →
    LeadsThrough links link (e ∷ rest) → IsDistinct eqb (e ∷ rest) →
    list_any (eqb i) (e ∷ rest) ≡ false → i < length links → last_entry e rest < length links →
    LeadsThrough (set (set links i 0) (last_entry e rest) (i + 1)) link ((e ∷ rest) ++ i ∷ [])
leads_put links link i e [] leads distinct other within low =
    let at_last = link_after links i e e (i + 1) within low in
    let at_new = link_after links i e i (i + 1) within low in
    (leads.0, (grind (arith, nat_tests), grind (arith, nat_tests)))
leads_put links link i e (x ∷ rest) leads distinct other within low =
    let parts = or_parts (eqb i e) (list_any (eqb i) (x ∷ rest)) other in
    let absent = absent_rest e (x ∷ rest) (IsDistinct-head eqb e (x ∷ rest) distinct) in
    let there = last_listed x rest in
    let last = last_entry x rest in
    let new = set (set links i 0) last (i + 1) in
    let now = link_after links i last e (i + 1) within low in
    let stays : get_or new e 0 ≡ get_or links e 0 = grind (arith, nat_tests) in
    let more = leads_put links (get_or links e 0) i x rest leads.1 (IsDistinct-tail eqb e (x ∷ rest) distinct) parts.1 within low in
    (leads.0, subst (λ (k : ℕ). LeadsThrough new k ((x ∷ rest) ++ i ∷ [])) (sym stays) more)

last_below : (marks : List Bool) (e : ℕ) (rest : List ℕ) (n : ℕ) → KeepsOnce marks (e ∷ rest) n → last_entry e rest < length marks
last_below marks e rest n once = KeepsOnce-below marks (e ∷ rest) n (last_entry e rest) once (last_listed e rest)

-- the tail is an entry
pub KeepsLinks-tail : (n : ℕ) (marks : List Bool) (links : List ℕ) (head tail : ℕ) (row : List ℕ) →
    KeepsLinks n marks links head tail row → tail < length links
KeepsLinks-tail n marks links head tail [] kept = omega (arith, kept.entries, kept.ends)
KeepsLinks-tail n marks links head tail (e ∷ rest) kept = omega (arith, kept.entries, kept.slots, kept.ends, last_below marks e rest n kept.once)

-- what a mark of a slot that was not marked leaves
pub KeepsLinks-mark : (n : ℕ) (marks : List Bool) (links : List ℕ) (head tail : ℕ) (row : List ℕ) (i : ℕ) →
    KeepsLinks n marks links head tail row → i < n → get_or marks i false ≡ false →
    KeepsLinks n (set marks i true) (set (set links i 0) tail (i + 1)) head i (row ++ i ∷ [])
KeepsLinks-mark n marks links head tail row i kept within clear =
    let below : i < length marks = omega (arith, kept.slots) in
    record {
      slots = length-set marks i true ∙ kept.slots;
      entries = length-set (set links i 0) tail (i + 1) ∙ (length-set links i 0 ∙ kept.entries);
      once = KeepsOnce-mark marks row n i kept.once below clear;
      linked = rw (← kept.ends) (linked row kept.once kept.linked);
      ends = last_snoc n row i;
    }
  where
    linked : (row : List ℕ) → KeepsOnce marks row n →
        LeadsThrough links (first_link links n head) row →
        LeadsThrough (set (set links i 0) (last_entry n row) (i + 1)) (first_link (set (set links i 0) (last_entry n row) (i + 1)) n head) (row ++ i ∷ [])
    linked [] once leads =
        let at_stub = link_after links i n n (i + 1) (omega (arith, kept.entries)) (omega (arith, kept.entries)) in
        let at_new = link_after links i n i (i + 1) (omega (arith, kept.entries)) (omega (arith, kept.entries)) in
        (grind (arith, nat_tests), grind (arith, nat_tests))
    linked (e ∷ rest) once leads =
        let last = last_entry e rest in
        let new = set (set links i 0) last (i + 1) in
        let low = last_below marks e rest n once in
        let now = link_after links i last n (i + 1) (omega (arith, kept.entries)) (omega (arith, kept.entries, kept.slots)) in
        let bound = kept.slots in
        let stays : first_link new n head ≡ first_link links n head = grind (arith, nat_tests) in
        let more = leads_put links (first_link links n head) i e rest leads once.distinct (sym (once.exact i) ∙ clear) (omega (arith, kept.entries)) (omega (arith, kept.entries, kept.slots)) in
        subst (λ (k : ℕ). LeadsThrough new k ((e ∷ rest) ++ i ∷ [])) (sym stays) more

-- a head that is a slot is the first of the row
pub KeepsLinks-first : (n : ℕ) (marks : List Bool) (links : List ℕ) (head tail : ℕ) (row : List ℕ) →
    KeepsLinks n marks links head tail row → head ≢ n →
    (rest : List ℕ) × (row ≡ head ∷ rest) × LeadsThrough links (get_or links head 0) rest
KeepsLinks-first n marks links head tail [] kept slot = absurd (omega (arith, first_at_slot links n head slot, kept.linked))
KeepsLinks-first n marks links head tail (e ∷ rest) kept slot =
    let same : e ≡ head = omega (arith, first_at_slot links n head slot, kept.linked.0) in
    (rest, ap (λ (x : ℕ). x ∷ rest) same, subst (λ (x : ℕ). LeadsThrough links (get_or links x 0) rest) same kept.linked.1)

pub KeepsLinks-below : (n : ℕ) (marks : List Bool) (links : List ℕ) (head tail : ℕ) (row : List ℕ) →
    KeepsLinks n marks links head tail row → head ≢ n → head < n
KeepsLinks-below n marks links head tail row kept slot =
    let first = KeepsLinks-first n marks links head tail row kept slot in
    omega (arith, kept.slots, KeepsOnce-first marks row first.0 n head kept.once first.1)

-- a slot whose link names none is the tail, and the row has no other
pub KeepsLinks-last : (n : ℕ) (marks : List Bool) (links : List ℕ) (head tail : ℕ) (row : List ℕ) →
    KeepsLinks n marks links head tail row → head ≢ n → get_or links head 0 ≡ 0 →
    (row ≡ head ∷ []) × (tail ≡ head)
KeepsLinks-last n marks links head tail row kept slot last =
    let first = KeepsLinks-first n marks links head tail row kept slot in
    let only = first.1 ∙ ap (λ (xs : List ℕ). head ∷ xs) (none first.0 first.2) in
    (only, sym (sym (ap (last_entry n) only) ∙ kept.ends))
  where
    none : (rest : List ℕ) → LeadsThrough links (get_or links head 0) rest → rest ≡ []
    none [] leads = refl
    none (x ∷ rest) leads = absurd (omega (arith, leads.0))

-- what a read at an index gives
pub get_or_read : (xs : List ℕ) (i r : ℕ) → i < length xs → r ≡ get_or xs i r → get_or xs i 0 ≡ r
get_or_read xs i r within read = sym (read ∙ get_or_default_zero xs i r within)

-- the head moves from the stub to the first slot: the row is the same
pub KeepsLinks-moved : (n : ℕ) (marks : List Bool) (links : List ℕ) (head tail : ℕ) (row : List ℕ) (first : ℕ) →
    KeepsLinks n marks links head tail row → head ≡ n → get_or links n 0 ≡ first → first ≢ 0 →
    KeepsLinks n marks links (first - 1) tail row × (first - 1 ≢ n)
KeepsLinks-moved n marks links head tail [] first kept at_stub read some = absurd (let linked = kept.linked in grind (arith, nat_tests))
KeepsLinks-moved n marks links head tail (e ∷ rest) first kept at_stub read some =
    let below = KeepsOnce-first marks (e ∷ rest) rest n e kept.once refl in
    let here : first ≡ e + 1 = let linked = kept.linked.0 in grind (arith, nat_tests) in
    let is : first - 1 + 1 ≡ e + 1 = omega arith in
    let other : first - 1 ≢ n = omega (arith, kept.slots) in
    (record { slots = kept.slots; entries = kept.entries; once = kept.once; linked = (first_at_slot links n (first - 1) other ∙ is, kept.linked.1); ends = kept.ends }, other)

-- the first slot can be taken: its link names an entry, and without it the row is kept from there on
pub record IsServed (n : ℕ) (marks : List Bool) (links : List ℕ) (head tail : ℕ) (row : List ℕ) : Type 0 where
  pub rest : List ℕ
  pub first : row ≡ head ∷ rest
  pub below : head < n
  pub some : 1 ≤ get_or links head 0
  pub kept : KeepsLinks n (set marks head false) links (get_or links head 0 - 1) tail rest

pub IsServed-next : (n : ℕ) (marks : List Bool) (links : List ℕ) (head tail : ℕ) (row : List ℕ) →
    KeepsLinks n marks links head tail row → head ≢ n → get_or links head 0 ≢ 0 →
    IsServed n marks links head tail row
IsServed-next n marks links head tail row kept slot some =
    let first = KeepsLinks-first n marks links head tail row kept slot in
    at first.0 first.1 first.2
  where
    at : (rest : List ℕ) → row ≡ head ∷ rest → LeadsThrough links (get_or links head 0) rest →
        IsServed n marks links head tail row
    at [] e leads = absurd (some leads)
    at (x ∷ rest) e leads =
        let once = KeepsOnce-take marks row (x ∷ rest) n head kept.once e in
        let below = KeepsOnce-first (set marks head false) (x ∷ rest) rest n x once refl in
        let here = leads.0 in
        let is : get_or links head 0 - 1 + 1 ≡ x + 1 = omega arith in
        let other : get_or links head 0 - 1 ≢ n = omega (arith, kept.slots, length-set marks head false) in
        record {
          rest = x ∷ rest;
          first = e;
          below = KeepsLinks-below n marks links head tail row kept slot;
          some = omega arith;
          kept = record {
            slots = length-set marks head false ∙ kept.slots;
            entries = kept.entries;
            once = once;
            linked = (first_at_slot links n (get_or links head 0 - 1) other ∙ is, leads.1);
            ends = sym (ap (last_entry n) e) ∙ kept.ends;
          };
        }

-- the last slot is served once the stub stands behind it
pub IsServed-last : (n : ℕ) (marks : List Bool) (links : List ℕ) (head tail : ℕ) (row : List ℕ) →
    KeepsLinks n marks links head tail row → head ≢ n → get_or links head 0 ≡ 0 →
    IsServed n marks (set (set links n 0) tail (n + 1)) head n row
IsServed-last n marks links head tail row kept slot last =
    let only = KeepsLinks-last n marks links head tail row kept slot last in
    let below = KeepsLinks-below n marks links head tail row kept slot in
    let new = set (set links n 0) tail (n + 1) in
    let low : tail < length links = omega (arith, kept.entries, only.1) in
    let at_head = link_after links n tail head (n + 1) (omega (arith, kept.entries)) low in
    let at_stub = link_after links n tail n (n + 1) (omega (arith, kept.entries)) low in
    let is_last = only.1 in
    let behind : get_or new head 0 ≡ n + 1 = grind (arith, nat_tests) in
    record {
      rest = [];
      first = only.0;
      below = below;
      some = omega arith;
      kept = record {
        slots = length-set marks head false ∙ kept.slots;
        entries = length-set (set links n 0) tail (n + 1) ∙ (length-set links n 0 ∙ kept.entries);
        once = KeepsOnce-take marks row [] n head kept.once only.0;
        linked = grind (arith, nat_tests);
        ends = refl;
      };
    }
