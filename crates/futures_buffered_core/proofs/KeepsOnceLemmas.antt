-- What a mark and a taking leave of marks and queue.
use Rattle.futures_buffered_core.proofs.Common.{◌≡◌, ℕ, zero, suc, ◌+◌, ◌<◌, ◌≤◌, Bool, true, false, cond, ◌||◌, eqb, List, [], ◌∷◌, ◌++◌, length, get_or, set, replicate, refl, sym, ap, subst, ◌∙◌, arith, length-set, list_any, AllByRecursion, or_parts, get_or-append_seam, set-append_seam, length-append, length-replicate, get_or-set_same, get_or-set_other, get_or_past, get_or-replicate, list_any-append, nat_tests, IsDistinct-push, IsDistinct-cons, IsDistinct-head, IsDistinct-tail, KeepsOnce}
use Rattle.std.specs.List.{IsDistinct}
use Rattle.std.specs.Cmp.{nat_eq_equiv}

-- what is in the queue is below the capacity
pub KeepsOnce-below : (marks : List Bool) (queue : List ℕ) (n i : ℕ) → KeepsOnce marks queue n → list_any (eqb i) queue ≡ true → i < length marks
KeepsOnce-below marks queue n i kept listed =
    let marked : get_or marks i false ≡ true = kept.exact i ∙ listed in
    grind (arith, get_or_past)

pub head_listed : (i : ℕ) (queue : List ℕ) → list_any (eqb i) (i ∷ queue) ≡ true
head_listed i queue = grind (arith, nat_tests)

pub KeepsOnce-first : (marks : List Bool) (queue rest : List ℕ) (n i : ℕ) → KeepsOnce marks queue n → queue ≡ i ∷ rest → i < length marks
KeepsOnce-first marks queue rest n i kept e =
    KeepsOnce-below marks queue n i kept (ap (list_any (eqb i)) e ∙ head_listed i rest)

-- what is listed once i was put last
pub listed_push : (queue : List ℕ) (i q : ℕ) → list_any (eqb q) (queue ++ i ∷ []) ≡ (list_any (eqb q) queue || eqb q i)
listed_push queue i q = grind (arith, list_any-append)

-- what stands at q once b was written at i
set_at : (marks : List Bool) (i q : ℕ) (b : Bool) → i < length marks → get_or (set marks i b) q false ≡ cond (eqb q i) b (get_or marks q false)
set_at marks i q b within = grind (arith, nat_tests, get_or-set_same, get_or-set_other)

pub KeepsOnce-mark : (marks : List Bool) (queue : List ℕ) (n i : ℕ) → KeepsOnce marks queue n → i < length marks → get_or marks i false ≡ false → KeepsOnce (set marks i true) (queue ++ i ∷ []) n
KeepsOnce-mark marks queue n i kept within clear =
    record {
      distinct = IsDistinct-push nat_eq_equiv queue i kept.distinct (sym (kept.exact i) ∙ clear);
      exact = λ q. let was = kept.exact q in let now = set_at marks i q true within in let more = listed_push queue i q in grind arith;
      fits = omega (arith, kept.fits, length-set marks i true);
    }

-- what differs from each of the rest is not among them
pub absent_rest : (i : ℕ) (rest : List ℕ) → AllByRecursion (λ y. eqb i y ≡ false) rest → list_any (eqb i) rest ≡ false
absent_rest i [] h = refl
absent_rest i (y ∷ rest) h = rw (h.0) (absent_rest i rest h.1)

pub KeepsOnce-take : (marks : List Bool) (queue rest : List ℕ) (n i : ℕ) → KeepsOnce marks queue n → queue ≡ i ∷ rest → KeepsOnce (set marks i false) rest n
KeepsOnce-take marks queue rest n i kept e =
    let listed = subst (IsDistinct eqb) e kept.distinct in
    let absent = absent_rest i rest (IsDistinct-head eqb i rest listed) in
    record {
      distinct = IsDistinct-tail eqb i rest listed;
      exact = λ q. let was = kept.exact q in let now = set_at marks i q false (KeepsOnce-first marks queue rest n i kept e) in grind (arith, nat_tests);
      fits = omega (arith, kept.fits, length-set marks i false);
    }

pub KeepsOnce-none : (cap n : ℕ) → cap ≤ n → KeepsOnce (replicate cap false) [] n
unfolding IsDistinct
KeepsOnce-none cap n fits = grind (arith, length-replicate, get_or-replicate, get_or_past)

-- what a read that found a clear mark says
pub clear_from_read : (marks : List Bool) (i : ℕ) (r : Bool) → r ≡ get_or marks i r → r ≡ false → get_or marks i false ≡ false
clear_from_read marks i r read e = let P : Bool → Type 0 = λ b. b ≡ get_or marks i b in sym (subst P e read)

pub KeepsOnce-marked : (marks : List Bool) (queue rest : List ℕ) (n i : ℕ) → KeepsOnce marks queue n → queue ≡ i ∷ rest → get_or marks i false ≡ true
KeepsOnce-marked marks queue rest n i kept e = kept.exact i ∙ ap (list_any (eqb i)) e ∙ head_listed i rest

pub apart_from_absent : (i : ℕ) (queue : List ℕ) → list_any (eqb i) queue ≡ false → AllByRecursion (λ y. eqb i y ≡ false) queue
apart_from_absent i [] h = tt
apart_from_absent i (y ∷ queue) h = let parts = or_parts (eqb i y) (list_any (eqb i) queue) h in (parts.0, apart_from_absent i queue parts.1)

-- a slot that comes first
pub KeepsOnce-return : (marks : List Bool) (queue : List ℕ) (n i : ℕ) → KeepsOnce marks queue n → i < length marks → get_or marks i false ≡ false → KeepsOnce (set marks i true) (i ∷ queue) n
KeepsOnce-return marks queue n i kept within clear =
    record {
      distinct = IsDistinct-cons eqb i queue (apart_from_absent i queue (sym (kept.exact i) ∙ clear)) kept.distinct;
      exact = λ q. let was = kept.exact q in let now = set_at marks i q true within in grind arith;
      fits = omega (arith, kept.fits, length-set marks i true);
    }

-- a clear mark more, behind the others, is read as none
clear_behind : (marks : List Bool) (q : ℕ) → get_or (marks ++ false ∷ []) q false ≡ get_or marks q false
clear_behind [] zero = refl
clear_behind [] (suc q) = refl
clear_behind (b ∷ marks) zero = refl
clear_behind (b ∷ marks) (suc q) = clear_behind marks q

-- one place more, marked, which comes first
pub KeepsOnce-grow : (marks : List Bool) (queue : List ℕ) (n : ℕ) → KeepsOnce marks queue n → length marks ≡ n → KeepsOnce (marks ++ true ∷ []) (n ∷ queue) (n + 1)
KeepsOnce-grow marks queue n kept all =
    let wider : KeepsOnce (marks ++ false ∷ []) queue (n + 1) = record {
      distinct = kept.distinct;
      exact = λ q. clear_behind marks q ∙ kept.exact q;
      fits = omega (arith, length-append marks (false ∷ []));
    } in
    let clear : get_or (marks ++ false ∷ []) (length marks) false ≡ false = get_or-append_seam marks false [] false in
    let marked = KeepsOnce-return (marks ++ false ∷ []) queue (n + 1) (length marks) wider (omega (arith, length-append marks (false ∷ []))) clear in
    subst (λ (k : ℕ). KeepsOnce (marks ++ true ∷ []) (k ∷ queue) (n + 1)) all (rw (set-append_seam marks false [] true) at marked)
