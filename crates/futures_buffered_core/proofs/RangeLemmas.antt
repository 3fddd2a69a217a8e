-- The numbers from one on: which are among them, that they differ, and one more.
use Rattle.futures_buffered_core.proofs.Common.{◌≡◌, ℕ, zero, suc, ◌+◌, ◌&&◌, eqb, leb, ltb, [], ◌∷◌, ◌++◌, arith, add-one, list_any, range_with_len, nat_tests}
use Rattle.std.specs.List.{IsDistinct}
use Rattle.futures_buffered_core.proofs.KeepsOnceLemmas.{apart_from_absent}

-- the numbers from a on that are less than a + n are listed
pub listed_range : (a n q : ℕ) → list_any (eqb q) (range_with_len a n) ≡ (leb a q && ltb q (a + n))
listed_range a zero q = grind (arith, nat_tests)
listed_range a (suc n) q = let rest = listed_range (a + 1) n q in grind (arith, nat_tests)

pub range_distinct : (a n : ℕ) → IsDistinct eqb (range_with_len a n)
unfolding IsDistinct
range_distinct a zero = tt
range_distinct a (suc n) =
    let listed = listed_range (a + 1) n a in
    (apart_from_absent a (range_with_len (a + 1) n) (grind (arith, nat_tests)), range_distinct (a + 1) n)

-- one more number
range_suc : (a n : ℕ) → range_with_len a (suc n) ≡ range_with_len a n ++ (a + n) ∷ []
range_suc a zero = grind arith
range_suc a (suc n) = let more = range_suc (a + 1) n in grind arith

pub range_push : (n : ℕ) → range_with_len 0 (n + 1) ≡ range_with_len 0 n ++ n ∷ []
range_push n = let more = range_suc 0 n in rw add-one (grind arith)
