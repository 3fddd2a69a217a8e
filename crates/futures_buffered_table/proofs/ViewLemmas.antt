-- Views of seats, by their places in a list.
use Rattle.futures_buffered_table.proofs.Common.{arith, ◌≡◌, ℕ, ◌<◌, List, set, View, first_poller, first_views, new_waker_beside, at_set, some, get_elem?}
use Rattle.futures_buffered_table.proofs.ListLemmas.{earlier_or_last}

pub stubs_set : (n : ℕ) (views : List View) (seat : ℕ) (w : View) → ((j : ℕ) (v : View) → get_elem? views j ≡ some v → v.stub ≡ n) →
    w.stub ≡ n → (j : ℕ) (v : View) → get_elem? (set views seat w) j ≡ some v → v.stub ≡ n
stubs_set n views seat w all mine j v e = grind (arith, at_set)

-- what holds of an idle view and of the poller's holds of each view at the start
pub each_first : (count n : ℕ) (P : ℕ → View → Type 0) → ((j : ℕ) → j < count → P j (new_waker_beside (first_poller n))) →
    P count (first_poller n) → (j : ℕ) (v : View) → get_elem? (first_views count n) j ≡ some v → P j v
each_first count n P wakes polls j v e = grind (arith, earlier_or_last)
