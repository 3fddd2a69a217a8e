-- Where each slot is at one moment, by the words and all views. It is idle, with one wake seat that won it, once in the
-- row, or with the poller that is about to unmark it.
use Rattle.std.specs.Prelude.{◌≡◌, ℕ, suc, ◌+◌, ◌<◌, ◌≤◌, List, ◌∷◌}
use mathlib.Core.Option.{some}
use lib.ListN.{get_elem?}
use Rattle.futures_buffered_table.specs.Types.{StubPut, InHand, Role, Won, Cleared, Swapped, Polls, View}
use Rattle.futures_buffered_table.specs.Row.{IsLinked, last_entry, next, owed, same, times, total}
use Rattle.futures_buffered_table.specs.Words.{link, mark, tail}

-- 1 if a seat in this role has won the slot `e` and not yet enqueued it, otherwise 0
abbrev pub wakes_by : ℕ → Role → ℕ
wakes_by e (Won i) = same e i
wakes_by e (Cleared i) = same e i
wakes_by e _ = 0

-- 1 if the poller is about to unmark the slot `e`, otherwise 0
abbrev pub takes_by : ℕ → Role → ℕ
takes_by e (Polls h (InHand i)) = same e i
takes_by e _ = 0

-- how many wake seats have the slot e
abbrev pub wakers : ℕ → List View → ℕ
wakers e views = total (λ v. wakes_by e v.role) views

-- how often the poller has the slot `e` in hand
abbrev pub takers : ℕ → List View → ℕ
takers e views = total (λ v. takes_by e v.role) views

-- What a seat in this role says of the row. The poller's head is its first entry. A seat that owes the link of `p` owes
-- it the entry after `p`.
abbrev pub AgreesWith : ℕ → ℕ → List ℕ → Role → Type 0
AgreesWith n head rest (Swapped i p) = next p head rest ≡ suc i
AgreesWith n head rest (Polls h (StubPut p)) = (h ≡ head) × (next p head rest ≡ suc n)
AgreesWith n head rest (Polls h _) = h ≡ head
AgreesWith n head rest _ = Unit {0}

-- the one place of each slot
pub record Whereabouts (n : ℕ) (words : List ℕ) (views : List View) : Type 0 where
  -- the row begins with the poller's head, continues by links or by what one seat owes, and ends with the tail word
  pub head : ℕ
  pub rest : List ℕ
  pub linked : (p : ℕ) → 0 < times p (head ∷ rest) → IsLinked (next p head rest) (link n words p) (owed views p)
  pub ends : last_entry head rest ≡ tail n words
  pub seats : (j : ℕ) (v : View) → get_elem? views j ≡ some v → AgreesWith n head rest v.role
  -- A slot that is not idle is once in the row, or with one wake seat, or with the poller, and no two of these. Only
  -- then its mark is set.
  pub slots : (e : ℕ) → e < n →
      (times e (head ∷ rest) + wakers e views + takers e views ≡ mark words e) × (mark words e ≤ 1)
