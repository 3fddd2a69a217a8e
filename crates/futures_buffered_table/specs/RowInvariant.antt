-- How words and views keep themselves between any two steps (`KeepsRow`). The public laws take the whereabouts, the
-- tally and the empty row from it.
use Rattle.std.specs.Prelude.{◌≡◌, ◌≢◌, ℕ, suc, ◌+◌, ◌<◌, ◌≤◌, List, ◌∷◌, length}
use mathlib.Core.Option.{some}
use lib.ListN.{get_elem?}
use Rattle.futures_buffered_table.specs.Types.{Phase, Start, AtStub, Moved, NoNext, Last, StubCleared, StubPut}
use Rattle.futures_buffered_table.specs.Types.{StubLinked, InHand, Role, Idle, Won, Cleared, Swapped, Polls, View}
use Rattle.futures_buffered_table.specs.Row.{IsLinked, last_entry, next, owed, same, times, total}
use Rattle.futures_buffered_table.specs.Words.{link, mark, tail}
use Rattle.futures_buffered_table.specs.Tally.{unmarks, wins}

-- 1 if this role has the entry `e` outside the row, otherwise 0
abbrev pub outside_by : ℕ → ℕ → Role → ℕ
outside_by n e (Won i) = same e i
outside_by n e (Cleared i) = same e i
outside_by n e (Polls h Last) = same e n
outside_by n e (Polls h StubCleared) = same e n
outside_by n e (Polls h (InHand i)) = same e i
outside_by n e _ = 0

-- how many seats have `e` outside the row
abbrev pub outside : ℕ → List View → ℕ → ℕ
outside n views e = total (λ v. outside_by n e v.role) views

-- what a seat's role says of the row, which is h ∷ rest
module _ (n : ℕ) (words : List ℕ) (h : ℕ) (rest : List ℕ) where
  abbrev pub FitsPhase : Phase → Type 0
  FitsPhase Start = h ≤ n
  FitsPhase AtStub = h ≡ n
  FitsPhase Moved = h < n
  FitsPhase NoNext = h < n
  FitsPhase Last = h < n
  FitsPhase StubCleared = (h < n) × (link n words n ≡ 0)
  FitsPhase (StubPut p) = (h < n) × (p ≤ n) × (next p h rest ≡ suc n)
  FitsPhase StubLinked = (h < n) × (0 < length rest)
  FitsPhase (InHand i) = (h ≤ n) × (i < n)

  abbrev pub FitsRole : ℕ → ℕ → Role → Type 0
  FitsRole poller j Idle = Unit {0}
  FitsRole poller j (Won i) = i < n
  FitsRole poller j (Cleared i) = (i < n) × (link n words i ≡ 0)
  FitsRole poller j (Swapped i p) = (i < n) × (p ≤ n) × (next p h rest ≡ suc i)
  FitsRole poller j (Polls head phase) = (j ≡ poller) × (head ≡ h) × FitsPhase phase

-- the words and views of a list for `n` slots have the row h ∷ rest; the seat with the number `poller` polls
pub record KeepsRow (n h : ℕ) (rest : List ℕ) (poller : ℕ) (words : List ℕ) (views : List View) :
    Type 0 where
  pub wide : length words ≡ n + n + 2
  pub ends : last_entry h rest ≡ tail n words
  -- each entry of the row is followed by the next, or one seat is between its tail swap and its link write
  pub linked : (p : ℕ) → 0 < times p (h ∷ rest) → (p ≤ n) × IsLinked (next p h rest) (link n words p) (owed views p)
  pub unowed : (p : ℕ) → times p (h ∷ rest) ≡ 0 → owed views p ≡ 0
  -- the mark of a slot is set if and only if the slot is in the row, once, or with one seat
  pub whereabouts : (e : ℕ) → e < n → (times e (h ∷ rest) + outside n views e ≡ mark words e) × (mark words e ≤ 1)
  pub stub_once : times n (h ∷ rest) + outside n views n ≤ 1
  -- only the poller unmarks
  pub seats : (j : ℕ) (v : View) → get_elem? views j ≡ some v →
      FitsRole n words h rest poller j v.role × (j ≢ poller → (e : ℕ) → unmarks e v.steps ≡ 0)
  pub tallied : (e : ℕ) → e < n →
      total (λ v. wins e v.steps) views ≡ total (λ v. unmarks e v.steps) views + mark words e
