-- A seat of a list, and the steps that it makes.
use Rattle.futures_buffered_table.proofs.Common.{◌≡◌, ℕ, ◌+◌, ◌<◌, ◌≤◌, List, ◌++◌, sym, ap, ◌∙◌, arith, append_assoc, inl, inr, refl, none, AtomicStep, Moved, StubLinked, Role, Polls, View, next_view, put_by_role, word_of_role, HoldsRow, MayFind, PlaysRole, AddsSteps, IsInRole, ListIdentity, Allows, Seat, TableId, table_step, KeepsList, KeepsSeat}
use Rattle.futures_buffered_table.specs.Taking.{ReadsSlot}
use Rattle.futures_buffered_table.proofs.RuleLemmas.{SlotHandle, seated, is_seated, allows}

module _ (table : TableId) (key n : ℕ) (L : KeepsList table key n) (seen : ListIdentity)
    (view_is : record { list = table; capacity = n } ≡ seen) where
  cap : n ≡ seen.capacity
  cap = ap (λ (l : ListIdentity). l.capacity) view_is

  this_table : seen.list ≡ table
  this_table = sym (ap (λ (l : ListIdentity). l.list) view_is)

  -- a seat that callers see as one of this list is in its role
  pub in_role : (seat : Seat ℕ View) (role : Role) (list : TableId) → KeepsSeat seat.table_id seat.me role → seat.table_id ≡ list →
      list ≡ seen.list → IsInRole seen role seat
  in_role seat role list S own same = grind arith

  -- and the other way round
  pub seat_kept : (seat : Seat ℕ View) (role : Role) → IsInRole seen role seat → KeepsSeat seat.table_id seat.me role
  seat_kept seat role sits = grind arith

  -- its step is at the word i
  module _ (seat : Seat ℕ View) (role : Role) (sits : IsInRole seen role seat)
      (i : ℕ) (lt : n ≡ seen.capacity →
      SlotHandle n seat.id i seat.me.0.steps role) (there : i ≡ word_of_role n i role) (low : n ≡ seen.capacity → i < n + n + 2) where
    in_words : i < table.words
    in_words = let a = L.words in let b = low cap in omega arith

    is_me : seat.me ≡ seated n role seat.me.0.steps
    is_me = is_seated n role seat.me (sits.1 ∙ sym cap) sits.2 sits.3

    pub may_step : (a b : ℕ) (f : ℕ → ℕ) → ((found : ℕ) → put_by_role n role found ≡ f found)
        → (seat.table_id ≡ table) × (i < table.words)
        × Allows (HoldsRow key) table.slots seat.id seat.me i f (PlaysRole (table_step table.slots i a b none) seat.me)
    may_step a b f put = let step = allows n seat.id i seat.me.0.steps role (lt cap) there table.slots key L.keyed seat.me is_me a b f
        (λ found. found) put (λ _. refl) (λ _ told. told) in (sits.0 ∙ this_table, in_words, step)

    pub may_store : (new : ℕ) → ((found : ℕ) → put_by_role n role found ≡ new)
        → ((found : ℕ) → next_view i (seated n role seat.me.0.steps).0 found ≡ next_view i (seated n role seat.me.0.steps).0 new) →
        MayFind n role new
        → (seat.table_id ≡ table) × (i < table.words)
        × Allows (HoldsRow key) table.slots seat.id seat.me i (λ _. new)
        (λ _. PlaysRole (table_step table.slots i new 0 none) seat.me new)
    may_store new put blind told = let step = allows n seat.id i seat.me.0.steps role (lt cap) there table.slots key L.keyed seat.me is_me new 0
        (λ _. new) (λ _. new) put blind (λ _ _. told) in (sits.0 ∙ this_table, in_words, step)

  -- it may read the link of its head, a slot
  pub may_read_slot : (seat : Seat ℕ View) (head : ℕ) → ReadsSlot seen head seat → head ≤ seen.capacity
      → (seat.table_id ≡ table) × (n + head < table.words)
      × Allows (HoldsRow key) table.slots seat.id seat.me (n + head) (λ found. found)
      (PlaysRole (table_step table.slots (n + head) 0 0 none) seat.me)
  may_read_slot seat head (inl sits) le =
      may_step seat (Polls head Moved) sits (n + head) (λ cap. tt) refl (λ cap. omega arith) 0 0 (λ found. found) (λ _. refl)
  may_read_slot seat head (inr sits) le =
      may_step seat (Polls head StubLinked) sits (n + head) (λ cap. tt) refl (λ cap. omega arith) 0 0 (λ found. found) (λ _. refl)

pub adds_more : (a b c : Seat ℕ View) (s t : List AtomicStep) → AddsSteps a b s → AddsSteps b c t → AddsSteps a c (s ++ t)
adds_more a b c s t one two = two ∙ (ap (λ (l : List AtomicStep). l ++ t) one ∙ append_assoc a.me.0.steps s t)
