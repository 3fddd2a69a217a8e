-- Marks of slots in order: they keep the number of slots, and a list that begins full makes a source as marks of all its
-- slots leave it.
use Rattle.futures_buffered_core.proofs.Common.{◌≡◌, ℕ, zero, suc, ◌+◌, List, [], ◌∷◌, refl, sym, ap, ◌∙◌, subst, arith, range_with_len, FoldsTo-push, Woke, Fresh, AtomicStep, IsNewShared, MarksShared, Shared, new_publisher, IsMadeMarked, MarksEach, MarksSlot, SourceLaws, SourceSteps}
use Rattle.futures_buffered_table.specs.Beginning.{all_wakes, entry_before, wake_in_order, wakes_in_order}
use Rattle.futures_buffered_core.proofs.RangeLemmas.{range_push}

-- marks of any slots keep the number of slots
pub marked_slots : {S : Type 0} (marks : S → ℕ → Woke → S → Type 0) (steps : SourceSteps S) (needs : S → ℕ → Type 0) (slots : S → ℕ)
    → SourceLaws marks steps needs slots → (names : List ℕ) (old new : S) → MarksEach marks old names new → slots new ≡ slots old
marked_slots marks steps needs slots laws [] old new same = ap slots (sym same)
marked_slots marks steps needs slots laws (i ∷ names) old new h =
    marked_slots marks steps needs slots laws names h.0 new h.2 ∙ laws.mark_keeps old i h.1.0 h.0 h.1.1

-- of a source whose marks made no step, with the steps of wakes of its first k slots
pub marks_in_order : (new : Shared) (n k : ℕ) → new.marked ≡ []
    → MarksEach MarksShared new (range_with_len 0 k) (record new { marked = wakes_in_order n k })
marks_in_order new n zero none = λ i. record new { marked = none i }
marks_in_order new n (suc k) none =
    let mid : Shared = record new { marked = wakes_in_order n k } in
    let now : Shared = record new { marked = wakes_in_order n (suc k) } in
    let one : suc k ≡ k + 1 = omega arith in
    subst (λ (slots : List ℕ). MarksEach MarksShared new slots now) (sym (ap (range_with_len 0) one ∙ range_push k))
    (FoldsTo-push (MarksSlot MarksShared) new (range_with_len 0 k) mid k now (marks_in_order new n k none)
    (Fresh, (wake_in_order n k, (entry_before n k, refl), refl)))

-- so a source whose first marks made wakes of all its slots is one that was made and then marked
pub made_marked : (n : ℕ) (s : Shared) → s.capacity ≡ n → s.head ≡ n → s.taken ≡ [] → s.marked ≡ all_wakes n → s.publisher ≡ new_publisher
    → IsMadeMarked IsNewShared MarksShared n s
made_marked n s capacity head taken marked none =
    let new : Shared = record s { marked = [] } in
    record {
      new_source = new;
      was_made = (capacity, head, taken, refl, none);
      marked = subst (λ (steps : List AtomicStep). MarksEach MarksShared new (range_with_len 0 n) (record s { marked = steps })) (sym marked)
          (marks_in_order new n n refl);
    }
