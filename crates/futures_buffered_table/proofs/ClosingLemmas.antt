-- Wake seats that go into the poll seat, one by one, and the end of a list.
use Rattle.futures_buffered_table.proofs.Common.{◌≡◌, ℕ, ◌+◌, ◌≤◌, List, [], ◌∷◌, ◌++◌, get_or, nat_eq, true, sym, ap, ◌∙◌, subst, arith, append-nil, append_assoc, ◌<◌, AtomicStep, Phase, Polls, View, FitsRole, mark, is_win, unmarks, wins, HoldsRow, Whereabouts, Waker, some, some-injective, get_elem?, Final, Seen, steps_of}
use mathlib.Core.Bool.{not}
use Rattle.futures_buffered_table.proofs.ListLemmas.{elem_at, place_low}
use Rattle.futures_buffered_table.proofs.RowLemmas.{total-append, total_at, total_one}
use Rattle.futures_buffered_table.proofs.WhereaboutsLemmas.{whereabouts}

pub joined_on : (mine now whole : List AtomicStep) (left : List Waker) (s : Waker) (rest : List Waker) → left ≡ s ∷ rest →
    now ≡ mine ++ s.steps → mine ++ steps_of left ≡ whole → now ++ steps_of rest ≡ whole
joined_on mine now whole left s rest is join so_far = grind (arith, append_assoc)

pub joined_all : (mine whole : List AtomicStep) (left : List Waker) → left ≡ [] → mine ++ steps_of left ≡ whole → mine ≡ whole
joined_all mine whole left none so_far = sym (append-nil mine) ∙ (ap (λ l. mine ++ steps_of l) (sym none) ∙ so_far)

-- where the wake seats unmarked nothing, all that was won by them was unmarked by the poller, or is marked
pub handed_in : (e : ℕ) (poll all : List AtomicStep) (seats : List Waker) (left : ℕ) → all ≡ poll ++ steps_of seats →
    unmarks e all ≡ unmarks e poll → wins e all ≤ unmarks e all + left → wins e (steps_of seats) ≤ unmarks e poll + left
handed_in e poll all seats left is same le = let a = total-append (is_win e) poll (steps_of seats) in
    let b : wins e all ≡ wins e (poll ++ steps_of seats) = ap (wins e) is in omega arith

pub word_is : (items : List ℕ) (i r : ℕ) → get_elem? items i ≡ some r → get_or items i 0 ≡ r
word_is items i r is = some-injective _ _ (sym (elem_at items i 0 (place_low items i r is)) ∙ is)

pub marked_is : (m r : ℕ) → m ≡ r → m ≤ 1 → (not (nat_eq r 0) ≡ true → m ≡ 1) × (m ≡ 1 → not (nat_eq r 0) ≡ true)
marked_is m r is le = grind arith

-- at the end, the wins in the poll seat's list are at most its unmarks, plus one where the mark is set
pub ends : (n id : ℕ) (v : View) (head : ℕ) (phase : Phase) (ws slots : List ℕ) → v.role ≡ Polls head phase →
    Final (Seen (HoldsRow n) id v) ws slots
    → (e : ℕ) → e < n → wins e v.steps ≤ unmarks e v.steps + mark ws e
ends n id v head phase ws slots polls final e lt =
    let s = final.0 in let held = final.1.0 in let at = final.1.1 in let R = held.3 in
    let here : id ≡ held.2 = (subst (FitsRole n s.words held.0 held.1 held.2 id) polls (R.seats id v at).0).0 in
    let a = total_at (λ (u : View). wins e u.steps) s.views id v at in
    let b = total_one (λ (u : View). unmarks e u.steps) s.views id v at (λ j u ne at_j. (R.seats j u at_j).1 (λ z. ne (z ∙ sym here)) e) in
    let c = R.tallied e lt in
    let d : mark s.words e ≡ mark ws e = ap (λ (l : List ℕ). mark l e) final.2 in omega arith

-- at the end each slot is in its place, in a row from the poll seat's head
pub ends_placed : (n id : ℕ) (v : View) (head : ℕ) (phase : Phase) (ws slots : List ℕ) → v.role ≡ Polls head phase →
    Final (Seen (HoldsRow n) id v) ws slots → (views : List View) × (at : Whereabouts n ws views) × (at.head ≡ head)
ends_placed n id v head phase ws slots polls final =
    let s = final.0 in let held = final.1.0 in let R = held.3 in
    let ok = subst (FitsRole n s.words held.0 held.1 held.2 id) polls (R.seats id v final.1.1).0 in
    let both = subst (λ (l : List ℕ). (at : Whereabouts n l s.views)
    × (at.head ≡ head)) final.2 (whereabouts R, sym ok.1) in
    (s.views, both.0, both.1)
