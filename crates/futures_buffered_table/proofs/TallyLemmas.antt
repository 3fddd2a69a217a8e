-- No mark is lost over a legal schedule: what the wake seats won is what the poll seat unmarked, and what is marked.
use Rattle.futures_buffered_table.proofs.Common.{◌≡◌, ℕ, zero, suc, ◌+◌, List, [], ◌∷◌, length, get_or, sym, ap, ◌∙◌, subst, arith, take, View, Step, WAKE_SEATS, total, KeepsRow, unmarks, wins, spent_view, Legal, Moment, at_start, run, some, some-injective, get_elem?, LosesNoMark}
use Rattle.futures_buffered_table.proofs.RowLemmas.{total_one}
use Rattle.futures_buffered_table.proofs.ScheduleLemmas.{IsReachable}
use Rattle.futures_buffered_table.proofs.ListLemmas.{elem_at}

-- a sum over k + 1 terms
but_last : {X : Type 0} (f : X → ℕ) (xs : List X) (k : ℕ) (d : X) → length xs ≡ suc k → total f xs ≡ total f (take k xs) + f (get_or xs k d)
but_last f [] k d is = absurd (omega arith)
but_last f (x ∷ []) zero d is = omega arith
but_last f (x ∷ y ∷ ys) zero d is = absurd (omega arith)
but_last f (x ∷ xs) (suc k) d is = let a = but_last f xs k d (omega arith) in omega arith

pub tallied_at : (n : ℕ) (words : List ℕ) (schedule : List Step) → Legal n (at_start n) schedule →
    (good : IsReachable n (run n (at_start n) schedule)) → words ≡ (run n (at_start n) schedule).words →
    LosesNoMark n words (run n (at_start n) schedule).views
tallied_at n words schedule legal good is = subst (λ (ws : List ℕ). LosesNoMark n ws c.views) (sym is) here
  where
    c : Moment
    c = run n (at_start n) schedule

    here : LosesNoMark n c.words c.views
    here e lt =
        let R : KeepsRow n good.2.0 good.2.1 WAKE_SEATS c.words c.views = good.2.2 in
        let v : View = get_or c.views WAKE_SEATS spent_view in
        let there : get_elem? c.views WAKE_SEATS ≡ some v = elem_at c.views WAKE_SEATS spent_view (let a = good.1 in omega arith) in
        let won = but_last (λ (u : View). wins e u.steps) c.views WAKE_SEATS spent_view good.1 in
        let none : wins e v.steps ≡ 0 = ap (λ (u : View). wins e u.steps) (some-injective v _ (sym there ∙ good.2.3.2)) ∙ good.2.3.3 e in
        let undone = total_one (λ (u : View). unmarks e u.steps) c.views WAKE_SEATS v there (λ j u ne at_j. (R.seats j u at_j).1 ne e) in
        let all = R.tallied e lt in omega arith
