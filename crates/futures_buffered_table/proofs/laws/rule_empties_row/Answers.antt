use Rattle.futures_buffered_table.proofs.Common.{ℕ, ◌≤◌, ◌∷◌, sym, ◌∙◌, subst, arith, FitsRole, times}
use Rattle.futures_buffered_table.proofs.RowLemmas.{alone}
use Rattle.futures_buffered_table.proofs.WhereaboutsLemmas.{whereabouts}
use Rattle.futures_buffered_table.proofs.laws.rule_empties_row.Goals as goal

pub returns : goal.returns
returns c = λ n s held j v h at polls is_stub.
    let R = held.3 in
    let at_stub = (subst (FitsRole n s.words held.0 held.1 held.2 j) polls (R.seats j v at).0).2 in
    let once = subst (λ (k : ℕ). times k (held.0 ∷ held.1) ≤ 1) (sym at_stub) (let d = R.stub_once in omega arith) in
    (whereabouts R, at_stub, alone held.0 held.1 (at_stub ∙ (sym is_stub ∙ sym R.ends)) once)
