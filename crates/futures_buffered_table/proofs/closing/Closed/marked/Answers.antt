use Rattle.futures_buffered_table.proofs.Common.{◌≡◌, ◌<◌, List, ℕ, ap, sym, ◌∙◌, arith, slots_items, mark, ClosedWords}
use Rattle.futures_buffered_table.proofs.ClosingLemmas.{word_is, marked_is}
use Rattle.futures_buffered_table.proofs.closing.Closed.marked.Goals as goal

pub returns : goal.returns
returns c =
    let i : ℕ = c.args.slot in let f = c.self.inside in
    let words : slots_items f.words.words ≡ c.args.self.now.words = ap (λ (v : ClosedWords). v.words) c.self.view_is in
    let low : i < f.capacity = let a = ap (λ (v : ClosedWords). v.capacity) c.self.view_is in let b = c.requires in omega arith in
    marked_is (mark c.args.self.now.words i) c.word.result
    (ap (λ (l : List ℕ). mark l i) (sym words) ∙ word_is _ i c.word.result c.word.ensures) (let a = c.self.invariant.1.marks i low in
    let b = ap (λ (l : List ℕ). mark l i) words in omega arith)
