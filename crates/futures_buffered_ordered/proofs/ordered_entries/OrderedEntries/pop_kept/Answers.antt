use Rattle.futures_buffered_ordered.proofs.Common.{rules, ◌≡◌, ◌∷◌, ◌+◌, ◌%◌, ◌^◌, List, Option, Some, refl, ap, arith, ◌∙◌, Entry, Kept, numbered_from}
use Rattle.futures_buffered_ordered.proofs.OrderedEntriesInvariantLemmas.{numbered-same, popped_is_numbered}
use Rattle.futures_buffered_ordered.proofs.ordered_entries.OrderedEntries.pop_kept.Goals as goal

pub returns-in-Some-Some : goal.returns-in-Some-Some
returns-in-Some-Some g c =
    let queue = c.self.inside in
    let first = queue.outgoing in
    let left = c.pop_front.new.self.items in
    let output = c.in-Some-Some.output in
    let was : queue.entries.items ≡ Some output ∷ left = search rules in
    let front = ap (λ (l : List (Option g.row.A.Denot)). numbered_from first l) was ∙ ap (λ (l : List (Entry g.row.A.Denot)). Kept output ∷ l) (numbered-same (first + 1) ((first + 1) % 2 ^ 64) left (omega arith)) in
    let numbered = rw (← c.self.view_is) at c.requires.numbered in
    rw (← c.self.view_is) (record {
      front = (front, refl);
      set = refl;
      numbered = popped_is_numbered g.Q.NumberedSet.with_number g.Q.NumberedSet.count _ _ output numbered front refl;
    })
