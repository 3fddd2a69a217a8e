use Rattle.futures_buffered_ordered.proofs.Common.{rules, ◌≡◌, ◌+◌, ◌∷◌, ◌-◌, ◌%◌, ◌^◌, List, Option, None, refl, ap, arith, ◌∙◌, err_from_is_err_and, deque_capacity, AddsFront, numbered_from}
use Rattle.futures_buffered_ordered.proofs.OrderedEntriesInvariantLemmas.{added_front, not_added}
use Rattle.futures_buffered_ordered.proofs.ordered_entries.OrderedEntries.add_front.Goals as goal

pub returns-in_err-admit-clause-push : goal.returns-in_err-admit-clause-push
returns-in_err-admit-clause-push g c =
    let queue = c.self.inside in
    let refused = c.in_err-admit.ensures in
    let is_err = err_from_is_err_and c.from_residual.result c.from_residual.ensures.1 in
    rw (← c.self.view_is, is_err.1, is_err.2) (not_added g.Q.NumberedSet AddsFront _ _ c.args.future _ (deque_capacity queue.entries) queue.outgoing queue.entries.items refl c.self.invariant refused.back.0 (rw (refused.back.1, refused.same) refl) refused.refused (rw refused.back.1 (g.met.Q.NumberedSet.keeps_self _)))

pub returns : goal.returns
returns g c =
    let queue = c.self.inside in
    let items = queue.entries.items in
    let now : c.push_front_reserved.new.self.items ≡ None ∷ items = c.push_front_reserved.ensures.items ∙ ap (λ (l : List (Option g.row.A.Denot)). None ∷ l) c.in_ok-admit.ensures.same in
    let numbered = rw (← c.self.view_is) at c.requires.numbered in
    let both = added_front g.Q.NumberedSet _ _ c.args.future _ numbered c.in_ok-admit.ensures.pushed refl queue.outgoing items refl (omega (arith, queue.entries.ok.0, queue.entries.small.0, queue.entries.small.1)) (λ bound. absurd (search (rules, c.in_ok-admit.ensures.large bound))) refl (ap (λ l. numbered_from ((queue.outgoing + (2 ^ 64 - 1)) % 2 ^ 64) l) now) in
    rw (← c.self.view_is) (record { push = both.0; keeps = both.1; again = c.in_ok-admit.ensures.again })
