use Rattle.futures_buffered_joins.proofs.Common.{rules, arith, ◌≡◌, ◌<◌, ◌≤◌, ◌-◌, ◌++◌, ◌∷◌, [], length, set, Some, None, sym, ap, subst, ◌∙◌, vec_capacity, vec_len, came_by_place, from_the_first, output_in}
use Rattle.futures_buffered_joins.proofs.OutputsLemmas.{after_gathered, comes_later, comes_next, later_below, later_set}
use Rattle.futures_buffered_joins.proofs.outputs.Outputs.put.Goals as goal

pub overflow_sub-place : goal.overflow_sub-place
overflow_sub-place g c =
    let v = c.self.inside.gathered in let place = c.args.place in
    let fits : length v.items ≤ vec_capacity v = search rules in
    let len : vec_len v ≡ length v.items = search rules in
    let at = after_gathered v.items (vec_capacity v) c.self.inside.later.items place c.self.invariant fits
    (subst (λ s. place < length s) (sym c.self.view_is) c.requires.0)
    (subst (λ s. output_in s place ≡ None) (sym c.self.view_is) c.requires.1) in
    let after = at.0 in let is = c.len.ensures in let ne = c.if-place-len.false in
    omega arith

pub index_mut-requires : goal.index_mut-requires
index_mut-requires g c =
    let v = c.self.inside.gathered in let place = c.args.place in let later = c.self.inside.later in
    let fits : length v.items ≤ vec_capacity v = search rules in
    let len : vec_len v ≡ length v.items = search rules in
    let of_later : vec_len later ≡ length later.items = search rules in
    let at = after_gathered v.items (vec_capacity v) later.items place c.self.invariant fits
    (subst (λ s. place < length s) (sym c.self.view_is) c.requires.0)
    (subst (λ s. output_in s place ≡ None) (sym c.self.view_is) c.requires.1) in
    let after = at.0 in let is = c.len.ensures in let ne = c.if-place-len.false in
    let below = later_below (vec_capacity v) later.items place c.self.invariant at.1 (omega arith) in
    omega arith

pub returns-then-place-len : goal.returns-then-place-len
returns-then-place-len g c =
    let v = c.self.inside.gathered in let now = c.push_reserved.new.self in let place = c.args.place in let later = c.self.inside.later.items in
    let x = c.args.output in
    let fits : length v.items ≤ vec_capacity v = search rules in
    let len : vec_len v ≡ length v.items = search rules in
    let at = after_gathered v.items (vec_capacity v) later place c.self.invariant fits
    (subst (λ s. place < length s) (sym c.self.view_is) c.requires.0)
    (subst (λ s. output_in s place ≡ None) (sym c.self.view_is) c.requires.1) in
    let below = at.1 in let is = c.len.ensures in let same = c.if-place-len.true in let wide = c.self.invariant in
    let next : length v.items ≡ place = omega arith in
    ap (λ items. came_by_place items (from_the_first (vec_capacity now) later)) c.push_reserved.ensures.items
    ∙ (ap (λ n. came_by_place (v.items ++ x ∷ []) (from_the_first n later)) c.push_reserved.ensures.capacity
    ∙ (comes_next v.items (from_the_first (vec_capacity v) later) x (omega arith)
    ∙ (ap (λ k. set (came_by_place v.items (from_the_first (vec_capacity v) later)) k (Some x)) next
    ∙ ap (λ s. set s place (Some x)) c.self.view_is)))

pub returns-else-place-len : goal.returns-else-place-len
returns-else-place-len g c =
    let v = c.self.inside.gathered in let place = c.args.place in let later = c.self.inside.later.items in
    let x = c.args.output in
    let fits : length v.items ≤ vec_capacity v = search rules in
    let len : vec_len v ≡ length v.items = search rules in
    let at = after_gathered v.items (vec_capacity v) later place c.self.invariant fits
    (subst (λ s. place < length s) (sym c.self.view_is) c.requires.0)
    (subst (λ s. output_in s place ≡ None) (sym c.self.view_is) c.requires.1) in
    let after = at.0 in let below = at.1 in let is = c.len.ensures in let ne = c.if-place-len.false in let wide = c.self.invariant in
    let all = from_the_first (vec_capacity v) later in
    let put : came_by_place v.items (from_the_first (vec_capacity v) (set later (place - 1) (Some x))) ≡ set c.args.self.now place (Some x) =
    ap (came_by_place v.items) (later_set (vec_capacity v) later place (Some x) (omega arith) (omega arith))
    ∙ (comes_later v.items all place (Some x) after (omega arith) ∙ ap (λ s. set s place (Some x)) c.self.view_is) in
    grind (arith)
