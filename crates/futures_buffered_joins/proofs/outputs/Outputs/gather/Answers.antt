use Rattle.futures_buffered_joins.proofs.Common.{rules, arith, ◌≡◌, ◌-◌, ◌++◌, ◌∷◌, [], length, set, get_or, Some, None, sym, ap, ◌∙◌, vec_capacity, vec_len, get_or_default, length-set, came_by_place, from_the_first}
use Rattle.futures_buffered_joins.proofs.OutputsLemmas.{is_gathered, later_at, later_set, next_came, not_none}
use Rattle.futures_buffered_joins.proofs.outputs.Outputs.gather.Goals as goal

pub overflow_sub-place : goal.overflow_sub-place
overflow_sub-place g c =
    let so = c.places.invariant in let ends = c.capacity-place-end.ensures in let test = c.places-test.true in let room = so.room in
    let came = next_came c.places.gathered.items (vec_capacity c.places.gathered) c.places.later.items c.args.self c.places.place so.wide so.same so.next (omega arith) c.requires in
    let far = came.0 in omega arith

pub index_mut-requires : goal.index_mut-requires
index_mut-requires g c =
    let so = c.places.invariant in let ends = c.capacity-place-end.ensures in let test = c.places-test.true in let room = so.room in
    let later = c.places.later in
    let came = next_came c.places.gathered.items (vec_capacity c.places.gathered) later.items c.args.self c.places.place so.wide so.same so.next (omega arith) c.requires in
    let below = came.1 in
    let len : vec_len later ≡ length later.items = search rules in
    omega arith

pub unreachable-requires : goal.unreachable-requires
unreachable-requires g c =
    let so = c.places.invariant in let ends = c.capacity-place-end.ensures in let test = c.places-test.true in let room = so.room in
    let later = c.places.later.items in let k = c.places.place in
    let came = next_came c.places.gathered.items (vec_capacity c.places.gathered) later c.args.self k so.wide so.same so.next (omega arith) c.requires in
    let none : get_or later (k - 1) None ≡ None = get_or_default later (k - 1) None c.index_mut.result.now came.1
    ∙ (sym c.index_mut.ensures.value ∙ (sym c.take.ensures.value ∙ c.in-None.is)) in
    not_none _ none came.2

pub places-preserved : goal.places-preserved
places-preserved g c =
    let so = c.places.invariant in let ends = c.capacity-place-end.ensures in let test = c.places-test.true in let room = so.room in
    let v = c.places.gathered in let later = c.places.later.items in let k = c.places.place in let x = c.in-Some.output in
    let n = vec_capacity v in let now = c.push_reserved.new.self in
    let came = next_came v.items n later c.args.self k so.wide so.same so.next (omega arith) c.requires in
    let far = came.0 in let next = so.next in let wide = so.wide in
    let was : get_or later (k - 1) None ≡ Some x = get_or_default later (k - 1) None c.index_mut.result.now came.1
    ∙ (sym c.index_mut.ensures.value ∙ (sym c.take.ensures.value ∙ c.in-Some.is)) in
    let all = from_the_first n later in
    let there : get_or all (length v.items) None ≡ Some x = ap (λ i. get_or all i None) next
    ∙ (sym (later_at n later k (omega arith) far) ∙ was) in
    let left : from_the_first (vec_capacity now) (set later (k - 1) c.take.new.self) ≡ set all (length v.items) None =
    ap (λ m. from_the_first m (set later (k - 1) c.take.new.self)) c.push_reserved.ensures.capacity
    ∙ (ap (λ o. from_the_first n (set later (k - 1) o)) c.take.ensures.after
    ∙ (later_set n later k None (omega arith) far ∙ ap (λ i. set all i None) (sym next))) in
    let pushed = c.push_reserved.ensures.items in
    record {
      next = (let len = ap length pushed in search rules);
      room = c.push_reserved.ensures.capacity ∙ so.room;
      wide = ap length left ∙ (length-set all (length v.items) None ∙ (so.wide ∙ sym c.push_reserved.ensures.capacity));
      same = ap (λ items. came_by_place items (from_the_first (vec_capacity now) (set later (k - 1) c.take.new.self))) pushed
          ∙ (ap (came_by_place (v.items ++ x ∷ [])) left ∙ (is_gathered v.items all x (omega arith) there ∙ so.same));
    }
