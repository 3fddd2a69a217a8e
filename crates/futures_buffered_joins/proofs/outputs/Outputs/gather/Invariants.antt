use Rattle.futures_buffered_joins.proofs.Common.{◌≡◌, length, vec_capacity, came_by_place, from_the_first}
use Rattle.futures_buffered_joins.proofs.outputs.Outputs.gather.Given as goal

abbrev pub invariant-places : goal.invariant-places
invariant-places g l =
    record {
      next : length l.gathered.items ≡ l.place;
      room : vec_capacity l.gathered ≡ vec_capacity l.initial.gathered;
      wide : length (from_the_first (vec_capacity l.gathered) l.later.items) ≡ vec_capacity l.gathered;
      same : came_by_place l.gathered.items (from_the_first (vec_capacity l.gathered) l.later.items) ≡ l.fn.self;
    }
