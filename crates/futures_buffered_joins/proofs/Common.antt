-- The names that proofs of this crate use in more than one file.
pub use Rattle.std.proofs.Common.{Bool, Err, IfSome, IsSome, IsSomeAnd, List, None, Ok, Option, Some, [], ap, arith, cond, drop, false, get_or, inl, inr, is_some, length, map, refl, replicate, rules, set, slice_get, subst, suc, sym, true, vec_capacity, zero, ℕ, ◌++◌, ◌+◌, ◌-◌, ◌<◌, ◌∙◌, ◌∷◌, ◌≡◌, ◌≤◌}
pub use Rattle.std.proofs.lemmas.Bool.{cases_eq, cases_lt}
pub use Rattle.std.proofs.lemmas.List.{append-nil, get_or-map, get_or-replicate, get_or-set_other, get_or-set_same, get_or_default, get_or_past, length-map, length-replicate, length-set, map-set}
pub use Rattle.std.proofs.lemmas.List.Sums.{count_by-le-length, sum_by-cons}
pub use Rattle.std.proofs.lemmas.Option.{get_or_from_slice_get, slice_get_within}
pub use Rattle.std.specs.List.{FoldsTo, count_by}
pub use Rattle.std.specs.Vec.{vec_len}
pub use Rattle.futures.specs.declared.task.Poll.{Poll}
pub use Rattle.futures.specs.declared.task.Poll.TheVariants.{Pending, Ready}
pub use Rattle.futures.specs.declared.task.context.Context.{Context}
pub use Rattle.futures_buffered_core.specs.SlotMap.{Slots, slot_count, value_in, with_slot_freed}
pub use Rattle.futures_buffered_in_flight.specs.InFlight.{CanPollAll, FliesInOrder, Flights, FlightsWaitAt, FutureOf, PollsInFlight, SlotGives}
pub use Rattle.futures_buffered_unordered.proofs.HeldGivesLemmas.{None-Some, gives_others, gives_passed, value_in-with_slot_freed, value_in-with_slot_freed_other}
pub use Rattle.futures_buffered_unordered.specs.FuturesUnorderedBounded.{Bounded, HoldsEach}
pub use Rattle.futures_buffered_joins.specs.InFlightJoin.{FlightsGive, flights_waiting}
pub use Rattle.futures_buffered_joins.specs.Outputs.{MayComeAll, MayComeAt, WaitsOrCame, came_by_place, from_the_first, output_in, waiting_count}
pub use Rattle.futures_buffered_joins.specs.Placed.{PlacedPollsOf, PollsPlaced}
pub use Rattle.futures_buffered_joins.specs.SlotsJoin.{ItemMayGive, MayGiveAt, ReadySourceOf, SlotFutureOf, SlotsGive, slots_waiting}
