-- The names that proofs of this crate use in more than one file.
pub use Rattle.std.proofs.Common.{Bool, Err, IfNone, IfSome, IsSome, IsTrue, List, MatchOption, None, OnSome, Option, Some, [], ap, append-nil, arith, cond, drop, false, get_or, inl, inr, is_some, length, length-set, map, refl, rules, set, subst, suc, sym, take, true, true≢false, zero, ℕ, ◌*◌, ◌++◌, ◌+◌, ◌-◌, ◌<◌, ◌==◌, ◌↔◌, ◌∙◌, ◌∷◌, ◌≡◌, ◌≢◌, ◌≤◌, ◌⊎◌}
pub use Rattle.std.proofs.lemmas.Bool.{cases_eq, cases_lt, eq-eqb, ne_eqb}
pub use Rattle.std.proofs.lemmas.Bool.Decides.{nat_tests}
pub use Rattle.std.proofs.lemmas.Fn.{FoldsTo-push}
pub use Rattle.std.proofs.lemmas.Grind.{common_steps}
pub use Rattle.std.proofs.lemmas.List.{append_assoc, drop-set-lt, drop_all, drop_at, drop_more, get_or-append_right, get_or-drop, get_or-set_other, get_or-set_same, get_or-take, get_or_append_left, get_or_past, get_or_push, length-append, length-drop, length-map, length-replicate, length-take, length-take-le, length_push, map-append, map_push, set_split, take-append-drop, take-set, take_at}
pub use Rattle.std.proofs.lemmas.List.Elements.{All-append, All-push, All-set, All-tail, filter_map-append}
pub use Rattle.std.proofs.lemmas.List.Sums.{get_or-le-sum_by, sum_by-append, sum_by-cons, sum_by-set, sum_by-take-drop, sum_by_more, sum_by_push}
pub use Rattle.std.specs.List.{All, AllByRecursion, FoldsTo, sum_by}
pub use Rattle.std.specs.Prelude.{⊤}
pub use Rattle.futures.specs.Poll.{IfReady, OnPending}
pub use Rattle.futures.specs.Runs.{After, Within, seconds}
pub use Rattle.futures.specs.Task.{Covers, Hears, Keeps, Lasting}
pub use Rattle.futures.specs.declared.task.Poll.{Poll}
pub use Rattle.futures.specs.declared.task.Poll.TheVariants.{Pending, Ready}
pub use Rattle.futures.specs.declared.task.context.Context.{Context}
pub use Rattle.futures_buffered_core.specs.Drawn.{Draws, DrawsAndOne, Items, SaysAtLeast, items_of}
pub use Rattle.futures_buffered_core.specs.ReadySource.{WaitsAlike}
pub use Rattle.futures_buffered_core.specs.SlotMap.{Inserts, IsFull, Slots, held_count, no_slots, slot_count, value_in, with_slot_freed, with_value}
pub use Rattle.futures_buffered_table.specs.declared.answer.NewFault.TheVariants.{TooLarge}
pub use Rattle.futures_buffered_table.specs.declared.answer.Taken.{Taken}
pub use Rattle.futures_buffered_table.specs.declared.answer.Taken.TheVariants.{Empty, Pause, Slot}
pub use Rattle.futures_buffered_table.specs.declared.answer.TheConstants.{MAX_CAPACITY}
pub use Rattle.futures_buffered_table.specs.declared.answer.Woke.{Woke}
pub use Rattle.futures_buffered_unordered.specs.Extended.{ExtendsUntil}
pub use Rattle.futures_buffered_unordered.specs.FuturesUnordered.{AnyGroupMayGive, AnyNeeds, ComesFromGroups, EachCovered, EachHeld, Growing, GrowingPushes, IsNewGrowing, PushesEach, SetMayRefuse, held_in_all, next_capacity, no_groups, spare_places}
pub use Rattle.futures_buffered_unordered.specs.FuturesUnorderedBounded.{Bounded, IsNewSet, IsWoken, Pushes, held_in}
pub use Rattle.futures_buffered_unordered.specs.FuturesUnorderedInvariant.{AddsGroup, AllWaitAlike, IsGroup, KeepsGroup, KeepsGroups, SameKind}
pub use Rattle.futures_buffered_unordered.specs.Groups.{AnyOf, AsksEach, AsksEachOnce, AsksInTurn, AsksOne, Groups, LeavesBetween, in_turn, next_place, outputs_in}
pub use Rattle.futures_buffered_unordered.specs.Held.{AllHeld, AnyMayGive, ComesFrom, EndsWith, MayGive, Passes, Yields}
pub use Rattle.futures_buffered_unordered.specs.MergeBounded.{ComesFromStreams, HeldInTurn, KeepsOrder, KeepsOrderWithPushes, SlotsGaveInTurn, StreamsGave, answered, answers_of, items_at, pushed, streams_of}
pub use Rattle.futures_buffered_unordered.specs.MergeUnbounded.{GroupMayGive, GroupsGaveInTurn, HoldsNone, ItemsComeFromGroups, KeepsOrderInGroups, KeepsOrderInGroupsWithPushes, PollsMergeUnbounded, slots_of_each}
pub use Rattle.futures_buffered_unordered.specs.Merging.{LastRound, PollsMergeBounded, RoundEnds, SlotStreamOf, each_stream}
pub use Rattle.futures_buffered_unordered.specs.PollsBounded.{EndsPending, PollOneOf, PollsBounded, ReadySourceOf, RegistersAndTakes, TakesNames, unless_registered}
pub use Rattle.futures_buffered_unordered.specs.SlotStream.{Became, Gave, IsNoEnd, item_of, items_in}
pub use Rattle.futures_buffered_unordered.specs.StreamAnswers.{OfSomeTask, StreamAnswers, StreamOf, stream_of}
pub use Rattle.futures_buffered_unordered.specs.declared.futures_unordered.TheConstants.{FIRST_GROUP, MAX_HELD}
