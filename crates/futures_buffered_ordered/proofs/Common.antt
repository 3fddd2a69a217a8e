-- The names that proofs of this crate use in more than one file.
pub use Rattle.std.proofs.Common.{Bool, Err, IfNone, IfSome, List, MatchOption, None, Ok, OnSome, Option, Some, [], add-one, ap, arith, cond, count_by, false, inl, inr, is_some, length, length-set, max, refl, rules, set, subst, suc, sym, true, vec_len, zero, ℕ, ◌%◌, ◌*◌, ◌++◌, ◌+◌, ◌-◌, ◌<◌, ◌==◌, ◌^◌, ◌∙◌, ◌∷◌, ◌≡◌, ◌≤◌, ◌⊎◌}
pub use Rattle.std.proofs.lemmas.Bool.{cases_lt, eq-eqb}
pub use Rattle.std.proofs.lemmas.Fn.{FoldsTo-push}
pub use Rattle.std.proofs.lemmas.Grind.{common_steps}
pub use Rattle.std.proofs.lemmas.List.{append_assoc, get_or_past, length-replicate, length_push}
pub use Rattle.std.proofs.lemmas.List.Folds.{sum_by-replicate}
pub use Rattle.std.proofs.lemmas.List.Sums.{count_by-le-length, sum_by-cons, sum_by-set, sum_by_push}
pub use Rattle.std.proofs.lemmas.Result.{err_from_is_err_and}
pub use Rattle.std.specs.List.{FoldsTo, slice_get, sum_by}
pub use Rattle.std.specs.VecDeque.{deque_capacity}
pub use Rattle.futures.specs.Poll.{IfReady, OnPending}
pub use Rattle.futures.specs.Task.{Covers, Keeps}
pub use Rattle.futures.specs.declared.task.Poll.{Poll}
pub use Rattle.futures.specs.declared.task.Poll.TheVariants.{Pending, Ready}
pub use Rattle.futures.specs.declared.task.context.Context.{Context}
pub use Rattle.futures_buffered_core.specs.Drawn.{Draws, DrawsAndOne, SaysAtLeast, items_of}
pub use Rattle.futures_buffered_core.specs.ReadyShared.{IsNewShared, MarksShared}
pub use Rattle.futures_buffered_core.specs.SlotMap.{Inserts, Slots, held_count, no_slots, slot_count, value_in, with_slot_freed, with_value}
pub use Rattle.futures_buffered_core.specs.declared.ready_source.ReadySource.{Ghosts as ReadySourceOf}
pub use Rattle.futures_buffered_table.specs.declared.answer.TheConstants.{MAX_CAPACITY}
pub use Rattle.futures_buffered_unordered.proofs.FuturesUnorderedBoundedLemmas.{poll_counted, poll_gave, poll_still}
pub use Rattle.futures_buffered_unordered.proofs.FuturesUnorderedStreamLemmas.{PollsOneGroup}
pub use Rattle.futures_buffered_unordered.proofs.StreamAnswersLemmas.{answers_of, covers_fewer}
pub use Rattle.futures_buffered_unordered.specs.FuturesUnordered.{Growing, IsNewGrowing, SetRefuses, held_in_all}
pub use Rattle.futures_buffered_unordered.specs.FuturesUnorderedBounded.{Bounded, Pushes, held_in, slots_in}
pub use Rattle.futures_buffered_unordered.specs.PollsBounded.{EndsPending, PollsBounded, itself, unless_registered}
pub use Rattle.futures_buffered_unordered.specs.StreamAnswers.{OfSomeTask, StreamAnswers, stream_of}
pub use Rattle.futures_buffered_unordered.specs.declared.poll_one.PollOne.{Ghosts as PollOneOf}
pub use Rattle.futures_buffered_ordered.specs.FuturesOrdered.{GrowingPushesNumber, IsNewGrowingQueue, OrderedGrowing, held_in_groups, held_in_groups_with}
pub use Rattle.futures_buffered_ordered.specs.FuturesOrderedBounded.{EachRunning, OrderedBounded, PollsOrderedBounded, PushesNumber, SameSize, SetGives, SetMayGive, TakesFewNames, bounded_polls, names_of_row}
pub use Rattle.futures_buffered_ordered.specs.Numbered.{NumberedPollsOf, PollsNumbered, PollsNumberedSet, PushesInto, has_number, held_with, of_numbered, one_at, outputs_with}
pub use Rattle.futures_buffered_ordered.specs.OrderedEntries.{AddsBack, AddsEachBack, AddsFront, BesideTask, ComesInOrder, Entry, EntryGives, InTurn, IsLength, IsUnused, Kept, LastStep, MayRefuse, NoNumberTwice, NumberedSetOf, Ordered, OrderedGives, PollsOrdered, PushesOrHandsBack, QueueIsAtBound, RefusesOne, Running, SetYields, is_running, runs_with, starts_running, with_task}
pub use Rattle.futures_buffered_ordered.specs.OrderedEntriesInvariant.{AddingKeeps, IsNumbered, KeepsQueue, entry_of, numbered_from}
pub use Rattle.futures_buffered_ordered.specs.declared.numbered.Numbered.{Numbered}
