-- The names that proofs of this crate use in more than one file.
pub use Rattle.std.proofs.Common.{Bool, Err, IfNone, IfSome, IsSomeAnd, List, MatchOption, None, Ok, Option, Result, Some, [], ap, append-nil, append_assoc, arith, cond, count_by, false, filter_map, get_or, inl, inr, is_some, length, length-append, length-set, map, refl, rules, set, subst, suc, sym, true, zero, ℕ, ◌++◌, ◌+◌, ◌-◌, ◌<◌, ◌∙◌, ◌∷◌, ◌≡◌, ◌≢◌, ◌≤◌, ◌⊎◌}
pub use Rattle.std.proofs.lemmas.Bool.{cases_eq, eq-eqb}
pub use Rattle.std.proofs.lemmas.Fn.{FoldsTo-push, chained_keeps}
pub use Rattle.std.proofs.lemmas.List.{get_or-set_other, get_or-set_same, length-replicate, length_push, map-append, map-id, nil_from_length, set-get_or, set-set}
pub use Rattle.std.proofs.lemmas.List.Sums.{count_by-le-length, get_or-le-sum_by, sum_by-cons, sum_by-set, sum_by_push}
pub use Rattle.std.proofs.lemmas.Option.{none-some, same_Some}
pub use Rattle.std.proofs.lemmas.Slice.Zip.{all_zipped_more}
pub use Rattle.std.specs.List.{AllByRecursion, AllZip, FoldsTo, slice_get}
pub use Rattle.std.specs.Option.{option_to_list}
pub use Rattle.std.specs.Prelude.{IsPermutation}
pub use Rattle.futures.proofs.RunLemmas.{AtEachItem-Within, Maps-Leads, Maps-Within, Maps_end}
pub use Rattle.futures.specs.Poll.{IfReady, OnPending}
pub use Rattle.futures.specs.Runs.{After, AllItems, Calls, Chains, Ends, Leads, Resolves, Runs, Turns, Within, firsts, seconds}
pub use Rattle.futures.specs.Task.{Covers, Hears, IsArmed, Keeps, Lasting}
pub use Rattle.futures.specs.declared.task.Poll.{Poll}
pub use Rattle.futures.specs.declared.task.Poll.TheVariants.{Pending, Ready}
pub use Rattle.futures.specs.declared.task.context.Context.{Context}
pub use Rattle.futures_buffered.specs.Buffer.{Accounts, Ahead, AsksStream, BufferGives, Buffering, CallEnds, CallsInTurn, DrawsItem, DrawsLast, DrawsNone, DrawsTask, FillsBuffer, Follows, FutureQueueOf, HasNoTurn, IsNewBuffer, OneComes, PollsBuffer, PollsStream, StreamOf, WaitsAt, all_drawn, all_outputs, answer_from, buffer_of, output_given}
pub use Rattle.futures_buffered.specs.BufferUnordered.{LosesNothing, MayGiveInSlot, PendsTo, TryLosesNothing, WaitsInSlot, held_values}
pub use Rattle.futures_buffered.specs.BufferedOrdered.{BecomesEntry, GivesInOrder, TryGivesInOrder, queue_len, queue_slots}
pub use Rattle.futures_buffered.specs.FutureQueue.{AddsOutput, LeavesHeld, MayCome, OnlyPushes, PollsFutureQueue, PushAddsOutput, PushLeavesQueue}
pub use Rattle.futures_buffered.specs.TryBuffer.{PushesOk, TryItemGives, WithErrors, futures_of}
pub use Rattle.futures_buffered.specs.Turns.{PollsInTurns, TakesTurn, TurnLeaves, TurnsOf, so_far}
pub use Rattle.futures_buffered_core.specs.SlotMap.{Inserts, Slots, held_count, value_in, with_slot_freed, with_value}
pub use Rattle.futures_buffered_core.specs.declared.ready_source.ReadySource.{Ghosts as ReadySourceOf}
pub use Rattle.futures_buffered_ordered.proofs.NumberedLemmas.{count-names, in_slot, in_slots, none_held, numbers_inserted, numbers_polled}
pub use Rattle.futures_buffered_ordered.proofs.OrderedEntriesLemmas.{as_many_of, comes_behind, empty_of, fewer_of, no_more_of, unused_none}
pub use Rattle.futures_buffered_ordered.specs.FuturesOrderedBounded.{EachRunning, OrderedBounded, PollsOrderedBounded, PushesNumber, SetGives, SetMayGive}
pub use Rattle.futures_buffered_ordered.specs.Numbered.{CanPollFuture, PollsNumbered, held_with, one_at}
pub use Rattle.futures_buffered_ordered.specs.OrderedEntries.{AddsBack, ComesInOrder, EachHasOne, Entry, InTurn, IsUnused, Kept, LastStep, Ordered, OrderedGives, Running, SetYields, runs_with, starts_running}
pub use Rattle.futures_buffered_ordered.specs.declared.numbered.Numbered.{Numbered}
pub use Rattle.futures_buffered_table.specs.declared.answer.Woke.{Woke}
pub use Rattle.futures_buffered_unordered.proofs.HeldGivesLemmas.{Gathers-After, Gathers-Within, value_in-with_slot_freed_other}
pub use Rattle.futures_buffered_unordered.proofs.HeldLemmas.{AllHeld-push, apart, held_within, value_in-with_value, value_inserted, value_inserted_other}
pub use Rattle.futures_buffered_unordered.proofs.StreamAnswersLemmas.{answers_of}
pub use Rattle.futures_buffered_unordered.specs.FuturesUnorderedBounded.{Bounded, HoldsEach, IsWoken, Pushes, held_in, slots_in}
pub use Rattle.futures_buffered_unordered.specs.Held.{AllHeld, ComesFrom, MayGive, Passes, Yields}
pub use Rattle.futures_buffered_unordered.specs.PollsBounded.{PollsBounded, itself}
pub use Rattle.futures_buffered_unordered.specs.StreamAnswers.{OfSomeTask, StreamAnswers, stream_of}
pub use Rattle.futures_buffered_unordered.specs.declared.poll_one.PollOne.{Ghosts as PollOneOf}
pub use Rattle.futures_buffered_unordered.specs.declared.slot_future.SlotFuture.{Ghosts as SlotFutureOf}
