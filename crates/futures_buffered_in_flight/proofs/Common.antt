-- The names that proofs of this crate use in more than one file.
pub use Rattle.std.proofs.Common.{All, Bool, IfSome, IsSome, List, None, Option, Some, [], ap, ap₂, arith, cond, count_by, false, get_or, inl, inr, is_some, length, length-set, refl, rules, set, slice_get, subst, suc, sym, true, vec_len, zero, ℕ, ◌++◌, ◌+◌, ◌-◌, ◌<◌, ◌^◌, ◌∙◌, ◌∷◌, ◌≡◌, ◌≢◌, ◌≤◌, ◌⊎◌}
pub use Rattle.std.proofs.lemmas.Bool.{cases_eq, eq-eqb, false≢true, true≢false}
pub use Rattle.std.proofs.lemmas.Fn.{FoldsTo-push}
pub use Rattle.std.proofs.lemmas.Grind.{common_steps}
pub use Rattle.std.proofs.lemmas.List.{get_or-set_other, get_or-set_same, length-append, length-replicate, length_push}
pub use Rattle.std.proofs.lemmas.List.Sums.{get_or-le-sum_by, sum_by-append, sum_by-cons, sum_by-set}
pub use Rattle.std.proofs.lemmas.Option.{same_Some}
pub use Rattle.std.specs.List.{AllByRecursion, FoldsTo, range_with_len, sum_by}
pub use Rattle.std.specs.Prelude.{Err, IfErr, IsErr, MatchOption, MatchResult, Ok, OnOk, Result, max, min, replicate}
pub use Rattle.std.specs.Vec.Iter.{into_iter_items}
pub use Rattle.futures.specs.Poll.{IfReady, OnPending}
pub use Rattle.futures.specs.Queued.{AllPollable, AnyGives, AnyMay, Gathers, GivesNoMore, set_len, set_places}
pub use Rattle.futures.specs.Runs.{After, Chains, Ends, Leads, Runs, Within}
pub use Rattle.futures.specs.Task.{Covers, IsArmed, Keeps, Lasting}
pub use Rattle.futures.specs.declared.task.Poll.{Poll}
pub use Rattle.futures.specs.declared.task.Poll.TheVariants.{Pending, Ready}
pub use Rattle.futures.specs.declared.task.context.Context.{Context}
pub use Rattle.futures_buffered_core.specs.Drawn.{Draws, Items, items_of}
pub use Rattle.futures_buffered_core.specs.SlotMap.{Inserts, Slots, held_count, no_slots, slot_count, value_in, with_slot_freed}
pub use Rattle.futures_buffered_table.specs.declared.answer.TheConstants.{MAX_CAPACITY}
pub use Rattle.futures_buffered_unordered.proofs.HeldGivesLemmas.{Gathers-After, Gathers-Within, None-Some, value_in-with_slot_freed, value_in-with_slot_freed_other}
pub use Rattle.futures_buffered_unordered.proofs.StreamAnswersLemmas.{answers_of}
pub use Rattle.futures_buffered_unordered.specs.FuturesUnorderedBounded.{IsWoken}
pub use Rattle.futures_buffered_unordered.specs.StreamAnswers.{StreamAnswers, stream_of}
pub use Rattle.futures_buffered_ordered.specs.Numbered.{PollsNumberedSet, PushesInto, one_at}
pub use Rattle.futures_buffered_ordered.specs.OrderedEntries.{AddsBack, AddsFront, BesideTask, HandsBack, IsUnused, MayRefuse, Ordered, OrderedGives, PollsOrdered, QueueIsAtBound, SetYields, with_task}
pub use Rattle.futures_buffered_in_flight.specs.InFlight.{AnySlotGives, CameInFlight, CanPollAll, Cancels, ComesByKey, ComesFromSlots, EntersAt, FliesInOrder, Flights, FlightsGiveNoMore, FlightsWaitAt, FutureOf, GivesByKey, GivesWithKey, HasNoRoom, IsHeld, IsNewInFlight, IsUsedUp, MakesRoom, MayCome, PollsInFlight, PushesInFlight, SlotGives, TagGives, WaitGives, WentIn, flight_slots, room_taken, run_count, runs_in, without_key}
pub use Rattle.futures_buffered_in_flight.specs.InFlightLedger.{Agrees, CanPollRun, KeepsLedger, Outcome, RunGives, times_held, times_in}
pub use Rattle.futures_buffered_in_flight.specs.InFlightMerge.{AnswersNoMore, AnswersThen, AnyAnswers, AnyStream, CameOfMerge, CanPollStreams, ComesFromMerged, ComesOfStream, GivesAnswer, HoldsStream, HoldsStreams, IsNewMerge, Merged, MergedWaitsAt, OneGoesOn, OneStreamEndsAtMost, PollsMerge, PollsUnkeyed, StreamEnters, StreamOf, StreamWentIn, Streams, StreamsGoOn, made_set, next_of, streams_held}
pub use Rattle.futures_buffered_in_flight.specs.InFlightOrdered.{AnswersInTurn, CameInTurn, CanPollOrdered, ComesOfEach, EntersBack, EntersFront, HasPlaces, HoldsInTurn, IsCleared, IsNewInOrder, KeepsInOrder, MayRefuseFuture, OrderedIsFull, OrderedWaitsAt, PushesInTurn, PushesOrComesBack, RefusesFutures, ordered_room}
pub use Rattle.futures_buffered_in_flight.specs.InFlightQueue.{CanPollQueue, KeepsRoom, MayRefuseNumber, PollsQueued, PushesQueued, RefusesNumbers, flights_with, has_tag}
pub use Rattle.futures_buffered_in_flight.specs.InFlightTurns.{Flies, RunsLeft, Starts, Takes}
pub use Rattle.futures_buffered_in_flight.specs.declared.in_flight.Came.{Came}
pub use Rattle.futures_buffered_in_flight.specs.declared.in_flight.Place.{Place}
pub use Rattle.futures_buffered_in_flight.specs.declared.run.Key.{Key}
pub use Rattle.futures_buffered_in_flight.specs.declared.run.Run.{Run}
pub use Rattle.futures_buffered_in_flight.specs.declared.run.Waits.{Waits}
