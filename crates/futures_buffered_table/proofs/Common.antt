-- The names that proofs of this crate use in more than one file.
pub use Rattle.std.proofs.Common.{All, Bool, List, [], ap, append-nil, append_assoc, arith, false, get_or, get_or-set_other, get_or-set_same, inl, inr, length, length-set, ltb, map, nat_eq, refl, replicate, rules, set, subst, suc, sym, take, true, vec_capacity, vec_len, zero, ℕ, ⊎_elim, ◌++◌, ◌+◌, ◌<◌, ◌^◌, ◌∙◌, ◌∷◌, ◌≡◌, ◌≢◌, ◌≤◌, ◌⊎◌}
pub use Rattle.std.proofs.Math.ListN.{get_or-map}
pub use Rattle.std.proofs.Math.Seq.{get_or-append_seam, set-append_seam}
pub use Rattle.std.proofs.lemmas.Bool.Decides.{nat_tests}
pub use Rattle.std.proofs.lemmas.List.{get_or-replicate, get_or_append_left, get_or_default, length-append, length-replicate, map-set, nil_from_length, set-get_or, take-replicate, take_all, take_more}
pub use Rattle.std.specs.Mem.Slots.{slots_items}
pub use Rattle.std.specs.Prelude.{if◌then◌else◌, ◌==◌}
pub use Rattle.atomic_table.proofs.Lists.{at_index, at_last, at_set, at_snoc, set_again, set_else, set_here}
pub use Rattle.atomic_table.specs.Seated.{TableId}
pub use Rattle.atomic_table.specs.Table.{Allows, Arrives, Final, Joins, Me, Seen, Splits, State, keeps, step as table_step}
pub use Rattle.atomic_table.specs.declared.shared.Seat.{Seat}
pub use lib.ListN.{get_elem?}
pub use mathlib.Core.Option.{none, some, some-injective, some-ne-none}
pub use Rattle.futures_buffered_table.specs.Beginning.{all_wakes, entry_before, first_view, full_words, steps_at_first, wake_in_order, wakes_in_order, words_at_first, words_in_order}
pub use Rattle.futures_buffered_table.specs.Closing.{ClosedWords, steps_of}
pub use Rattle.futures_buffered_table.specs.Effect.{InRange, after_first_read, after_slot_read, next_role, next_view, put_by_role, reply_of_role, step_of_role, word_of_role}
pub use Rattle.futures_buffered_table.specs.ReadyList.{AddsSteps, IsInRole, ListIdentity, Poller, Waker}
pub use Rattle.futures_buffered_table.specs.ReadyListInvariant.{KeepsList, KeepsPoller, KeepsSeat, KeepsWaker}
pub use Rattle.futures_buffered_table.specs.Row.{IsLinked, last_entry, next, owed, owed_by, same, times, total}
pub use Rattle.futures_buffered_table.specs.RowInvariant.{FitsPhase, FitsRole, KeepsRow, outside, outside_by}
pub use Rattle.futures_buffered_table.specs.Rule.{HoldsRow, MayFind, PlaysNewWaker, PlaysRole}
pub use Rattle.futures_buffered_table.specs.Schedule.{IsStuckAt, Legal, Moment, after_step, at_start, found_at, replies_of, run, view_at, word_of}
pub use Rattle.futures_buffered_table.specs.ScheduleLaw.{AfterEach, AnswersInOrder, EmptyIsTrue, IsUnderWay, Made, PauseHasCause, Wake, WakerStands, WakerStood, answered, put_in, put_in_by, slot_named, wake_after, wake_of}
pub use Rattle.futures_buffered_table.specs.Step.{CanStep, role_at, seat_of, slot_of}
pub use Rattle.futures_buffered_table.specs.StepMachine.{AreThoseOf, CanMake, IsLedTo, Leads, LeadsOn, Machine, MakesStep, PlacesSlots, replies_to}
pub use Rattle.futures_buffered_table.specs.Tally.{LosesNoMark, is_unmark, is_win, unmarks, wins}
pub use Rattle.futures_buffered_table.specs.Types.{Already, AtStub, AtomicStep, Cleared, Empty, Fresh, Go, Idle, InHand, Last, LinkClear, LinkRead, LinkWrite, Mark, MarkSwap, Moved, NoNext, Pause, Phase, Poll, Polls, Role, Start, Step, StepReply, StubCleared, StubLinked, StubPut, Swapped, TailRead, TailSwap, Unmark, View, WAKE_SEATS, Woke, Won}
pub use Rattle.futures_buffered_table.specs.View.{first_poller, first_views, new_waker_beside, role_of, spent_view, waker_with_steps_of, with_steps_of, without_steps}
pub use Rattle.futures_buffered_table.specs.Whereabouts.{AgreesWith, Whereabouts, takers, takes_by, wakers, wakes_by}
pub use Rattle.futures_buffered_table.specs.Words.{empty_words, link, mark, tail, tail_at}
pub use Rattle.futures_buffered_table.specs.declared.rule.ListKey.{ListKey}
