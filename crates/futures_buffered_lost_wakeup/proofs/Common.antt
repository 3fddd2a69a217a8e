-- The names that proofs of this crate use in more than one file.
pub use Rattle.std.proofs.Common.{Bool, List, [], ap, append-nil, arith, false, get_or, inl, inr, map, refl, subst, suc, sym, true, zero, ℕ, ⊎_elim, ◌++◌, ◌<◌, ◌∙◌, ◌∷◌, ◌≡◌, ◌≢◌, ◌⊎◌}
pub use Rattle.std.proofs.lemmas.Bool.{cases_eq, cases_lt}
pub use Rattle.std.specs.Prelude.{None, Option, Some, if◌then◌else◌, ◌==◌}
pub use Rattle.futures_buffered_place.specs.declared.view.Deed.TheVariants.{Leave, Look, Lose, Put, Win, WinFree}
pub use Rattle.futures_buffered_table.proofs.Common.{CanStep, KeepsRow, after_step, first_poller, found_at, get_elem?, get_or-map, mark, new_waker_beside, next_role, next_view, outside_by, reply_of_role, role_of, seat_of, set_else, set_here, slot_of, some, some-injective, spent_view, times, view_at, word_of_role}
pub use Rattle.futures_buffered_table.proofs.EffectLemmas.{IsPolls, role_polls}
pub use Rattle.futures_buffered_table.proofs.RowLemmas.{alone, in_hand, put_by, row_slots, same_else, slots_slot, slots_stub, total_none}
pub use Rattle.futures_buffered_table.proofs.ScheduleLemmas.{IsReachable, pending, reachable_start, step_reaches}
pub use Rattle.futures_buffered_table.specs.declared.answer.Taken.TheVariants.{Empty, Pause, Slot}
pub use Rattle.futures_buffered_table.specs.declared.answer.Woke.TheVariants.{Already, Fresh}
pub use Rattle.futures_buffered_table.specs.declared.step.StepReply.{StepReply}
pub use Rattle.futures_buffered_table.specs.declared.step.StepReply.TheVariants.{More, Taken, Woke}
pub use Rattle.futures_buffered_table.specs.declared.step.TheConstants.{WAKE_SEATS}
pub use Rattle.futures_buffered_table.specs.declared.view.AtomicStep.{AtomicStep}
pub use Rattle.futures_buffered_table.specs.declared.view.Role.{Role}
pub use Rattle.futures_buffered_table.specs.declared.view.Role.TheVariants.{Cleared, Idle, Polls, Swapped, Won}
pub use Rattle.futures_buffered_table.specs.declared.view.View.{View}
pub use Rattle.futures_buffered_lost_wakeup.specs.Agents.{Act, Asks, Away, Errand, Fills, GoesBack, GoesFree, GoesKept, GoesOut, GoesVacant, Has, Inside, IsRight, LaysOut, LetsGo, Looks, Met, Parked, Registers, Rests, Sibling, TakesBack, Tries, Turn, Wakes, Writes, sibling_after, turn_after, wake_after, wanted_by_sibling, wanted_by_turn}
pub use Rattle.futures_buffered_lost_wakeup.specs.Scene.{ASibling, AWake, AllRest, Begin, CanDo, DropsOther, Event, Filling, FillingBetween, FromSibling, InList, IsAtStart, IsAtStub, IsAway, IsBetween, IsDropped, IsTrueOf, KeepOwn, Kept, Lacks, Legal, Lent, MakesSibling, Misses, NoWakeIsLost, PollerDoes, PollerWakes, Scene, SiblingDoes, SiblingWakes, Stage, Stop, ThePoller, Vacant, WakeDoes, WakeWakes, after, after_reply, changed, first, owner, poller_did, poller_role, run, sibling_did, wake_did, with_errand, with_woken, word}
