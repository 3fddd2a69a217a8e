-- The names that proofs of this crate use in more than one file.
pub use Rattle.std.proofs.Common.{Bool, IsSome, List, MatchOption, None, Option, Some, [], add-one, ap, append-nil, append_assoc, arith, cond, count_by, eqb, false, get_or, inl, inr, is_some, leb, length, length-set, ltb, map, refl, replicate, rules, set, slice_get, subst, suc, sym, take, true, true≢false, vec_capacity, vec_len, zero, ℕ, ◌&&◌, ◌++◌, ◌+◌, ◌-◌, ◌<◌, ◌||◌, ◌∙◌, ◌∷◌, ◌≡◌, ◌≢◌, ◌≤◌, ◌⊎◌}
pub use Rattle.std.proofs.Math.Seq.{get_or-append_seam, map-set_same, set-append_seam, take-append_seam}
pub use Rattle.std.proofs.lemmas.Bool.{eqb-true, or_cases, or_parts, or_right}
pub use Rattle.std.proofs.lemmas.Bool.Decides.{nat_tests}
pub use Rattle.std.proofs.lemmas.Fn.{FoldsTo-push}
pub use Rattle.std.proofs.lemmas.List.{get_or-map, get_or-replicate, get_or-set_other, get_or-set_same, get_or_append_left, get_or_past, get_or_read, length-append, length-map, length-replicate, length_push, map-set, map_push, take-append-le, take_all, take_more, take_more_set}
pub use Rattle.std.proofs.lemmas.List.Folds.{list_any-append, sum_by-replicate}
pub use Rattle.std.proofs.lemmas.Map.Keys.{IsDistinct-cons, IsDistinct-head, IsDistinct-push, IsDistinct-tail}
pub use Rattle.std.proofs.lemmas.Option.{slice_get-get_or, slice_get_within}
pub use Rattle.std.specs.List.{AllByRecursion, IsDistinct, list_any, range_with_len}
pub use Rattle.std.specs.Option.{is_none, option_to_list}
pub use Rattle.futures_buffered_table.specs.Taking.{CallsAtStub, IsTaking}
pub use Rattle.futures_buffered_table.specs.declared.answer.Taken.{Taken}
pub use Rattle.futures_buffered_table.specs.declared.answer.Taken.TheVariants.{Empty, Pause, Slot}
pub use Rattle.futures_buffered_table.specs.declared.answer.Woke.{Woke}
pub use Rattle.futures_buffered_table.specs.declared.answer.Woke.TheVariants.{Already, Fresh}
pub use Rattle.futures_buffered_table.specs.declared.view.AtomicStep.{AtomicStep}
pub use Rattle.futures_buffered_core.specs.History.{Answers, IsOldest, IsRight, IsStanding, IsUnserved, StandInOrder, marks_before, replies_before}
pub use Rattle.futures_buffered_core.specs.KeepsOnce.{KeepsOnce}
pub use Rattle.futures_buffered_core.specs.ReadyCore.{IsNameBelow, MarkGives, TakeGives, is_marked}
pub use Rattle.futures_buffered_core.specs.ReadyCoreInvariant.{KeepsLinks, LeadsThrough, first_link, slots_behind}
pub use Rattle.futures_buffered_core.specs.ReadyShared.{IsNewShared, MarksShared, Shared, SharedOf, lent_after}
pub use Rattle.futures_buffered_core.specs.ReadySource.{IsMadeMarked, MarksEach, MarksSlot, SourceLaws, SourceSteps}
pub use Rattle.futures_buffered_core.specs.SlotMap.{GrowsByOne, Inserts, IsFirstHeld, Slots, all_slots, no_slots, slot_count, value_in, with_slot_freed, with_value}
pub use Rattle.futures_buffered_core.specs.SlotMapInvariant.{KeepsPlaces, free_from, free_list, new_places, next_free, slots_of, value_of}
pub use Rattle.futures_buffered_core.specs.WakerPlace.{GivesUp, Poller, Publisher, PublishesOwn, PutsOrMeets, new_publisher, publisher_of}
pub use Rattle.futures_buffered_core.specs.WrongName.{NamesAllBelow}
pub use Rattle.futures_buffered_core.specs.declared.ready_core.Event.TheVariants.{Mark}
pub use Rattle.futures_buffered_core.specs.declared.ready_core.Reply.{Reply}
pub use Rattle.futures_buffered_core.specs.declared.slot_map.Place.{Place}
pub use Rattle.futures_buffered_core.specs.declared.slot_map.Place.TheVariants.{Free, Held}
