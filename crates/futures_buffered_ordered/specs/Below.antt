-- The names from other crates that contracts and definitions of this crate use in more than one file.
pub use Rattle.std.specs.List.{FoldsTo, slice_get, sum_by}
pub use Rattle.futures.specs.declared.task.Poll.{Poll}
pub use Rattle.futures.specs.declared.task.Poll.TheVariants.{Pending, Ready}
pub use Rattle.futures.specs.declared.task.context.Context.{Context}
pub use Rattle.futures_buffered_core.specs.Drawn.{IsFiniteSource, Items, items_of}
pub use Rattle.futures_buffered_core.specs.SlotMap.{slot_count}
pub use Rattle.futures_buffered_table.specs.declared.answer.NewFault.{NewFault}
pub use Rattle.futures_buffered_table.specs.declared.answer.Woke.{Woke}
pub use Rattle.futures_buffered_unordered.specs.Extended.{Extends, MakesFull, MakesGrown}
pub use Rattle.futures_buffered_unordered.specs.FuturesUnorderedBounded.{Bounded, IsNewSet, Pushes, emptied, held_in}
pub use Rattle.futures_buffered_unordered.specs.FuturesUnorderedBounded.{slots_in}
pub use Rattle.futures_buffered_unordered.specs.PollsBounded.{PollsBounded}
pub use Rattle.futures_buffered_unordered.specs.declared.poll_one.PollOne.{Ghosts as PollOneOf}
