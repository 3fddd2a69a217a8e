-- The names from other crates that contracts and definitions of this crate use in more than one file.
pub use Rattle.std.specs.Coded.{Coded, code_by, coded_option, coded_ℕ, coded×}
pub use Rattle.std.specs.List.{AllZip, FoldsTo}
pub use Rattle.futures.specs.Poll.{IfReady, OnPending}
pub use Rattle.futures.specs.Task.{Covers, Keeps}
pub use Rattle.futures.specs.declared.task.Poll.{Poll}
pub use Rattle.futures.specs.declared.task.Poll.TheVariants.{Pending, Ready}
pub use Rattle.futures.specs.declared.task.context.Context.{Context}
pub use Rattle.futures_buffered_core.specs.Made.{MakesSlots}
pub use Rattle.futures_buffered_core.specs.ReadyShared.{IsNewShared, MarksShared}
pub use Rattle.futures_buffered_core.specs.SlotMap.{Slots, held_count, slot_count, value_in}
pub use Rattle.futures_buffered_core.specs.declared.ready_source.ReadySource.{Ghosts as ReadySourceOf}
pub use Rattle.futures_buffered_in_flight.specs.InFlightQueue.{CanPollQueue, PollsQueued, PushesQueued}
pub use Rattle.futures_buffered_ordered.specs.FuturesOrderedBounded.{HoldsInOrder, IsNewBoundedQueue}
pub use Rattle.futures_buffered_ordered.specs.FuturesOrderedBounded.{OrderedBounded, PollsOrderedBounded, PushesNumber}
pub use Rattle.futures_buffered_ordered.specs.FuturesOrderedBounded.{SetGives}
pub use Rattle.futures_buffered_unordered.specs.FuturesUnorderedBounded.{Bounded, HoldsEach, IsNewSet, IsWoken, Pushes}
pub use Rattle.futures_buffered_unordered.specs.FuturesUnorderedBounded.{held_in, slots_in}
pub use Rattle.futures_buffered_unordered.specs.PollsBounded.{PollsBounded, itself}
pub use Rattle.futures_buffered_unordered.specs.StreamAnswers.{OfSomeTask, StreamAnswers, StreamOf}
