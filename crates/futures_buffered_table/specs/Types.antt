-- The types of the crate, their variants and `WAKE_SEATS`, passed on from one place. Declares nothing.
pub use Rattle.futures_buffered_table.specs.declared.answer.Woke.{Woke}
pub use Rattle.futures_buffered_table.specs.declared.answer.Woke.TheVariants.{Fresh, Already}
pub use Rattle.futures_buffered_table.specs.declared.answer.Taken.{Taken}
pub use Rattle.futures_buffered_table.specs.declared.answer.Taken.TheVariants.{Slot, Empty, Pause}
pub use Rattle.futures_buffered_table.specs.declared.view.AtomicStep.{AtomicStep}
pub use Rattle.futures_buffered_table.specs.declared.view.AtomicStep.TheVariants.{MarkSwap, LinkClear, TailSwap}
pub use Rattle.futures_buffered_table.specs.declared.view.AtomicStep.TheVariants.{LinkWrite, LinkRead, TailRead, Unmark}
pub use Rattle.futures_buffered_table.specs.declared.view.Phase.{Phase}
pub use Rattle.futures_buffered_table.specs.declared.view.Phase.TheVariants.{Start, AtStub, Moved, NoNext, Last}
pub use Rattle.futures_buffered_table.specs.declared.view.Phase.TheVariants.{StubCleared, StubPut, StubLinked, InHand}
pub use Rattle.futures_buffered_table.specs.declared.view.Role.{Role}
pub use Rattle.futures_buffered_table.specs.declared.view.Role.TheVariants.{Idle, Won, Cleared, Swapped, Polls}
pub use Rattle.futures_buffered_table.specs.declared.view.View.{View}
pub use Rattle.futures_buffered_table.specs.declared.step.Step.{Step}
pub use Rattle.futures_buffered_table.specs.declared.step.Step.TheVariants.{Mark, Go, Poll}
pub use Rattle.futures_buffered_table.specs.declared.step.StepReply.{StepReply}
pub use Rattle.futures_buffered_table.specs.declared.step.StepReply.TheVariants.{More}
pub use Rattle.futures_buffered_table.specs.declared.step.TheConstants.{WAKE_SEATS}
