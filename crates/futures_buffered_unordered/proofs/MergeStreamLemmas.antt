-- What `futures` asks of a poll of a merge.
use Rattle.std.specs.Prelude.{◌<◌, Option}
use Rattle.futures_buffered_unordered.proofs.Common.{Context, Poll, held_count, AnyNeeds, EachHeld, Growing, Bounded, AllHeld, StreamAnswers, stream_of, ComesFromStreams, ItemsComeFromGroups, PollsMergeUnbounded, PollsMergeBounded, SlotStreamOf}
use Rattle.futures_buffered_core.specs.declared.ready_source.ReadySource.{Ghosts as ReadySourceOf}
use Rattle.futures_buffered_unordered.proofs.StreamAnswersLemmas.{answers_of, covers_fewer}
use Rattle.futures_buffered_unordered.proofs.MergeBoundedLemmas.{value_of, rest_of, same_of}
use Rattle.futures_buffered_unordered.proofs.MergeUnboundedLemmas.{group_value, group_rest, group_same}

module _ {St W A S : Type 0} (stream : SlotStreamOf St W A) (source : ReadySourceOf S W) where
  pub bounded_answers : (old new : Bounded St S) (answer : Poll (Option A)) (cx left : Context) → PollsMergeBounded stream source old answer new cx left
      → StreamAnswers (stream_of (λ merge. AllHeld stream.can_poll merge.slots) (λ merge n. (0 < held_count merge.slots) × source.needs merge.source n) (λ merge. ComesFromStreams stream.polled merge.slots)) old answer new cx left
  bounded_answers old new answer cx left it =
      answers_of _ old new answer cx left (value_of stream source old new cx left answer it) (rest_of stream source old new cx left answer it) (same_of stream source old new cx left answer it) it.pollable (covers_fewer answer left (source.needs new.source) _ (λ n waits. waits.1) it.covered) it.kept

  pub growing_answers : (old new : Growing St S) (answer : Poll (Option A)) (cx left : Context) → PollsMergeUnbounded stream source old answer new cx left
      → StreamAnswers (stream_of (λ merge. EachHeld stream.can_poll merge.groups.listed) (λ merge. AnyNeeds source.needs merge.groups.listed) (λ merge. ItemsComeFromGroups stream.polled merge.groups.listed)) old answer new cx left
  growing_answers old new answer cx left it =
      let gave = it.groups.gave in
      answers_of _ old new answer cx left (group_value stream source _ _ cx left answer gave) (group_rest stream source _ _ cx left answer gave) (group_same stream source _ _ cx left answer gave) it.groups.pollable it.registered it.groups.kept
