-- What `futures` asks of a poll of an ordered queue, by any rule.
use Rattle.std.specs.Prelude.{◌<◌, ℕ, Option, Some}
use Rattle.futures_buffered_ordered.proofs.Common.{Context, Poll, Ready, held_in, ReadySourceOf, PollOneOf, OfSomeTask, StreamAnswers, stream_of, NumberedPollsOf, of_numbered, ComesInOrder, Ordered, PollsOrdered, EachRunning, OrderedBounded, PollsOrderedBounded, SameSize, SetMayGive, bounded_polls, poll_gave, poll_still}
use Rattle.futures_buffered_ordered.proofs.OrderedEntriesLemmas.{gives_alone, queue_answers}

-- `came` and `narrows` are the laws of `StreamedSet`
module _ {Q R A : Type 0} (count : Q → ℕ) (keeps : Q → Q → Type 0) (polls : NumberedPollsOf Q R A) (may_give : Q → ℕ × A → Type 0)
    (came : (old new : Q) (out : ℕ × A) (cx left : Context) → polls.gives old (Ready (Some out)) new cx left → may_give old out)
    (narrows : (old new : Q) (answer : Poll (Option (ℕ × A))) (cx left : Context) → polls.gives old answer new cx left → (out : ℕ × A) → may_give new out → may_give old out) where
  pub queue_stream : (old new : Ordered Q A) (answer : Poll (Option A)) (cx left : Context) → PollsOrdered count keeps polls old answer new cx left
      → StreamAnswers (stream_of (λ q. polls.can_poll q.set) (λ q. polls.needs q.set) (ComesInOrder may_give)) old answer new cx left
  queue_stream old new answer cx left it =
      let alone = gives_alone polls.gives (OfSomeTask polls.gives) (λ a b given before after h. (before, after, h)) count old new answer cx left it.gave in
      queue_answers (OfSomeTask polls.gives) may_give (λ a b given h. narrows a b given h.0 h.1 h.2) (λ a b out h. came a b out h.0 h.1 h.2) count old new _ _ answer cx left alone it.queue.pollable it.queue.covered it.queue.kept

module _ {R F W A S : Type 0} (rule : PollOneOf R F W A) (source : ReadySourceOf S W) where
  pub bounded_answers : (old new : OrderedBounded F A S) (answer : Poll (Option A)) (cx left : Context) → PollsOrderedBounded rule source old answer new cx left
      → StreamAnswers (stream_of (λ q. EachRunning rule.can_poll q.set) (λ q n. (0 < held_in q.set) × source.needs q.set.source n) (ComesInOrder (SetMayGive rule.polled))) old answer new cx left
  bounded_answers = queue_stream held_in SameSize (bounded_polls rule source) (SetMayGive rule.polled)
      (λ old new out cx left poll. poll_gave (of_numbered rule) source old new out cx left poll)
      (λ old new answer cx left poll out may. poll_still (of_numbered rule) source old new out answer cx left poll may)
