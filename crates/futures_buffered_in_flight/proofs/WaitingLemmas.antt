-- What polls until an output make of a set, an ordered queue or a merge.
use Rattle.futures_buffered_in_flight.proofs.Common.{Bool, ℕ, [], ◌≡◌, ◌<◌, ◌⊎◌, inl, inr, Option, Some, None, refl, sym, subst, ◌∙◌, arith, MatchOption, IfReady, Poll, Ready, Pending, Context, Slots, held_count, Ordered, FutureOf, Flights, CameInFlight, PollsInFlight, without_key, AnswersNoMore, AnyAnswers, CameOfMerge, GivesAnswer, Merged, OneStreamEndsAtMost, PollsUnkeyed, StreamOf, streams_held, AnswersInTurn, CameInTurn, Came, Place}
use Rattle.futures_buffered_in_flight.specs.Waiting.{PollsUntil}
use Rattle.futures_buffered_in_flight.proofs.InFlightLemmas.{polls_from}
use Rattle.futures_buffered_in_flight.proofs.InFlightMergeLemmas.{narrows}
use Rattle.futures_buffered_in_flight.proofs.InFlightOrderedLemmas.{answers_in_turn}

module _ {F A T : Type 0} (future : FutureOf F A) where
  pub came : (old new : Flights F T) (answer : Poll (Option (Came A T))) (cx left : Context) → PollsInFlight future old answer new cx left → PollsUntil (CameInFlight future) old answer new
  came old new (Ready o) cx left p = (cx, left, p)
  came old new Pending cx left p = λ o last c. (
    c.0,
    c.1,
    polls_from future old new last (Ready o) c.0 c.0 c.1 (record { slots = p.gave.1; keys = p.keys; room = p.room; less = p.narrows; again = p.again }) (λ fact h. h) (subst (λ (slots : Slots (Place T)). 0 < held_count slots) (sym p.gave.1) p.gave.0) c.2,
  )

module _ {F A : Type 0} (future : FutureOf F A) where
  came_after : {grows : Bool} (old new last : Ordered (Flights F ℕ) A) (o : Option A) (cx left : Context) → AnswersInTurn future grows old Pending new cx left → CameInTurn future new o last → CameInTurn future old o last
  came_after old new last o cx left poll c =
      let stream = answers_in_turn future old new Pending cx left poll in
      grind arith

  pub came_in_turn : {grows : Bool} (old new : Ordered (Flights F ℕ) A) (answer : Poll (Option A)) (cx left : Context) → AnswersInTurn future grows old answer new cx left → PollsUntil (CameInTurn future) old answer new
  came_in_turn old new (Ready o) cx left poll =
      let stream = answers_in_turn future old new (Ready o) cx left poll in
      record { gave = stream.value; rest = stream.rest; empty = poll.empty; fewer = poll.fewer; same_room = poll.same_room.0; again = poll.again }
  came_in_turn old new Pending cx left poll = λ o last c. came_after old new last o cx left poll c

module _ {St A : Type 0} (stream : StreamOf St A) where
  abbrev Gave : Merged St → Merged St → Option A → Type 0
  Gave old new o = MatchOption o (streams_held new ≡ 0) (λ x. (0 < streams_held new) × AnyAnswers stream old.set (Some x))

  gave : (old new : Merged St) (keyed : Poll (Option (Came A (Unit {0})))) → GivesAnswer stream old.set keyed new.set → IfReady (without_key keyed) (Gave old new)
  gave old new (Ready (Some came)) g = (omega (arith, g.same_count), (came.key, [], g.gave))
  gave old new (Ready None) g = g.0
  gave old new Pending g = tt

  gave_before : (old mid new : Merged St) (o : Option A) → AnswersNoMore stream old.set mid.set → Gave mid new o → Gave old new o
  gave_before old mid new None less g = g
  gave_before old mid new (Some x) less g = (g.0, less (Some x) g.1)

  abbrev Ended : Merged St → Merged St → Type 0
  Ended old new = (streams_held new ≡ streams_held old) ⊎ ((streams_held new < streams_held old) × AnyAnswers stream old.set None)

  ended : (old mid new : Merged St) → AnswersNoMore stream old.set mid.set → OneStreamEndsAtMost stream old.set mid.set → Ended mid new → Ended old new
  ended old mid new less (inl a) (inl b) = inl (b ∙ a)
  ended old mid new less (inl a) (inr b) = inr (omega (arith, a, b.0), less None b.1)
  ended old mid new less (inr a) (inl b) = inr (omega (arith, b, a.0), a.1)
  ended old mid new less (inr a) (inr b) = inr (omega (arith, a.0, b.0), a.1)

  pub came_of_merge : (old new : Merged St) (answer : Poll (Option A)) (cx left : Context) → PollsUnkeyed stream old answer new cx left → PollsUntil (CameOfMerge stream) old answer new
  came_of_merge old new (Ready o) cx left p =
      let less = narrows stream old.set new.set p.keyed p.polls.gave in
      record {
        gave = subst (λ (a : Poll (Option A)). IfReady a (Gave old new)) (sym p.same) (gave old new p.keyed p.polls.gave);
        ended = ended old new new less p.polls.ended (inl refl);
        narrows = less;
        same_limit = p.same_limit;
        again = p.polls.again;
      }
  came_of_merge old new Pending cx left p = λ o last c.
      let less = narrows stream old.set new.set p.keyed p.polls.gave in
      record {
        gave = gave_before old new last o less c.gave;
        ended = ended old new last less p.polls.ended c.ended;
        narrows = λ answer h. less answer (c.narrows answer h);
        same_limit = c.same_limit ∙ p.same_limit;
        again = c.again;
      }
