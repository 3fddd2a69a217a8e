-- One call of a `Drain`: turns, each of which polls the buffer once, up to the first output that ends the drain, or
-- `None`. A clause gives stream, queue and outputs by the ghost members of their types:
-- `St.Stream Q.FutureQueue Q.Output.DrainOutput`.
use Rattle.futures_buffered.specs.Below.{Coded, code_by, coded×, coded_option, coded_ℕ, Context, Poll, Ready, Pending}
use Rattle.futures_buffered.specs.Below.{CanPollQueue}
use Rattle.std.specs.Prelude.{◌≡◌, ℕ, List, map, Option, Some, None, IfSome, IsSomeAnd, refl}
use Rattle.futures_buffered.specs.Buffer.{Ahead, Buffering, FutureQueueOf, IsNewBuffer, PollsBuffer, StreamOf}
use Rattle.futures_buffered.specs.Buffer.{buffer_of}
use Rattle.futures_buffered.specs.Turns.{PollsInTurns, TurnsOf}
use Rattle.futures_buffered_in_flight.specs.InFlight.{Flights, FutureOf}
pub use Rattle.futures_buffered.specs.declared.drain_output.DrainOutput.{Ghosts as DrainOutputOf}

-- the buffer, or nothing once the drain was ready, and how many turns one call takes at most
pub record Draining (B : Type 0) : Type 0 where
  pub buffer : Option B
  pub limit : ℕ

-- the code of a drain, made of the code of its buffer
abbrev pub draining_code : {B : Type 0} → Coded B → Coded (Draining B)
draining_code {B} code =
    code_by
    (Option B × ℕ)
    (coded× (coded_option code) coded_ℕ)
    (λ d. (d.buffer, d.limit))
    (λ p. record { buffer = p.0; limit = p.1 })
    (λ _. refl)

-- no item was taken from the stream, and one call takes at most `limit` turns
abbrev pub IsNewDrain : {St Q : Type 0} → (Q → Type 0) → ℕ → St → Draining (Buffering St Q) → Type 0
IsNewDrain is_new limit stream d = IsSomeAnd d.buffer (IsNewBuffer is_new stream) × (d.limit ≡ limit)

-- each future that the drain holds may be polled
abbrev pub HoldsPollable : {F A St : Type 0} → FutureOf F A → Draining (Buffering St (Flights F (Unit {0}))) → Type 0
HoldsPollable future d = IfSome d.buffer (λ buffer. CanPollQueue future buffer.queue)

-- nothing more is polled: there is no buffer, or its stream has ended and it holds nothing
abbrev pub IsDrained : {St Q : Type 0} → (Q → ℕ) → Draining (Buffering St Q) → Type 0
IsDrained count d = IfSome d.buffer (λ buffer. (buffer.stream ≡ None) × (count buffer.queue ≡ 0))

module _ {St X Q O : Type 0} (stream : StreamOf St X) (queue : FutureQueueOf Q X O) (output : DrainOutputOf O) where
  -- One turn: a call of the buffer. After `done` another turn may follow, and any other result ends the call. A ready
  -- turn leaves no buffer. If there is no buffer, the turn returns `done`, and the task does not change.
  abbrev pub DrainTurn : Option (Buffering St Q) → Option (Poll O) → Option (Buffering St Q) → Context → Context → Type 0
  DrainTurn None answer new cx left = (answer ≡ Some (Ready output.done)) × (new ≡ None) × (left ≡ cx)
  DrainTurn (Some old) None new cx left = (after : Buffering St Q)
      × PollsBuffer stream queue old (Ready (Some output.done)) after cx left × (new ≡ Some after)
  DrainTurn (Some old) (Some Pending) new cx left = (after : Buffering St Q)
      × PollsBuffer stream queue old Pending after cx left × (new ≡ Some after)
  DrainTurn (Some old) (Some (Ready answer)) new cx left = (after : Buffering St Q)
      × PollsBuffer stream queue old (Ready (output.last_of answer)) after cx left × (new ≡ None)

  -- What a drain says of its polls. It may be polled, and waits, as its buffer. It may end with an answer if the buffer
  -- may return some outputs that do not end the drain, and then `last_of` the answer. Once it is over, there is no
  -- buffer.
  abbrev pub drain_of : TurnsOf (Draining (Buffering St Q)) O
  drain_of = record {
    can_poll = λ d. IfSome d.buffer (buffer_of stream queue).can_poll;
    needs = λ d place. IsSomeAnd d.buffer (λ b. (buffer_of stream queue).needs b place);
    gives = λ d answer. (outputs : List (Unit {0})) × Ahead (buffer_of stream queue).yields d.buffer
        (map (λ _. output.done) outputs) (output.last_of answer);
    is_over = λ d. d.buffer ≡ None;
    limit = λ d. d.limit;
    turns = λ old answer new. DrainTurn old.buffer answer new.buffer;
  }

  -- one call, which takes a drain from `old` to `new` and the task from `cx` to `left`
  abbrev pub PollsDrain : Draining (Buffering St Q) → Poll O → Draining (Buffering St Q) → Context → Context → Type 0
  PollsDrain = PollsInTurns drain_of
