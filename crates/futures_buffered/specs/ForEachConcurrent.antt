-- One poll of a for-each: some turns. Each turn takes at most one item, calls the closure with it, pushes the future
-- that the closure makes, and polls the queue once. A clause gives stream, closure and queue by the ghost members of
-- their types: `St.Stream F.FnMut Q.FutureQueue`.
use Rattle.futures_buffered.specs.Below.{Coded, code_by, coded×, Keeps, Context, Poll, Ready, Pending}
use Rattle.std.specs.Prelude.{◌≡◌, ℕ, ◌≤◌, List, Option, Some, None, IfSome, Bool, true, false, cond, is_some, refl}
use Rattle.std.specs.Fn.{Mut}
use Rattle.futures.specs.Runs.{AtEachItem, Calls}
use Rattle.futures_buffered.specs.Buffer.{Buffering, FutureQueueOf, StreamOf, buffer_code, Ahead, DrawsItem, DrawsNone}
use Rattle.futures_buffered.specs.Buffer.{HasNoTurn, IsNewBuffer, PollsStream, WaitsAt}
use Rattle.futures_buffered.specs.Turns.{PollsInTurns, TurnsOf}

-- the stream and the queue, and the closure
pub record ForEach (St Fn Q : Type 0) : Type 0 where
  pub buffer : Buffering St Q
  pub closure : Fn

-- the code of a for-each, made of the codes of its parts
abbrev pub for_each_code : {St Fn Q : Type 0} → Coded St → Coded Fn → Coded Q → Coded (ForEach St Fn Q)
for_each_code {St} {Fn} {Q} stream_code closure_code queue_code =
    code_by
    (Buffering St Q × Fn)
    (coded× (buffer_code stream_code queue_code) closure_code)
    (λ b. (b.buffer, b.closure))
    (λ p. record { buffer = p.0; closure = p.1 })
    (λ _. refl)

-- no item was taken, the queue is a new one, and the closure is the given one
abbrev pub IsNewForEach : {St Fn Q : Type 0} → (Q → Type 0) → St → Fn → ForEach St Fn Q → Type 0
IsNewForEach is_new stream closure b = IsNewBuffer is_new stream b.buffer × (b.closure ≡ closure)

-- what a turn returns, by whether it took an item, what its poll of the queue returned, and whether the stream goes on:
-- `None`, so that another turn may follow, if it took an item or an output came
abbrev pub turn_answer : {A : Type 0} → Bool → Poll (Option A) → Bool → Option (Poll (Unit {0}))
turn_answer true answer goes_on = None
turn_answer false (Ready (Some _)) goes_on = None
turn_answer false (Ready None) goes_on = Some (cond goes_on Pending (Ready tt))
turn_answer false Pending goes_on = Some Pending

-- the stream may end
abbrev pub MayEnd : {St X Fn Q : Type 0} → StreamOf St X → ForEach St Fn Q → Type 0
MayEnd {X = X} stream b = (items : List X) × Ahead stream.yields b.buffer.stream items None

module _ {St X Fn F Q : Type 0} (stream : StreamOf St X) (closure : Mut Fn (X × Unit {0}) F)
    (queue : FutureQueueOf Q F (Unit {0})) where
  -- The stream may be polled, unless it has ended. The closure may be called with each item to come, after the items
  -- before it, and the future that it makes may be pushed. The queue may be polled.
  pub record CanForEach (b : ForEach St Fn Q) : Type 0 where
    pub next : IfSome b.buffer.stream stream.can_poll
    pub to_come : AtEachItem (Calls closure) (Ahead stream.yields b.buffer.stream) b.closure
        (λ f x. closure.pre f (x, tt) × ((made : F) (after : Fn) → Calls closure f x made after → queue.is_fit made))
    pub held : queue.as_stream.can_poll b.buffer.queue

  -- The first part of a turn. Without an item, the stream was not polled, since it has ended or there is no room; or
  -- it was pending; or it ended and was dropped; and the closure is unchanged. With an item, there was room, the
  -- closure was called with the item, once, and the future that it made was pushed.
  abbrev pub DrawsOnce : ForEach St Fn Q → Option X → ForEach St Fn Q → Type 0
  DrawsOnce old None new = DrawsNone (PollsStream stream.yields) queue.count
      (queue.room old.buffer.queue) old.buffer new.buffer
      × (new.closure ≡ old.closure)
  DrawsOnce old (Some x) new = (made : F) × (given : Option (Unit {0})) × Calls closure old.closure x made new.closure
      × DrawsItem (PollsStream stream.yields) queue.count (queue.room old.buffer.queue)
      (λ before _ answer after. queue.pushes before made answer after) given old.buffer x new.buffer

  -- One turn, which takes a for-each from `old` to `new` and the task from `cx` to `left`.
  pub record TurnGives (old : ForEach St Fn Q) (result : Option (Poll (Unit {0}))) (new : ForEach St Fn Q)
      (cx left : Context) : Type 0 where
    -- the item that the turn took, if any
    pub drew : Option X
    pub drawn : ForEach St Fn Q
    pub draws : DrawsOnce old drew drawn
    -- the task after the first part of the turn, which keeps each earlier registration and wake, and is unchanged if
    -- the stream was not polled
    pub task_then : Context
    pub draw_keeps : Keeps cx task_then
    pub not_polled : HasNoTurn (PollsStream stream.yields) queue.count (queue.room old.buffer.queue) old.buffer
        → task_then ≡ cx
    -- the poll of the queue takes the task from `task_then`
    pub queue_answer : Poll (Option (Unit {0}))
    pub polls_queue : queue.polls drawn.buffer.queue queue_answer new.buffer.queue task_then left
    pub same_stream : new.buffer.stream ≡ drawn.buffer.stream
    pub same_closure : new.closure ≡ drawn.closure
    -- what the turn returns
    pub gives : result ≡ turn_answer (is_some drew) queue_answer (is_some new.buffer.stream)
    -- the queue can hold as many as before, and holds no more than that
    pub same_room : queue.room new.buffer.queue ≡ queue.room old.buffer.queue
    pub bound : queue.count new.buffer.queue ≤ queue.room new.buffer.queue

  module _ (limit : Q → ℕ) where
    -- What a for-each says of its polls. A pending one waits where its queue waits if a future is held, and where its
    -- stream waits if that has not ended and there is room. It may end if its stream may end. It is over if its stream
    -- has ended and no future is held. Its limit is the limit of its queue.
    abbrev pub for_each_of : TurnsOf (ForEach St Fn Q) (Unit {0})
    for_each_of = record {
      can_poll = CanForEach;
      needs = λ b. WaitsAt stream.needs queue.as_stream.needs queue.count queue.room b.buffer;
      gives = λ b _. MayEnd stream b;
      is_over = λ b. (b.buffer.stream ≡ None) × (queue.count b.buffer.queue ≡ 0);
      limit = λ b. limit b.buffer.queue;
      turns = TurnGives;
    }

    -- One poll, which takes a for-each from `old` to `new` and the task from `cx` to `left`.
    pub record PollsForEach (old : ForEach St Fn Q) (answer : Poll (Unit {0})) (new : ForEach St Fn Q)
        (cx left : Context) : Type 0 where
      -- the turns, and what they leave
      pub called : PollsInTurns for_each_of old answer new cx left
      -- the queue can hold as many as before, and holds no more than that
      pub same_room : queue.room new.buffer.queue ≡ queue.room old.buffer.queue
      pub bound : queue.count new.buffer.queue ≤ queue.room new.buffer.queue
