-- One call of a buffer, what many calls make together, and what may come. A call takes items from a stream while there
-- is room. Then it polls its queue once, unless a push returned an answer. The queue may be any that has a number of
-- entries, a push and a poll.
use Rattle.futures_buffered.specs.Below.{FoldsTo, AllZip, Coded, code_by, coded×, coded_option, Covers}
use Rattle.futures_buffered.specs.Below.{Keeps, Context, Poll, Ready, Pending, IfReady, OnPending, StreamAnswers}
use Rattle.std.specs.Prelude.{◌≡◌, ℕ, ◌+◌, ◌-◌, ◌<◌, ◌≤◌, ◌^◌, List, [], ◌++◌, Option, Some, None, IfSome, IfNone}
use Rattle.std.specs.Prelude.{IsSomeAnd, is_some, Bool, true, false, ◌⊎◌, cond, min, nat_lt, refl, filter_map, flat_map}
use Rattle.std.specs.Option.{option_and_then, option_to_list}
use Rattle.futures.specs.Runs.{Runs, After, Within, Ends, AllItems, Chains, Resolves}
use Rattle.futures.specs.Buffered.{AnyItemGives, GathersWith}
use Rattle.futures_buffered.specs.FutureQueue.{MayCome}
pub use Rattle.futures.specs.declared.stream.Stream.{Ghosts as StreamOf}
pub use Rattle.futures_buffered.specs.declared.future_queue.FutureQueue.{Ghosts as FutureQueueOf}

-- the stream, or nothing once it has ended, and the queue of what was taken
pub record Buffering (St Q : Type 0) : Type 0 where
  pub stream : Option St
  pub queue : Q

-- the code of a buffer, made of the codes of its parts
abbrev pub buffer_code : {St Q : Type 0} → Coded St → Coded Q → Coded (Buffering St Q)
buffer_code {St} {Q} stream_code queue_code =
    code_by
    (Option St × Q)
    (coded× (coded_option stream_code) queue_code)
    (λ b. (b.stream, b.queue))
    (λ p. record { stream = p.0; queue = p.1 })
    (λ _. refl)

-- One poll of a stream, in the words of `futures`: its answer is one that might come, and what may come after the
-- answer might have come after it before.
pub record PollsStream {St F : Type 0} (yields : St → Runs F) (old : St) (answer : Poll (Option F))
    (new : St) : Type 0 where
  pub value : IfReady answer (yields old [])
  pub rest : IfReady answer (λ o. IfSome o (λ x. After (yields old) x (yields new)))
  pub same : OnPending answer (Within (yields old) (yields new))

-- what may come from a stream; if there is no stream any more, `None` at once
abbrev pub Ahead : {St F : Type 0} → (St → Runs F) → Option St → Runs F
Ahead yields None = Ends
Ahead yields (Some stream) = yields stream

-- What a call returns, by whether the stream goes on and by what the queue returned: an output and `Pending` are returned
-- as they are. If the queue held nothing, the call returns `None` if the stream has ended, otherwise `Pending`.
abbrev pub answer_from : {A : Type 0} → Bool → Poll (Option A) → Poll (Option A)
answer_from goes_on (Ready (Some x)) = Ready (Some x)
answer_from goes_on (Ready None) = cond goes_on Pending (Ready None)
answer_from goes_on Pending = Pending

-- the output that a call returned, if any
abbrev pub output_given : {A : Type 0} → Poll (Option A) → Option A
output_given (Ready o) = o
output_given Pending = None

module _ {St A Q : Type 0} (polls : Q → Poll (Option A) → Q → Type 0) where
  -- the queue was polled once, and the stream was not
  pub record AsksQueue (old : Buffering St Q) (answer : Poll (Option A)) (new : Buffering St Q) : Type 0 where
    pub queue_answer : Poll (Option A)
    pub polls_queue : polls old.queue queue_answer new.queue
    pub same_stream : new.stream ≡ old.stream
    pub gives : answer ≡ answer_from (is_some old.stream) queue_answer

  -- how a call ends after filling: if a push returned an answer, with that answer, without a poll of the queue, and
  -- `task_stays` holds; otherwise with a poll of the queue
  abbrev pub CallEnds : Type 0 → Option A → Buffering St Q → Poll (Option A) → Buffering St Q → Type 0
  CallEnds task_stays None filled answer new = AsksQueue filled answer new
  CallEnds task_stays (Some x) filled answer new = (answer ≡ Ready (Some x)) × (new ≡ filled) × task_stays

module _ {St X Q : Type 0} (next : St → Poll (Option X) → St → Type 0) (count : Q → ℕ) (n : ℕ) where
  -- the stream was polled: it had not ended, and the queue held fewer than `n`
  pub record AsksStream (old : Buffering St Q) (answer : Poll (Option X)) (left : St) : Type 0 where
    pub stream : St
    pub not_ended : old.stream ≡ Some stream
    pub has_room : count old.queue < n
    pub answers : next stream answer left

  -- the stream was not polled, since it has ended or the queue holds `n` or more
  abbrev pub HasNoTurn : Buffering St Q → Type 0
  HasNoTurn old = (old.stream ≡ None) ⊎ (n ≤ count old.queue)

  -- no item was taken: the stream was not polled, since it has ended or nothing more fits; or it was pending; or it
  -- ended and was dropped
  abbrev pub DrawsNone : Buffering St Q → Buffering St Q → Type 0
  DrawsNone old new = (HasNoTurn old × (new ≡ old))
      ⊎ (((left : St) × AsksStream old Pending left × (new ≡ record old { stream = Some left }))
      ⊎ ((left : St) × AsksStream old (Ready None) left × (new ≡ record old { stream = None })))

  -- no item was taken, or this one, which is not pushed yet
  abbrev pub DrawsNext : Buffering St Q → Option X → Buffering St Q → Type 0
  DrawsNext old None new = DrawsNone old new
  DrawsNext old (Some item) new = (left : St) × AsksStream old (Ready (Some item)) left × (new.stream ≡ Some left)

  module _ {A : Type 0} (pushes : Q → X → Option A → Q → Type 0) where
    -- an item was taken, and its push returned this
    pub record DrawsItem (given : Option A) (old : Buffering St Q) (item : X) (new : Buffering St Q) : Type 0 where
      pub left : St
      pub asks : AsksStream old (Ready (Some item)) left
      pub stream_left : new.stream ≡ Some left
      pub pushed : pushes old.queue item given new.queue

    -- how filling ends: no item was taken, or the push of an item returned this answer
    abbrev pub DrawsLast : Buffering St Q → Option A → Buffering St Q → Type 0
    DrawsLast old None new = DrawsNone old new
    DrawsLast old (Some answer) new = (item : X) × DrawsItem (Some answer) old item new

    -- these items were taken one after another and pushed, each while fewer than `n` were held, and then filling ended;
    -- what was pushed stays held
    pub record DrawsAll (old : Buffering St Q) (drawn : List X) (given : Option A) (new : Buffering St Q) : Type 0 where
      pub full : Buffering St Q
      pub items : FoldsTo (DrawsItem None) old drawn full
      pub last : DrawsLast full given new

    module _ (polls : Q → Poll (Option A) → Q → Type 0) (task_stays : Type 0) where
      -- one call: these items were taken and are held, and then the call ended
      pub record BufferCall (old : Buffering St Q) (drawn : List X) (answer : Poll (Option A))
          (new : Buffering St Q) : Type 0 where
        pub given : Option A
        pub filled : Buffering St Q
        pub draws : DrawsAll old drawn given filled
        pub ends : CallEnds polls task_stays given filled answer new

    -- many calls in a row, each with the items that it took and with its answer; if the queue is not polled, no more is
    -- said of the call
    abbrev pub CallsInTurn : (Q → Poll (Option A) → Q → Type 0) → Buffering St Q
        → List (List X × Poll (Option A)) → Buffering St Q → Type 0
    CallsInTurn polls = FoldsTo (λ old call new. BufferCall polls (Unit {0}) old call.0 call.1 new)

-- What filling makes of the task, from `cx` to `left`. `none_came` holds if filling stopped because no item came.
pub record DrawsTask {St X Q : Type 0} (next : St → Poll (Option X) → St → Type 0) (count room : Q → ℕ)
    (needs : St → ℕ → Type 0) (none_came : Type 0) (old new : Buffering St Q) (cx left : Context) : Type 0 where
  -- if no item came and there is room left, the task is registered for the stream or woken, unless the stream has ended
  pub covered : none_came → count new.queue < room new.queue → IfSome new.stream (λ stream. Covers left (needs stream))
  -- if the stream was not polled, the task is unchanged
  pub no_turn : HasNoTurn next count (room old.queue) old → left ≡ cx
  -- the task keeps each earlier registration and wake
  pub kept : Keeps cx left

-- The stream may be polled, unless it has ended; each item that may still come may be pushed; and the queue may be
-- polled.
pub record CanDraw {St X Q : Type 0} (can_next : St → Type 0) (yields : St → Runs X)
    (is_fit : X → Type 0) (can_poll : Q → Type 0) (b : Buffering St Q) : Type 0 where
  pub stream : IfSome b.stream can_next
  pub to_come : IfSome b.stream (λ stream. AllItems (yields stream) is_fit)
  pub held : can_poll b.queue

-- the places at which a pending call waits: the queue's, if anything is held; the stream's, if it has not ended and
-- there is room
abbrev pub WaitsAt : {St Q : Type 0} → (St → ℕ → Type 0) → (Q → ℕ → Type 0) → (Q → ℕ) → (Q → ℕ)
    → Buffering St Q → ℕ → Type 0
WaitsAt stream_needs queue_needs count room b place =
    ((0 < count b.queue) × queue_needs b.queue place)
    ⊎ ((count b.queue < room b.queue) × IsSomeAnd b.stream (λ stream. stream_needs stream place))

module _ {St X A Q : Type 0} (yields : St → Runs X) (item_gives : X → A → Type 0) (count : Q → ℕ)
    (comes : Q → Runs A) where
  -- an output that comes from the queue, or one that an item may give which may still come
  abbrev pub OneComes : Buffering St Q → A → Type 0
  OneComes b x = MayCome (comes b.queue) x ⊎ AnyItemGives item_gives (Ahead yields b.stream) x

  -- What may come from a buffer, by whether its queue keeps the order. If it does: all that comes from the queue; then
  -- an output of each item that comes from the stream, in order; and then `None`. Otherwise: as many outputs as are held
  -- and as items come from the stream, each of them by `OneComes`; and then `None`.
  abbrev pub BufferGives : Bool → Buffering St Q → Runs A
  BufferGives true b = Chains (comes b.queue) (Resolves item_gives (Ahead yields b.stream))
  BufferGives false b = GathersWith (OneComes b) (count b.queue) (Ahead yields b.stream)

-- the ghost members of a buffer as a stream
abbrev pub buffer_of : {St X A Q : Type 0} → StreamOf St X → FutureQueueOf Q X A → StreamOf (Buffering St Q) A
buffer_of stream queue = record {
  can_poll = CanDraw stream.can_poll stream.yields queue.is_fit queue.as_stream.can_poll;
  needs = WaitsAt stream.needs queue.as_stream.needs queue.count queue.room;
  yields = BufferGives stream.yields queue.gives queue.count queue.as_stream.yields queue.in_order;
}

-- One call, which takes a buffer from `old` to `new` and the task from `cx` to `left`. A clause gives stream and queue
-- by the ghost members of their types: `St.Stream Q.FutureQueue`.
pub record PollsBuffer {St X A Q : Type 0} (stream : StreamOf St X) (queue : FutureQueueOf Q X A) (old : Buffering St Q)
    (answer : Poll (Option A)) (new : Buffering St Q) (cx left : Context) : Type 0 where
  -- the task after filling, which keeps each earlier registration and wake, and is unchanged if the stream was not
  -- polled
  pub task_then : Context
  pub draws_keep : Keeps cx task_then
  pub not_polled : HasNoTurn (PollsStream stream.yields) queue.count (queue.room old.queue) old → task_then ≡ cx
  -- The call takes items, which stay held. Then either a further push returns the answer, and the task is `task_then`;
  -- or one poll of the queue returns it, and takes the task from `task_then` to `left`.
  pub gave : (drawn : List X) × BufferCall (PollsStream stream.yields) queue.count (queue.room old.queue)
      queue.pushes (λ before reply after. queue.polls before reply after task_then left) (left ≡ task_then)
      old drawn answer new
  -- the call returns `None` only if the stream has ended and nothing is held, and `Pending` only if that is not so
  pub ended : IfReady answer (λ o. IfNone o ((new.stream ≡ None) × (queue.count new.queue ≡ 0)))
  pub waits : OnPending answer (new.stream ≡ None → 0 < queue.count new.queue)
  -- the queue can hold as many as before, and holds no more than that
  pub same_room : queue.room new.queue ≡ queue.room old.queue
  pub bound : queue.count new.queue ≤ queue.room new.queue
  -- as a stream: what may come; where the task of a pending call is registered (`WaitsAt`); and that the buffer may be
  -- polled again after an output or `Pending`
  pub as_stream : StreamAnswers (buffer_of stream queue) old answer new cx left

-- the items that these calls took, in order, and the outputs that they returned
abbrev pub all_drawn : {F A : Type 0} → List (List F × Poll (Option A)) → List F
all_drawn = flat_map (λ call. call.0)

abbrev pub all_outputs : {F A : Type 0} → List (List F × Poll (Option A)) → List A
all_outputs = filter_map (λ call. output_given call.1)

-- Each item taken is accounted for once: either it gave the output at its place among the outputs, or it became the
-- entry at its place among those held. `matches` compares the items taken with these: by equality if the order is kept,
-- as a permutation if it is not.
pub record Accounts {F A E : Type 0} (matches : List F → List F → Type 0) (gives : F → A → Type 0)
    (becomes : F → E → Type 0) (drawn : List F) (outputs : List A) (held : List E) : Type 0 where
  pub gone : List F
  pub kept : List F
  pub all : matches drawn (gone ++ kept)
  pub gave : AllZip gives gone outputs
  pub became : AllZip becomes kept held

-- Bounds on how many items are left, if a stream has these bounds, or has ended, and `n` more are held. A lower bound
-- past 64 bits stops at their maximum, and an upper bound past 64 bits is unknown.
abbrev pub sum_below : ℕ → Option ℕ
sum_below sum = cond (nat_lt sum (2 ^ 64)) (Some sum) None

abbrev pub hint_with : ℕ → ℕ × Option ℕ → ℕ × Option ℕ
hint_with n hint = (min (hint.0 + n) (2 ^ 64 - 1), option_and_then (λ most. sum_below (most + n)) hint.1)

abbrev pub hint_ahead : {St : Type 0} → (St → ℕ × Option ℕ) → Option St → ℕ × Option ℕ
hint_ahead hint None = (0, Some 0)
hint_ahead hint (Some stream) = hint stream

-- no item was taken: the stream is the given one, and the queue is a new one
pub record IsNewBuffer {St Q : Type 0} (is_new : Q → Type 0) (stream : St) (b : Buffering St Q) : Type 0 where
  pub same_stream : b.stream ≡ Some stream
  pub new_queue : is_new b.queue

-- whatever may come from `new` may come from `old`, after these first ones
abbrev pub Follows : {A : Type 0} → Runs A → List A → Runs A → Type 0
Follows {A} old first new = (xs : List A) (last : Option A) → new xs last → old (first ++ xs) last

-- What filling makes of a buffer, and of its task, which goes from `cx` to `left`. `gave` is the answer that a push
-- returned, if one did.
pub record FillsBuffer {St X A Q : Type 0} (stream : StreamOf St X) (queue : FutureQueueOf Q X A) (old : Buffering St Q)
    (gave : Option A) (new : Buffering St Q) (cx left : Context) : Type 0 where
  -- the items taken
  pub drawn : List X
  pub draws : DrawsAll (PollsStream stream.yields) queue.count (queue.room old.queue) queue.pushes old drawn gave new
  -- the queue can hold as many as before
  pub same_room : queue.room new.queue ≡ queue.room old.queue
  -- the queue holds no more than that
  pub bound : queue.count new.queue ≤ queue.room new.queue
  -- further items may be taken
  pub again : (buffer_of stream queue).can_poll new
  -- an answer is one that might come first
  pub value : IfSome gave (λ x. (buffer_of stream queue).yields old [] (Some x))
  -- what may come now might have come before, after the answer if there is one
  pub rest : Follows ((buffer_of stream queue).yields old) (option_to_list gave) ((buffer_of stream queue).yields new)
  pub task : DrawsTask (PollsStream stream.yields) queue.count queue.room stream.needs (gave ≡ None) old new cx left
