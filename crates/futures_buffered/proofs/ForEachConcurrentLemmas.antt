-- What one turn of a for-each leaves.
use Rattle.futures_buffered.proofs.Common.{◌≡◌, ◌⊎◌, is_some, ℕ, ◌<◌, ◌≤◌, [], ◌∷◌, Option, Some, None, Bool, true, false, refl, inl, inr, arith, length, ◌∙◌, IfSome, chained_keeps, Covers, Keeps, OnPending, Context, Poll, Ready, Pending, Calls, firsts, IsWoken, Buffering, DrawsTask, FutureQueueOf, PollsStream, StreamOf, WaitsAt, PollsFutureQueue, Ahead, PollsInTurns, TakesTurn, TurnLeaves, so_far, DrawsNone, AsksStream, AtEachItem-Within}
use Rattle.std.specs.Fn.{Mut}
use Rattle.futures_buffered.specs.ForEachConcurrent.{ForEach, PollsForEach, TurnGives, DrawsOnce, turn_answer, CanForEach, MayEnd, for_each_of}
use Rattle.futures_buffered.proofs.TurnsLemmas.{GoesOn}
use Rattle.futures_buffered.proofs.BufferLemmas.{none_drawn, polled_can, waits_empty, waits_pending}

module _ {St X Fn F Q : Type 0} (stream : StreamOf St X) (closure : Mut Fn (X × Unit {0}) F) (queue : FutureQueueOf Q F (Unit {0})) where
  -- what the first part of a turn leaves that took no item
  pub none_each : (b new : Buffering St Q) (f : Fn) → DrawsNone (PollsStream stream.yields) queue.count (queue.room b.queue) b new → IfSome new.stream stream.can_poll → CanForEach stream closure queue (record { buffer = b; closure = f })
      → CanForEach stream closure queue (record { buffer = new; closure = f }) × (MayEnd stream (record { buffer = new; closure = f }) → MayEnd stream (record { buffer = b; closure = f }))
  none_each b new f drew next can =
      let (same, less) = none_drawn stream.yields queue.count (queue.room b.queue) b new drew in
      (record { next = next; to_come = AtEachItem-Within (Calls closure) (Ahead stream.yields b.stream) (Ahead stream.yields new.stream) f _ can.to_come less; held = rw same can.held }, λ ends. (ends.0, less ends.0 None ends.1))

  -- what a turn leaves that took this item, by what its poll of the stream returned
  module _ (s : Option St) (left : St) (x : X) (q : Q) (f : Fn) (asks : AsksStream (PollsStream stream.yields) queue.count (queue.room q) (record { stream = s; queue = q }) (Ready (Some x)) left) where
    pub item_each : (q2 : Q) (f1 : Fn) (made : F) → CanForEach stream closure queue (record { buffer = record { stream = s; queue = q }; closure = f }) → queue.as_stream.can_poll q2 → Calls closure f x made f1 → stream.can_poll left
        → CanForEach stream closure queue (record { buffer = record { stream = Some left; queue = q2 }; closure = f1 })
    item_each q2 f1 made can again called next =
        let was : CanForEach stream closure queue (record { buffer = record { stream = Some asks.stream; queue = q }; closure = f }) = rw asks.not_ended at can in
        record { next = next; to_come = record { at = λ ps g y h t. was.to_come.at ((x, made) ∷ ps) g y (asks.answers.rest (firsts ps) (Some y) h) (f1, called, t) }; held = again }

    pub item_ends : (q2 : Q) (f1 : Fn) → MayEnd stream (record { buffer = record { stream = Some left; queue = q2 }; closure = f1 }) → MayEnd stream (record { buffer = record { stream = s; queue = q }; closure = f })
    item_ends q2 f1 ends = rw asks.not_ended (x ∷ ends.0, asks.answers.rest ends.0 None ends.1)

    pub each_fit : CanForEach stream closure queue (record { buffer = record { stream = s; queue = q }; closure = f }) → closure.pre f (x, tt) × ((made : F) (after : Fn) → Calls closure f x made after → queue.is_fit made)
    each_fit can = (rw asks.not_ended at can.to_come).at [] f x asks.answers.value refl

  module _ (limit : Q → ℕ) where
    abbrev PollsQueue : Q → Poll (Option (Unit {0})) → Q → Context → Context → Type 0
    PollsQueue = PollsFutureQueue queue.polls queue.count queue.room queue.as_stream

    -- what a turn leaves, and where its task is registered, by its result
    by_result : (old new : ForEach St Fn Q) (s : Option St) (q left : Q) (drew : Bool) (answer : Poll (Option (Unit {0}))) (cx before after : Context) → PollsQueue q answer left before after → (drew ≡ false → queue.count q < queue.room q → IfSome s (λ t. Covers before (stream.needs t)))
        → TurnLeaves (for_each_of stream closure queue limit) old Pending new cx after → (answer ≡ Ready None → s ≡ None → TurnLeaves (for_each_of stream closure queue limit) old (Ready tt) new cx after)
        → TurnLeaves (for_each_of stream closure queue limit) old (so_far (turn_answer drew answer (is_some s))) new cx after
        × IfSome (turn_answer drew answer (is_some s)) (λ result. OnPending result (Covers after (WaitsAt stream.needs queue.as_stream.needs queue.count queue.room (record { stream = s; queue = left }))))
    by_result old new s q left true answer cx before after polled covered goes over = (goes, tt)
    by_result old new s q left false Pending cx before after polled covered goes over = (goes, waits_pending stream.needs queue.as_stream queue.count queue.room s q left before after (covered refl) polled)
    by_result old new s q left false (Ready (Some x)) cx before after polled covered goes over = (goes, tt)
    by_result old new None q left false (Ready None) cx before after polled covered goes over = (over refl refl, tt)
    by_result old new (Some t) q left false (Ready None) cx before after polled covered goes over =
        (goes, waits_empty stream.needs queue.as_stream queue.count queue.room (Some t) q left before after (covered refl) (λ covers. covers.0) polled)

    pub turn_of : (old mid : ForEach St Fn Q) (s : Option St) (q left : Q) (f : Fn) (drew : Option X) (b : Bool) (answer : Poll (Option (Unit {0}))) (result : Option (Poll (Unit {0}))) (cx before after : Context) → mid ≡ record { buffer = record { stream = s; queue = q }; closure = f } → is_some drew ≡ b
        → DrawsOnce stream closure queue old drew mid → CanForEach stream closure queue mid → (MayEnd stream mid → MayEnd stream old) → queue.room mid.buffer.queue ≡ queue.room old.buffer.queue → limit mid.buffer.queue ≡ limit old.buffer.queue
        → DrawsTask (PollsStream stream.yields) queue.count queue.room stream.needs (b ≡ false) old.buffer mid.buffer cx before → PollsQueue q answer left before after → limit left ≡ limit q → result ≡ turn_answer b answer (is_some s)
        → TakesTurn (for_each_of stream closure queue limit) old result (record { buffer = record { stream = s; queue = left }; closure = f }) cx after
    turn_of old mid s q left f drew b answer result cx before after is by draws again_mid same_mid room_mid limit_mid task polled same_limit gives =
        let again : CanForEach stream closure queue (record { buffer = record { stream = s; queue = q }; closure = f }) = rw is at again_mid in
        let same : MayEnd stream (record { buffer = record { stream = s; queue = q }; closure = f }) → MayEnd stream old = rw is at same_mid in
        let room : queue.room q ≡ queue.room old.buffer.queue = rw is at room_mid in
        let limits : limit left ≡ limit old.buffer.queue = same_limit ∙ rw is at limit_mid in
        let kept : Keeps cx after = λ fact h. polled.as_stream.kept fact (task.kept fact h) in
        let held = polled_can queue.as_stream q left answer before after again.held polled in
        let result = by_result old (record { buffer = record { stream = s; queue = left }; closure = f }) s q left b answer cx before after polled (rw is at task.covered)
        (record { value = tt; ended = tt; same = λ _ h. same h; again = record { next = again.next; to_come = again.to_come; held = held }; limit = limits; kept = kept })
        (λ empty none. let counts = rw empty at polled.counts in record { value = same (rw none ([], (refl, refl))); ended = (none, rw counts.1 counts.0); same = tt; again = tt; limit = limits; kept = kept }) in
        record {
          turn = record {
            drew = drew;
            drawn = mid;
            draws = draws;
            task_then = before;
            draw_keeps = task.kept;
            not_polled = task.no_turn;
            queue_answer = answer;
            polls_queue = rw is polled.polled;
            same_stream = rw is refl;
            same_closure = rw is refl;
            gives = rw by gives;
            same_room = polled.same_room ∙ room;
            bound = polled.bound;
          };
          leaves = rw gives result.0;
          registered = rw gives result.1;
        }

    -- no poll changes how many the queue can hold, and no more are held after a poll
    pub polled_of : (old new : ForEach St Fn Q) (answer : Poll (Unit {0})) (cx left : Context) → PollsInTurns (for_each_of stream closure queue limit) old answer new cx left → PollsForEach stream closure queue limit old answer new cx left
    polled_of old new answer cx left poll = let fits = by_ends poll.ends in record { called = poll; same_room = fits.0; bound = fits.1 }
      where
        so : (queue.room poll.before.0.buffer.queue ≡ queue.room old.buffer.queue) × (0 < length poll.turns → queue.count poll.before.0.buffer.queue ≤ queue.room poll.before.0.buffer.queue)
        so = chained_keeps (GoesOn (for_each_of stream closure queue limit))
            (λ xs q. (queue.room q.0.buffer.queue ≡ queue.room old.buffer.queue) × (0 < length xs → queue.count q.0.buffer.queue ≤ queue.room q.0.buffer.queue))
            (λ xs q x v same turn. (turn.same_room ∙ same.0, λ _. turn.bound)) poll.turns (old, cx) poll.before (refl, λ some. absurd (omega (arith, some))) poll.row

        by_ends : ((length poll.turns < limit old.buffer.queue) × TurnGives stream closure queue poll.before.0 (Some answer) new poll.before.1 left) ⊎ ((length poll.turns ≡ limit old.buffer.queue) × (answer ≡ Pending) × (new ≡ poll.before.0) × IsWoken left)
            → (queue.room new.buffer.queue ≡ queue.room old.buffer.queue) × (queue.count new.buffer.queue ≤ queue.room new.buffer.queue)
        by_ends (inl last) = (last.1.same_room ∙ so.0, last.1.bound)
        by_ends (inr last) = rw last.2 (so.0, so.1 (omega (arith, last.0, poll.some)))
