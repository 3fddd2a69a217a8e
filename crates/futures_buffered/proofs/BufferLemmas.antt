-- What one draw, and one poll of the queue, leave of what may come from a buffer, and of whether it may be polled.
use Rattle.futures_buffered.proofs.Common.{◌≡◌, ◌⊎◌, ℕ, ◌+◌, ◌<◌, ◌≤◌, List, [], ◌∷◌, ◌++◌, length, Option, Some, None, IfNone, IfSome, IsSomeAnd, Bool, true, false, is_some, refl, sym, ap, subst, inl, inr, arith, ◌∙◌, append_assoc, length-append, FoldsTo, FoldsTo-push, Poll, Ready, Pending, Context, Lasting, Covers, Keeps, Hears, Runs, After, Within, AllItems, Ends, Leads, Chains, Resolves, IfReady, OnPending, StreamAnswers, MayCome, AddsOutput, PollsFutureQueue, PushAddsOutput, PushLeavesQueue, Buffering, Follows, FutureQueueOf, StreamOf, Ahead, AsksStream, DrawsItem, DrawsNone, DrawsTask, FillsBuffer, HasNoTurn, PollsBuffer, PollsStream, WaitsAt, OneComes, BufferGives, buffer_of, answer_from, none-some, AllByRecursion, Maps-Leads, Maps-Within, Maps_end, IsArmed, answers_of}
use Rattle.futures.proofs.SentLemmas.{AllByRecursion_weaker}
use Rattle.futures.specs.Buffered.{GathersWith}

-- the first outputs came, of as many items or entries less
gathers_follow : {F A : Type 0} (P Q : A → Type 0) (m n : ℕ) (before after : Runs F) (first : List A) → ((xs : List A) → AllByRecursion P xs → AllByRecursion P (first ++ xs)) → ((x : A) → Q x → P x)
    → ((all : List F) → after all None → (more : List F) × before more None × (n + length all + length first ≡ m + length more))
    → Follows (GathersWith P m before) first (GathersWith Q n after)
gathers_follow {F} {A} P Q m n before after first each weaker ends xs None h =
    let more = ends h.ends.0 h.ends.1 in
    let long = h.ends.2 in
    let same = more.2 in
    record { each = each xs (AllByRecursion_weaker Q P xs weaker h.each); ends = (more.0, more.1, omega (arith, length-append first xs, long, same)) }
gathers_follow P Q m n before after first each weaker ends xs (Some x) h = record { each = each xs (AllByRecursion_weaker Q P xs weaker h.each); ends = weaker x h.ends }

-- a source that may end may give what one that has ended gives
ends_within : {F : Type 0} (source : Runs F) → source [] None → Within source Ends
ends_within source ended [] None h = ended
ends_within source ended [] (Some x) h = absurd (none-some _ (sym h.1))
ends_within source ended (x ∷ xs) last h = let never = h.0 in cc

chains_follow : {A : Type 0} (old new more : Runs A) (first : List A) → Follows old first new → Follows (Chains old more) first (Chains new more)
chains_follow old new more first less xs None (inl h) = absurd h
chains_follow old new more first less xs (Some y) (inl h) = inl (less xs (Some y) h)
chains_follow {A} old new more first less xs last (inr h) = inr (first ++ h.0, h.1, ap (λ (l : List A). first ++ l) h.2 ∙ sym (append_assoc first h.0 h.1), less h.0 None h.3, h.4)

module _ {A : Type 0} (P : A → Type 0) where
  -- one more output behind all others is one more at any place
  by_rest : (zs : List A) (x : A) → Leads P Ends zs (Some x) → P x
  by_rest [] x then = then
  by_rest (z ∷ zs) x then = absurd (none-some _ (sym then.1.1))

  pub adds_anywhere : (in_order : Bool) (old new : Runs A) → AddsOutput in_order old P new → AddsOutput false old P new
  adds_anywhere true old new adds x came = by_part (adds came.0 (Some x) came.1)
    where
      by_part : Chains old (Leads P Ends) came.0 (Some x) → MayCome old x ⊎ P x
      by_part (inl part) = inl (came.0, part)
      by_part (inr part) = inr (by_rest part.1 x part.4)
  adds_anywhere false old new adds x came = adds x came

  -- one output of an item that came, and then those of the items that follow
  module _ (old rest more : Runs A) (leads : Within rest (Leads P more)) where
    shows : (xs : List A) (y : A) → Chains old (Leads P Ends) xs (Some y) → Chains old rest xs (Some y)
    shows xs y (inl h) = inl h
    shows xs y (inr (ys, [], same, came, then)) = inr (ys, [], same, came, leads [] (Some y) then)
    shows xs y (inr (ys, z ∷ zs, same, came, then)) = absurd (none-some _ (sym then.1.1))

    and_more : (xs ys zs : List A) (last : Option A) → xs ≡ ys ++ zs → more zs last → Chains old (Leads P Ends) ys None → Chains old rest xs last
    and_more xs ys zs last eq then (inl h) = absurd h
    and_more xs ys zs last eq then (inr (first, [], same, came, one)) = absurd one
    and_more xs ys zs last eq then (inr (first, y ∷ others, same, came, one)) =
        let alone : ys ≡ first ++ y ∷ [] = same ∙ ap (λ (l : List A). first ++ y ∷ l) one.1.0 in
        inr (first, y ∷ zs, eq ∙ (ap (λ (l : List A). l ++ zs) alone ∙ append_assoc first (y ∷ []) zs), came, leads (y ∷ zs) last (one.0, then))

    item_chains : (new : Runs A) → AddsOutput true old P new → Within (Chains old rest) (Chains new more)
    item_chains new adds xs None (inl h) = absurd h
    item_chains new adds xs (Some y) (inl h) = shows xs y (adds xs (Some y) h)
    item_chains new adds xs last (inr (ys, zs, same, came, then)) = and_more xs ys zs last same then (adds ys None came)

module _ {St X A Q : Type 0} (yields : St → Runs X) (item_gives : X → A → Type 0) (count : Q → ℕ) (comes : Q → Runs A) where
  abbrev One : Option St → Q → A → Type 0
  One stream q = OneComes yields item_gives count comes (record { stream = stream; queue = q })

  abbrev Gives : Bool → Option St → Q → Runs A
  Gives in_order stream q = BufferGives yields item_gives count comes in_order (record { stream = stream; queue = q })

  -- the stream was pending, or it ended
  stream_within : (in_order : Bool) (s t : Option St) (q : Q) → Within (Ahead yields s) (Ahead yields t) → Within (Gives in_order s q) (Gives in_order t q)
  stream_within true s t q less xs last (inl h) = inl h
  stream_within true s t q less xs last (inr h) = inr (h.0, h.1, h.2, h.3, Maps-Within _ (Ahead yields s) (Ahead yields t) tt less h.1 last h.4)
  stream_within false s t q less xs last h =
      gathers_follow (One s q) (One t q) (count q) (count q) (Ahead yields s) (Ahead yields t) [] (λ ys each. each) weaker (λ all e. (all, less all None e, omega arith)) xs last h
    where
      weaker : (y : A) → One t q y → One s q y
      weaker y (inl any) = inl any
      weaker y (inr any) = inr (any.0, any.1, less any.0 (Some any.1) any.2, any.3)

  -- an item came, and its output may come, or came at once
  item_gathers : (s t : St) (item : X) (old new : Q) (first : List A) → ((xs : List A) → AllByRecursion (One (Some s) old) xs → AllByRecursion (One (Some s) old) (first ++ xs)) → AddsOutput false (comes old) (item_gives item) (comes new) → count new + length first ≡ count old + 1
      → yields s [] (Some item) → After (yields s) item (yields t) → Follows (Gives false (Some s) old) first (Gives false (Some t) new)
  item_gathers s t item old new first each adds counts came rest =
      gathers_follow (One (Some s) old) (One (Some t) new) (count old) (count new) (yields s) (yields t) first each weaker (λ all e. (item ∷ all, rest all None e, omega (arith, counts)))
    where
      by_queue : (y : A) → MayCome (comes old) y ⊎ item_gives item y → One (Some s) old y
      by_queue y (inl any) = inl any
      by_queue y (inr gave) = inr ([], item, came, gave)

      weaker : (y : A) → One (Some t) new y → One (Some s) old y
      weaker y (inl any) = by_queue y (adds y any)
      weaker y (inr any) = inr (item ∷ any.0, any.1, rest any.0 (Some any.1) any.2, any.3)

  item_within : (in_order : Bool) (s t : St) (item : X) (old new : Q) → AddsOutput in_order (comes old) (item_gives item) (comes new) → count new ≡ count old + 1 → yields s [] (Some item) → After (yields s) item (yields t)
      → Within (Gives in_order (Some s) old) (Gives in_order (Some t) new)
  item_within true s t item old new adds one_more came rest =
      item_chains (item_gives item) (comes old) (Resolves item_gives (yields s)) (Resolves item_gives (yields t)) (Maps-Leads (λ _ future x _. item_gives future x) (yields s) (yields t) tt tt item (item_gives item) came rest (λ y gave. gave)) (comes new) adds
  item_within false s t item old new adds one_more came rest = item_gathers s t item old new [] (λ xs h. h) adds (omega (arith, one_more)) came rest

  -- the queue was pending, or it gave the first output
  queue_follows : (in_order : Bool) (stream : Option St) (old new : Q) (first : List A) → ((xs : List A) → AllByRecursion (One stream old) xs → AllByRecursion (One stream old) (first ++ xs)) → Follows (comes old) first (comes new) → count new + length first ≡ count old
      → Follows (Gives in_order stream old) first (Gives in_order stream new)
  queue_follows true stream old new first each less counts = chains_follow (comes old) (comes new) (Resolves item_gives (Ahead yields stream)) first less
  queue_follows false stream old new first each less counts = gathers_follow (One stream old) (One stream new) (count old) (count new) (Ahead yields stream) (Ahead yields stream) first each weaker (λ all e. (all, e, omega (arith, counts)))
    where
      weaker : (y : A) → One stream new y → One stream old y
      weaker y (inl any) = inl (first ++ any.0, less any.0 (Some y) any.1)
      weaker y (inr any) = inr any

  queue_value : (in_order : Bool) (stream : Option St) (q : Q) (x : A) → comes q [] (Some x) → Gives in_order stream q [] (Some x)
  queue_value true stream q x value = inl value
  queue_value false stream q x value = record { each = tt; ends = inl ([], value) }

  -- the queue was empty
  queue_ends : (in_order : Bool) (q : Q) → comes q [] None → count q ≡ 0 → Gives in_order None q [] None
  queue_ends true q ended none = inr ([], [], refl, ended, Maps_end _ Ends tt (refl, refl))
  queue_ends false q ended none = record { each = tt; ends = ([], (refl, refl), omega (arith, none)) }

-- a step that takes no item keeps the queue, and what comes from the stream
pub none_drawn : {St X Q : Type 0} (yields : St → Runs X) (count : Q → ℕ) (n : ℕ) (old new : Buffering St Q) → DrawsNone (PollsStream yields) count n old new → (new.queue ≡ old.queue) × Within (Ahead yields old.stream) (Ahead yields new.stream)
none_drawn yields count n old new (inl h) = rw h.1 (refl, λ xs last may. may)
none_drawn yields count n old new (inr (inl (left, asks, is))) = rw (is, asks.not_ended) (refl, asks.answers.same)
none_drawn yields count n old new (inr (inr (left, asks, is))) = rw (is, asks.not_ended) (refl, ends_within (yields asks.stream) asks.answers.value)

-- each item that may come now might have come before
fit_within : {St X : Type 0} (yields : St → Runs X) (P : X → Type 0) (s t : Option St) → Within (Ahead yields s) (Ahead yields t) → IfSome s (λ stream. AllItems (yields stream) P) → IfSome t (λ stream. AllItems (yields stream) P)
fit_within yields P s None less fit = tt
fit_within yields P None (Some t) less fit = λ xs x h. absurd (none-some _ (sym (less xs (Some x) h).1))
fit_within yields P (Some s) (Some t) less fit = λ xs x h. fit xs x (less xs (Some x) h)

-- a stream that was polled had its turn
asked_had_turn : {St X Q : Type 0} (next : St → Poll (Option X) → St → Type 0) (count : Q → ℕ) (n : ℕ) (old : Buffering St Q) (answer : Poll (Option X)) (left : St) → AsksStream next count n old answer left → HasNoTurn next count n old → ⊥
asked_had_turn next count n old answer left asks (inl ended) = absurd (none-some _ (sym ended ∙ asks.not_ended))
asked_had_turn next count n old answer left asks (inr full) = absurd (omega (arith, full, asks.has_room))

-- What filling has made of a buffer and of its task so far. No push returned an answer.
pub record Filling {St X A Q : Type 0} (source : StreamOf St X) (by : FutureQueueOf Q X A) (old now : Buffering St Q) (cx left : Context) : Type 0 where
  pub drawn : List X
  pub items : FoldsTo (DrawsItem (PollsStream source.yields) by.count (by.room old.queue) by.pushes None) old drawn now
  pub room : by.room now.queue ≡ by.room old.queue
  pub again : (buffer_of source by).can_poll now
  pub within : Within ((buffer_of source by).yields old) ((buffer_of source by).yields now)
  pub no_turn : HasNoTurn (PollsStream source.yields) by.count (by.room old.queue) old → (now ≡ old) × (left ≡ cx)
  pub kept : Keeps cx left

module _ {St X A Q : Type 0} (source : StreamOf St X) (by : FutureQueueOf Q X A) (old : Buffering St Q) (s : Option St) (q : Q) (cx before after : Context) (so : Filling source by old (record { stream = s; queue = q }) cx before) (kept : Keeps before after) where
  turn : HasNoTurn (PollsStream source.yields) by.count (by.room old.queue) old → HasNoTurn (PollsStream source.yields) by.count (by.room q) (record { stream = s; queue = q })
  turn none = subst (λ (b : Buffering St Q). HasNoTurn (PollsStream source.yields) by.count (by.room b.queue) b) (sym (so.no_turn none).0) none

  -- no item came
  pub fill_none : {NoneCame : Type 0} (t : Option St) → NoneCame → DrawsNone (PollsStream source.yields) by.count (by.room q) (record { stream = s; queue = q }) (record { stream = t; queue = q }) → IfSome t source.can_poll → by.count q ≤ by.room q
      → DrawsTask (PollsStream source.yields) by.count by.room source.needs NoneCame (record { stream = s; queue = q }) (record { stream = t; queue = q }) before after → FillsBuffer source by old None (record { stream = t; queue = q }) cx after
  fill_none t none drew next bound task =
      let less = (none_drawn source.yields by.count (by.room q) (record { stream = s; queue = q }) (record { stream = t; queue = q }) drew).1 in
      record {
        drawn = so.drawn;
        draws = record { full = record { stream = s; queue = q }; items = so.items; last = rw (← so.room) drew };
        same_room = so.room;
        bound = bound;
        again = record { stream = next; to_come = fit_within source.yields by.is_fit s t less so.again.to_come; held = so.again.held };
        value = tt;
        rest = λ xs last h. so.within xs last (stream_within source.yields by.gives by.count by.as_stream.yields by.in_order s t q less xs last h);
        task = record {
          covered = λ _. task.covered none;
          no_turn = λ had_none. task.no_turn (turn had_none) ∙ (so.no_turn had_none).1;
          kept = λ fact h. kept fact (so.kept fact h);
        };
      }

  -- an item came, by what its push returned
  module _ (left : St) (item : X) (new : Q) (asks : AsksStream (PollsStream source.yields) by.count (by.room q) (record { stream = s; queue = q }) (Ready (Some item)) left) (next : source.can_poll left) (again : by.as_stream.can_poll new) where
    drew : (given : Option A) → by.pushes q item given new → DrawsItem (PollsStream source.yields) by.count (by.room old.queue) by.pushes given (record { stream = s; queue = q }) item (record { stream = Some left; queue = new })
    drew given pushed = rw (← so.room) (record { left = left; asks = asks; stream_left = refl; pushed = pushed })

    can : (buffer_of source by).can_poll (record { stream = Some left; queue = new })
    can = record { stream = next; to_come = λ xs x h. (rw asks.not_ended at so.again.to_come) (item ∷ xs) x (asks.answers.rest xs (Some x) h); held = again }

    pub fill_item : by.pushes q item None new → PushLeavesQueue {A = A} by.count by.room q None new → PushAddsOutput by.in_order by.as_stream.yields (by.gives item) q None new → Filling source by old (record { stream = Some left; queue = new }) cx after
    fill_item pushed push output = record {
      drawn = so.drawn ++ item ∷ [];
      items = FoldsTo-push (DrawsItem (PollsStream source.yields) by.count (by.room old.queue) by.pushes None) old so.drawn (record { stream = s; queue = q }) item (record { stream = Some left; queue = new }) so.items (drew None pushed);
      room = push.same_room ∙ so.room;
      again = can;
      within = λ xs last h. so.within xs last (rw asks.not_ended (item_within source.yields by.gives by.count by.as_stream.yields by.in_order asks.stream left item q new output.adds push.one_more asks.answers.value asks.answers.rest xs last h));
      no_turn = λ none. absurd (asked_had_turn (PollsStream source.yields) by.count (by.room q) (record { stream = s; queue = q }) _ left asks (turn none));
      kept = λ fact h. kept fact (so.kept fact h);
    }

    pub fill_gave : (x : A) → by.pushes q item (Some x) new → PushLeavesQueue by.count by.room q (Some x) new → PushAddsOutput by.in_order by.as_stream.yields (by.gives item) q (Some x) new → FillsBuffer source by old (Some x) (record { stream = Some left; queue = new }) cx after
    fill_gave x pushed push output =
        let one : One source.yields by.gives by.count by.as_stream.yields (Some asks.stream) q x = inr ([], item, asks.answers.value, output.value) in
        record {
          drawn = so.drawn;
          draws = record { full = record { stream = s; queue = q }; items = so.items; last = (item, drew (Some x) pushed) };
          same_room = push.same_room ∙ so.room;
          bound = let e = ap by.count push.stays in omega (arith, asks.has_room, e, push.same_room);
          again = can;
          value = so.within [] (Some x) (rw (asks.not_ended, output.overtakes) (record { each = tt; ends = one }));
          rest = λ xs last h. so.within (x ∷ xs) last (rw (asks.not_ended, output.overtakes) (item_gathers source.yields by.gives by.count by.as_stream.yields asks.stream left item q q (x ∷ []) (λ ys each. (one, each)) (λ y any. inl any) (omega arith) asks.answers.value asks.answers.rest xs last (rw (output.overtakes, push.stays) at h)));
          task = record {
            covered = λ none. absurd (none-some x (sym none));
            no_turn = λ none. absurd (asked_had_turn (PollsStream source.yields) by.count (by.room q) (record { stream = s; queue = q }) _ left asks (turn none));
            kept = λ fact h. kept fact (so.kept fact h);
          };
        }

-- a queue that may be polled may be polled again
pub polled_can : {A Q : Type 0} {polls : Q → Poll (Option A) → Q → Context → Context → Type 0} {count room : Q → ℕ} (stream : StreamOf Q A) (old new : Q) (answer : Poll (Option A)) (cx left : Context) → stream.can_poll old → PollsFutureQueue polls count room stream old answer new cx left → stream.can_poll new
polled_can stream old new (Ready (Some x)) cx left can polled = polled.as_stream.goes
polled_can stream old new (Ready None) cx left can polled = rw polled.counts.1 can
polled_can stream old new Pending cx left can polled = polled.as_stream.again

module _ {St A Q : Type 0} (stream_needs : St → ℕ → Type 0) (queue : StreamOf Q A) (count room : Q → ℕ) (stream : Option St) (old new : Q) (before after : Context) (covered : count old < room old → IfSome stream (λ s. Covers before (stream_needs s))) where
  abbrev Waits : ℕ → Type 0
  Waits = WaitsAt stream_needs queue.needs count room (record { stream = stream; queue = new })

  registers : Keeps before after → IsArmed after → ((place : ℕ) → 0 < count new → queue.needs new place → Hears after place) → count new ≡ count old → room new ≡ room old → Covers after Waits
  registers kept armed by_queue same_count same_room = (armed, by_place)
    where
      by_stream : (place : ℕ) (o : Option St) → IfSome o (λ s. Covers before (stream_needs s)) → IsSomeAnd o (λ s. stream_needs s place) → Hears after place
      by_stream place None covers needs = absurd needs
      by_stream place (Some s) covers needs = kept (Lasting.hears place) (covers.1 place needs)

      by_place : (place : ℕ) → Waits place → Hears after place
      by_place place (inl waits) = by_queue place waits.0 waits.1
      by_place place (inr waits) = let below = waits.0 in by_stream place stream (covered (omega (arith, same_count, same_room, below))) waits.1

  -- a pending call waits where its draws and its queue wait
  pub waits_pending : {polls : Q → Poll (Option A) → Q → Context → Context → Type 0} → PollsFutureQueue polls count room queue old Pending new before after → Covers after Waits
  waits_pending polled = registers polled.as_stream.kept polled.as_stream.registered.0 (λ place more needs. polled.as_stream.registered.1 place needs) polled.counts.0 polled.same_room

  -- if nothing is held, it waits where its draws do
  pub waits_empty : {polls : Q → Poll (Option A) → Q → Context → Context → Type 0} → (IfSome stream (λ s. Covers before (stream_needs s)) → IsArmed before) → PollsFutureQueue polls count room queue old (Ready None) new before after → Covers after Waits
  waits_empty armed polled =
      let none = polled.counts.0 in
      let same_count = ap count polled.counts.1 in
      let below : count old < room old = omega (arith, none, polled.some, ap room polled.counts.1) in
      registers polled.as_stream.kept (polled.as_stream.kept Lasting.armed (armed (covered below))) (λ place more needs. absurd (omega (arith, more, none, same_count))) same_count (ap room polled.counts.1)

-- what a call is after its draws, by what its poll of the queue returned: how it ends, and what it is as a stream
answers_by : {St X A Q : Type 0} (source : StreamOf St X) (by : FutureQueueOf Q X A) (old : Buffering St Q) (stream : Option St) (queue left : Q) (queue_answer : Poll (Option A)) (cx before after : Context)
    → Within ((buffer_of source by).yields old) ((buffer_of source by).yields (record { stream = stream; queue = queue })) → (buffer_of source by).can_poll (record { stream = stream; queue = left })
    → (by.count queue < by.room queue → IfSome stream (λ s. Covers before (source.needs s))) → Keeps cx after → PollsFutureQueue by.polls by.count by.room by.as_stream queue queue_answer left before after
    → IfReady (answer_from (is_some stream) queue_answer) (λ o. IfNone o ((stream ≡ None) × (by.count left ≡ 0))) × OnPending (answer_from (is_some stream) queue_answer) (stream ≡ None → 0 < by.count left)
    × StreamAnswers (buffer_of source by) old (answer_from (is_some stream) queue_answer) (record { stream = stream; queue = left }) cx after
answers_by source by old stream queue left (Ready (Some x)) cx before after within can covered kept polled =
    let fewer : by.count left + 1 ≡ by.count queue = polled.counts in
    let value = queue_value source.yields by.gives by.count by.as_stream.yields by.in_order stream queue x polled.as_stream.value in
    let rest = queue_follows source.yields by.gives by.count by.as_stream.yields by.in_order stream queue left (x ∷ []) (λ ys each. (inl ([], polled.as_stream.value), each)) polled.as_stream.rest (omega (arith, fewer)) in
    (tt, tt, answers_of (buffer_of source by) old _ _ cx after (within [] (Some x) value) (λ xs last h. within (x ∷ xs) last (rest xs last h)) tt can tt kept)
answers_by source by old None queue left (Ready None) cx before after within can covered kept polled =
    let value = queue_ends source.yields by.gives by.count by.as_stream.yields by.in_order queue polled.as_stream.value polled.counts.0 in
    ((refl, rw polled.counts.1 polled.counts.0), tt, answers_of (buffer_of source by) old _ _ cx after (within [] None value) tt tt can tt kept)
answers_by source by old (Some s) queue left (Ready None) cx before after within can covered kept polled =
    let registered = waits_empty source.needs by.as_stream by.count by.room (Some s) queue left before after covered (λ covers. covers.0) polled in
    (tt, λ ended. absurd (none-some s (sym ended)), answers_of (buffer_of source by) old _ _ cx after tt tt (λ xs last h. within xs last (rw (← polled.counts.1) h)) can registered kept)
answers_by source by old stream queue left Pending cx before after within can covered kept polled =
    let rest = queue_follows source.yields by.gives by.count by.as_stream.yields by.in_order stream queue left [] (λ ys each. each) polled.as_stream.same (omega (arith, polled.counts.0)) in
    let registered = waits_pending source.needs by.as_stream by.count by.room stream queue left before after covered polled in
    (tt, λ _. polled.counts.1, answers_of (buffer_of source by) old _ _ cx after tt tt (λ xs last h. within xs last (rest xs last h)) can registered kept)

-- a call that ended with a poll of the queue
pub poll_of : {St X A Q : Type 0} (source : StreamOf St X) (by : FutureQueueOf Q X A) (old : Buffering St Q) (stream : Option St) (queue left : Q) (queue_answer : Poll (Option A)) (cx task_then after : Context)
    → FillsBuffer source by old None (record { stream = stream; queue = queue }) cx task_then
    → PollsFutureQueue by.polls by.count by.room by.as_stream queue queue_answer left task_then after
    → PollsBuffer source by old (answer_from (is_some stream) queue_answer) (record { stream = stream; queue = left }) cx after
poll_of source by old stream queue left queue_answer cx task_then after filled polled =
    let can : (buffer_of source by).can_poll (record { stream = stream; queue = left }) = record { stream = filled.again.stream; to_come = filled.again.to_come; held = polled_can by.as_stream queue left queue_answer task_then after filled.again.held polled } in
    let answers = answers_by source by old stream queue left queue_answer cx task_then after filled.rest can (filled.task.covered refl) (λ fact h. polled.as_stream.kept fact (filled.task.kept fact h)) polled in
    record {
      task_then = task_then;
      draws_keep = filled.task.kept;
      not_polled = filled.task.no_turn;
      gave = (
        filled.drawn,
        record {
          given = None;
          filled = record { stream = stream; queue = queue };
          draws = filled.draws;
          ends = record { queue_answer = queue_answer; polls_queue = polled.polled; same_stream = refl; gives = refl };
        },
      );
      ended = answers.0;
      waits = answers.1;
      same_room = polled.same_room ∙ filled.same_room;
      bound = polled.bound;
      as_stream = answers.2;
    }

-- a call that ended with the answer of a push
pub gave_of : {St X A Q : Type 0} (source : StreamOf St X) (by : FutureQueueOf Q X A) (old new : Buffering St Q) (x : A) (cx after : Context) → FillsBuffer source by old (Some x) new cx after → PollsBuffer source by old (Ready (Some x)) new cx after
gave_of source by old new x cx after filled =
    record {
      task_then = after;
      draws_keep = filled.task.kept;
      not_polled = filled.task.no_turn;
      gave = (filled.drawn, record { given = Some x; filled = new; draws = filled.draws; ends = (refl, refl, refl) });
      ended = tt;
      waits = tt;
      same_room = filled.same_room;
      bound = filled.bound;
      as_stream = answers_of (buffer_of source by) old new (Ready (Some x)) cx after filled.value filled.rest tt filled.again tt filled.task.kept;
    }
