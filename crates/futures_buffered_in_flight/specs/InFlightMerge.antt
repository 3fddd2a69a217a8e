-- What a contract sees of a merge of streams of `futures`: a set of futures in flight. Each future returns the next
-- answer of a stream, and the stream; its tag is the number of the stream's push. A clause gives the streams by the
-- ghost members of their type: `St.Stream`.
use Rattle.std.specs.Prelude.{◌≡◌, ◌≢◌, ◌+◌, ◌-◌, ◌^◌, ◌<◌, ◌≤◌, ◌⊎◌, ℕ, Bool, true, false, min, List, [], ◌∷◌, Option, Some, None}
use Rattle.std.specs.Prelude.{IsSomeAnd, MatchOption, Result, Ok, IfErr, IfOk, IsErr, length}
use Rattle.futures.specs.declared.task.Poll.{Poll}
use Rattle.futures.specs.declared.task.Poll.TheVariants.{Ready, Pending}
use Rattle.futures.specs.declared.task.context.Context.{Context}
use Rattle.futures.specs.declared.stream.ext.into_future.StreamFuture.{StreamFuture}
pub use Rattle.futures.specs.declared.stream.Stream.{Ghosts as StreamOf}
use Rattle.futures.specs.Merged.{CanPollNext, NextOf}
use Rattle.futures.specs.Poll.{OnPending}
use Rattle.futures.specs.Runs.{Runs, Within}
use Rattle.futures.specs.Task.{Covers, Keeps}
use Rattle.futures_buffered_core.specs.SlotMap.{held_count, no_slots}
use Rattle.futures_buffered_unordered.specs.FuturesUnorderedBounded.{IsWoken}
use Rattle.futures_buffered_in_flight.specs.InFlight.{Cancels, CanPollAll, Flights, FlightsWaitAt, FutureOf, HasNoRoom, IsHeld, MayCome}
use Rattle.futures_buffered_in_flight.specs.InFlight.{without_key}
use Rattle.futures_buffered_in_flight.specs.declared.in_flight.Came.{Came}
use Rattle.futures_buffered_in_flight.specs.Ledger.{no_account}
use Rattle.futures_buffered_in_flight.specs.declared.run.Key.{Key}

-- the futures of the next answers of streams, each under the number of the push of its stream
abbrev pub Streams : Type 0 → Type 0
Streams St = Flights (StreamFuture St) ℕ

-- these futures, and how many streams can be held
pub record Merged (St : Type 0) : Type 0 where
  pub set : Streams St
  pub limit : ℕ

-- a set, or a set without a slot if none was made yet
abbrev pub made_set : {St : Type 0} → Option (Streams St) → Streams St
made_set None = record { slots = no_slots 0; running = None; waiting = []; cancelled = 0; next = 0; ledger = no_account }
made_set (Some set) = set

-- how many streams are held
abbrev pub streams_held : {St : Type 0} → Merged St → ℕ
streams_held m = held_count m.set.slots

-- a push may be refused: as many streams are held as can be, or as many futures occupy room as there are slots, so that a
-- slot has to be made, or the push numbers are used up
abbrev pub MayRefuseStream : {St : Type 0} → Merged St → Type 0
MayRefuseStream m = (m.limit ≤ streams_held m) ⊎ HasNoRoom m.set

-- no stream is held, also none that was cancelled, and there is room for `n`
abbrev pub IsNewMerge : {St : Type 0} → ℕ → Merged St → Type 0
IsNewMerge n m = (streams_held m ≡ 0) × (m.limit ≡ n) × (m.set.running ≡ None) × (m.set.waiting ≡ [])
    × (m.set.cancelled ≡ 0)

-- the stream of this key is held; `push` is the number of the future of its next answer
abbrev pub HoldsStream : {St : Type 0} → Streams St → Key → Type 0
HoldsStream set key = (push : ℕ) × IsHeld set (record { slot = key.slot; push = push }) key.push

-- the place at which a pending poll waits: the place of the set
abbrev pub MergedWaitsAt : {St : Type 0} → Merged St → ℕ → Type 0
MergedWaitsAt m = FlightsWaitAt m.set

-- what a cancel of the stream of this key makes of the set, and whether the stream was held
abbrev pub CancelsStream : {St : Type 0} → Streams St → Key → Bool → Streams St → Type 0
CancelsStream old key true new = (push : ℕ) × Cancels old (record { slot = key.slot; push = push }) key.push new
CancelsStream old key false new = (new ≡ old) × (HoldsStream old key → ⊥)

module _ {St A : Type 0} (stream : StreamOf St A) where
  -- the ghost members of the future of the next answer of a stream
  abbrev pub next_of : FutureOf (StreamFuture St) (Option A × St)
  next_of = record {
    can_poll = CanPollNext stream;
    needs = λ next source. IsSomeAnd next.stream (λ st. stream.needs st source);
    gives = NextOf stream;
  }

  -- an answer of a stream, and after an item what may come from the stream then
  abbrev pub AnswersThen : Option A × St → Runs A
  AnswersThen given [] last = given.0 ≡ last
  AnswersThen given (x ∷ xs) last = (given.0 ≡ Some x) × stream.yields given.1 xs last

  -- what may come from the stream of this key, if it is held
  pub record ComesOfStream (set : Streams St) (key : Key) (xs : List A) (last : Option A) : Type 0 where
    pub push : ℕ
    pub given : Option A × St
    pub runs : IsHeld set (record { slot = key.slot; push = push }) key.push
    pub gives : MayCome next_of set (record { slot = key.slot; push = push }, Some given)
    pub comes : AnswersThen given xs last

  -- one of the streams held may return this answer, an item or `None`, now or later
  abbrev pub AnyAnswers : Streams St → Option A → Type 0
  AnyAnswers set answer = (key : Key) × (before : List A) × ComesOfStream set key before answer

  -- each stream may be polled
  abbrev pub CanPollStreams : Merged St → Type 0
  CanPollStreams m = CanPollAll next_of m.set

  -- what may come: items of the streams, and `None` if no stream is held or a stream may end
  abbrev pub ComesFromMerged : Merged St → Runs A
  ComesFromMerged m before (Some x) = AnyAnswers m.set (Some x)
  ComesFromMerged m before None = (streams_held m ≡ 0) ⊎ AnyAnswers m.set None

  -- from each stream may come only what might come before
  abbrev pub StreamsGoOn : Streams St → Streams St → Type 0
  StreamsGoOn old new = (key : Key) → Within (ComesOfStream old key) (ComesOfStream new key)

  -- from the stream of this key may come only what `own` says, and from each other stream what might come before
  abbrev pub OneGoesOn : Streams St → Key → Runs A → Streams St → Type 0
  OneGoesOn old key own new = (k : Key) → ((k ≡ key) × Within own (ComesOfStream new k))
      ⊎ ((k ≢ key) × Within (ComesOfStream old k) (ComesOfStream new k))

  -- a stream was added, with this key
  pub record StreamEnters (old : Streams St) (pushed : St) (key : Key) (new : Streams St)
      : Type 0 where
    pub one_more : held_count new.slots ≡ held_count old.slots + 1
    pub held : HoldsStream new key
    -- the key has the number of this push, and the number of the next push is one more, unless this is the last number
    pub numbered : (key.push ≡ old.next) × (new.next ≡ min (old.next + 1) (2 ^ 64 - 1))
    -- from the stream comes what might come from it before, and no other stream changes
    pub comes : OneGoesOn old key (stream.yields pushed) new
    -- the set may be polled
    pub again : CanPollAll next_of new

  -- One push of a stream.
  pub record PushesStream (old : Merged St) (pushed : St) (result : Result Key St) (new : Merged St) : Type 0 where
    -- if the push succeeds, the stream is added
    pub went_in : IfOk result (λ key. StreamEnters old.set pushed key new.set)
    -- if the push is refused, it returns the stream, and nothing changes
    pub back : IfErr result (λ back. (back ≡ pushed) × (new ≡ old))
    -- the push is refused if as many streams are held as can be, and only if a push may be refused
    pub full : old.limit ≤ streams_held old → IsErr result
    pub room : IsErr result → MayRefuseStream old
    pub same_limit : new.limit ≡ old.limit
    -- the merge may be polled
    pub again : CanPollStreams new

  -- a stream was added
  abbrev pub StreamWentIn : Merged St → St → Merged St → Type 0
  StreamWentIn old pushed new = (key : Key) × PushesStream old pushed (Ok key) new

  -- one of these streams may return this answer, now or later
  abbrev pub AnyStream : List St → Option A → Type 0
  AnyStream [] answer = ⊥
  AnyStream (st ∷ sts) answer = ((before : List A) × stream.yields st before answer) ⊎ AnyStream sts answer

  -- the merge holds as many streams, may return only what these streams may return, and may be polled
  pub record HoldsStreams (items : List St) (m : Merged St) : Type 0 where
    pub count : streams_held m ≡ length items
    pub answers : (answer : Option A) → AnyAnswers m.set answer → AnyStream items answer
    pub again : CanPollStreams m

  -- an item of the stream of its key, which stays with the same key
  pub record ComesByStream (old : Streams St) (came : Came A (Unit {0})) (new : Streams St)
      : Type 0 where
    pub gave : ComesOfStream old came.key [] (Some came.output)
    pub stays : HoldsStream new came.key
    pub same_count : (held_count new.slots ≡ held_count old.slots) × (0 < held_count old.slots)
    -- from this stream may come what might come after the item, and no other stream changes
    pub comes : OneGoesOn old came.key (λ xs last. ComesOfStream old came.key (came.output ∷ xs) last) new

  -- an item; `None` if and only if no stream is held after the poll, which leaves no cancelled stream; or `Pending`
  abbrev pub GivesAnswer : Streams St → Poll (Option (Came A (Unit {0}))) → Streams St → Type 0
  GivesAnswer old (Ready (Some came)) new = ComesByStream old came new
  GivesAnswer old (Ready None) new = (held_count new.slots ≡ 0) × (new.cancelled ≡ 0) × StreamsGoOn old new
  GivesAnswer old Pending new = (0 < held_count new.slots) × StreamsGoOn old new

  -- at most one stream has ended; if one has, one of the old streams may end
  abbrev pub OneStreamEndsAtMost : Streams St → Streams St → Type 0
  OneStreamEndsAtMost old new = (held_count new.slots ≡ held_count old.slots)
      ⊎ ((held_count new.slots + 1 ≡ held_count old.slots) × AnyAnswers old None)

  -- no stream may return what no stream could return before
  abbrev pub AnswersNoMore : Streams St → Streams St → Type 0
  AnswersNoMore old new = (answer : Option A) → AnyAnswers new answer → AnyAnswers old answer

  -- One poll, which takes the set from `old` to `new` and the task from `cx` to `left`.
  pub record PollsMerge (old : Streams St) (answer : Poll (Option (Came A (Unit {0}))))
      (new : Streams St) (cx left : Context) : Type 0 where
    -- an item with the key of its stream, `None` if and only if no stream is held after this poll, or `Pending`;
    -- nothing here says which task is woken
    pub gave : GivesAnswer old answer new
    -- at most one stream ends, if one of them may end
    pub ended : OneStreamEndsAtMost old new
    -- the number of the next push does not change, or is one more, unless it is the last number
    pub keys : (new.next ≡ old.next) ⊎ (new.next ≡ min (old.next + 1) (2 ^ 64 - 1))
    -- a pending poll leaves no cancelled stream, and no stream that waits for memory, or the task is woken
    pub dropped : OnPending answer ((new.cancelled ≡ 0) ⊎ IsWoken left)
    pub started : OnPending answer ((new.waiting ≡ []) ⊎ IsWoken left)
    -- the task of a pending merge is registered where the set waits, or is woken
    pub registered : OnPending answer (Covers left (FlightsWaitAt new))
    -- the task keeps each earlier registration and wake
    pub kept : Keeps cx left
    -- the set may be polled
    pub again : CanPollAll next_of new

  -- One poll, whose answer does not say the key.
  pub record PollsUnkeyed (old : Merged St) (answer : Poll (Option A)) (new : Merged St) (cx left : Context) : Type 0 where
    pub keyed : Poll (Option (Came A (Unit {0})))
    pub same : answer ≡ without_key keyed
    pub polls : PollsMerge old.set keyed new.set cx left
    pub same_limit : new.limit ≡ old.limit

  -- What polling until the next item, or `None`, makes of the merge.
  pub record CameOfMerge (old : Merged St) (item : Option A) (new : Merged St) : Type 0 where
    -- an item that one of the streams may return, or `None` if and only if no stream is held
    pub gave : MatchOption item (streams_held new ≡ 0) (λ x. (0 < streams_held new) × AnyAnswers old.set (Some x))
    -- fewer streams are held only if one of the old streams may end
    pub ended : (streams_held new ≡ streams_held old) ⊎ ((streams_held new < streams_held old) × AnyAnswers old.set None)
    -- no stream may return what no stream could return before
    pub narrows : AnswersNoMore old.set new.set
    pub same_limit : new.limit ≡ old.limit
    -- the merge may be polled
    pub again : CanPollStreams new
