-- What the calls of a channel make of its two ends. A contract sees the ends of the ring, in the words of `rtrb`: what
-- was sent and received, and what each end knows.
use Rattle.std.specs.Prelude.{◌≡◌, ◌+◌, ◌≤◌, ℕ, List, [], ◌∷◌, ◌++◌, Option, Some, None, Result, Ok, Err}
use mathlib.Core.List.{IsPrefix}
use Rattle.rtrb.specs.declared.producer.Producer.{Producer}
use Rattle.rtrb.specs.declared.consumer.Consumer.{Consumer}
pub use Rattle.rtrb.specs.Ring.{sent, known_free, producer_capacity, received, known_items, consumer_capacity, all_sent}
pub use Rattle.rtrb.specs.Ring.{IsPair, Finishes, IsFinishedOf, SameProducer, SameConsumer, ProducerLooked}
pub use Rattle.rtrb.specs.Ring.{ConsumerLooked}
use Rattle.rtrb.specs.Fifo.{Allowed}
use Rattle.futures.specs.declared.task.Poll.{Poll}
use Rattle.futures.specs.declared.task.Poll.TheVariants.{Ready, Pending}
use Rattle.futures_buffered_unordered.specs.SlotStream.{Gave}
use Rattle.futures_buffered_held.specs.declared.spsc.TrySendError.{TrySendError}
use Rattle.futures_buffered_held.specs.declared.spsc.TrySendError.TheVariants.{Full, Closed}
use Rattle.futures_buffered_held.specs.declared.spsc.TryRecvError.{TryRecvError}
use Rattle.futures_buffered_held.specs.declared.spsc.TryRecvError.TheVariants.{Empty, Disconnected}

module _ {T A P : Type 0} where
  -- the ends of a channel through which no value was sent yet
  pub record IsNewChannel (capacity : ℕ) (sender : Producer T A P) (receiver : Consumer T A P) : Type 0 where
    pub pair : IsPair sender receiver
    pub none_sent : sent sender ≡ []
    pub none_received : (received receiver ≡ []) × (known_items receiver ≡ [])
    -- each place is known to be free
    pub room : known_free sender ≡ capacity
    pub capacities : (producer_capacity sender ≡ capacity) × (consumer_capacity receiver ≡ capacity)

  -- one send: the value is sent after those before it, or is returned; it is refused as full only if no place is known
  -- to be free
  abbrev pub Sends : Producer T A P → T → Result (Unit {0}) (TrySendError T) → Producer T A P → Type 0
  Sends old value (Ok done) new = (sent new ≡ sent old ++ value ∷ []) × (known_free old ≤ known_free new + 1)
  Sends old value (Err (Full back)) new = (back ≡ value) × (sent new ≡ sent old) × (known_free old ≡ 0)
      × (known_free new ≡ 0)
  Sends old value (Err (Closed back)) new = (back ≡ value) × ProducerLooked old new

  -- no value is received, and none is known to be in the channel
  abbrev pub FindsNone : Consumer T A P → Consumer T A P → Type 0
  FindsNone old new = ConsumerLooked old new × (known_items new ≡ [])

  -- these values are received after those received before, in order; the first of them are those known to come next,
  -- and the protocol allows each
  pub record ComesThrough (allows : List T → T → Type 0) (old : Consumer T A P) (values : List T)
      (new : Consumer T A P) : Type 0 where
    pub same : SameConsumer old new
    pub next : received new ≡ received old ++ values
    pub first : IsPrefix (known_items old) (values ++ known_items new)
    pub allowed : Allowed allows (received old) values

  -- one poll of a receiver: a value comes through, or none is found
  abbrev pub ReceivesNext : (List T → T → Type 0) → Consumer T A P → Poll (Option T) → Consumer T A P → Type 0
  ReceivesNext allows old (Ready (Some x)) new = ComesThrough allows old (x ∷ []) new
  ReceivesNext allows old (Ready None) new = FindsNone old new
  ReceivesNext allows old Pending new = FindsNone old new

-- if polls in a row gave these items, and none ended the stream, then the items came through in order
abbrev pub KeepsSendingOrder : (T A P : Type 0) → (List T → T → Type 0) → Type 0
KeepsSendingOrder T A P allows = (old : Consumer T A P) (values : List T) (now : Consumer T A P)
    → Gave (ReceivesNext allows) old values now → ComesThrough allows old values now

-- what a poll returns if it finds what this result says
abbrev pub poll_of : {T : Type 0} → Result T TryRecvError → Poll (Option T)
poll_of (Ok x) = Ready (Some x)
poll_of (Err Empty) = Pending
poll_of (Err Disconnected) = Ready None
