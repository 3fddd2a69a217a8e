-- The rule of a one-shot, and what its steps say. The word is 0 while the receiver has the place of the waker, and 1
-- while the receiver waits. It is 2 once the sender is done, and 3 once the receiver is gone.
use Rattle.std.specs.Prelude.{◌≡◌, ◌≢◌, ◌⊎◌, ℕ, zero, suc, List, [], ◌∷◌, Option, Some, None, MatchOption}
use mathlib.Core.Option as maybe
use mathlib.Core.Option.{some}
use lib.ListN.{get_elem?}
use Rattle.atomic_table.specs.Table.{State, Me, rest}
use Rattle.futures_buffered_held.specs.declared.oneshot_place.Left.{Left}
use Rattle.futures_buffered_held.specs.declared.oneshot_place.Left.TheVariants.{Value}
use Rattle.futures_buffered_held.specs.declared.oneshot_place.View.{View}
use Rattle.futures_buffered_held.specs.declared.oneshot_place.View.TheVariants.{Spent, Both, Sender, Writing, Sent}
use Rattle.futures_buffered_held.specs.declared.oneshot_place.View.TheVariants.{Waiting, Idle, Got, Compared}

module _ {T : Type 0} where
  -- what the seat of a sender knows once it is done, by what it sent
  abbrev pub sent_view : Option T → View T
  sent_view None = Spent
  sent_view (Some x) = Sent x

  -- what a seat sent, by what it knows
  abbrev pub sent_by : View T → Option T
  sent_by (Sent x) = Some x
  sent_by v = None

  -- what a seat received, by what it knows
  abbrev pub received : View T → Option T
  received (Got answer) = answer
  received v = None

  -- what a seat knows after it has joined a receipt: the answer and the value sent if it had an answer, otherwise what
  -- it knew
  abbrev pub matched : View T → View T → View T
  matched (Got answer) (Sent x) = Compared answer x
  matched v w = v

  -- what a comparison shows: the answer is the value that was sent; the seat knows its answer again, and any other seat
  -- what it knew
  abbrev pub compared_view : View T → View T → Type 0
  compared_view (Compared answer x) w = (answer ≡ Some x) × (w ≡ Got answer)
  compared_view v w = w ≡ v

-- what a one-shot is apart from the views: the seats of its ends, its word, what its places hold, and what was sent
pub record Inside (T W : Type 0) : Type 0 where
  -- the numbers of the seats
  pub sender : ℕ
  pub receiver : ℕ
  pub word : ℕ
  -- `none` while a seat has the place
  pub value_home : maybe.Option (Left T W)
  pub waker_home : maybe.Option (Left T W)
  pub sent : Option T

module _ {T W : Type 0} where
  -- the value that a place holds, if it holds one
  abbrev pub value_of : Left T W → Option T
  value_of (Value x) = Some x
  value_of y = None

  -- the place has its content, and no seat has the place
  abbrev pub IsHome : maybe.Option (Left T W) → Type 0
  IsHome home = (y : Left T W) × (home ≡ some y)

  -- the sender is done, and the place of the value holds what was sent
  abbrev pub IsSent : Inside T W → Type 0
  IsSent x = (x.word ≡ 2) × ((y : Left T W) × (x.value_home ≡ some y) × (value_of y ≡ x.sent))

  -- what the view of a seat says is true of the one-shot
  abbrev pub Fits : Inside T W → ℕ → View T → Type 0
  Fits x seat Spent = Unit {0}
  Fits x seat Both = (seat ≡ x.sender) × (seat ≡ x.receiver) × (x.word ≡ 1) × (x.sent ≡ None) × IsHome x.value_home
  Fits x seat Sender = (seat ≡ x.sender) × (x.word ≢ 2) × (x.sent ≡ None) × IsHome x.value_home
  Fits x seat Writing = (seat ≡ x.sender) × (x.word ≢ 2) × (x.sent ≡ None)
  Fits x seat (Sent v) = x.sent ≡ Some v
  Fits x seat Waiting = (seat ≡ x.receiver) × ((x.word ≡ 1) ⊎ IsSent x)
  Fits x seat Idle = (seat ≡ x.receiver) × ((x.word ≡ 0) ⊎ IsSent x)
  Fits x seat (Got answer) = (seat ≡ x.receiver) × (x.word ≡ 2) × (x.sent ≡ answer)
  Fits x seat (Compared answer v) = (seat ≡ x.receiver) × (x.word ≡ 2) × (x.sent ≡ answer) × (x.sent ≡ Some v)

  -- what holds between any two steps
  pub record HoldsOne (s : State (Left T W) (View T)) : Type 0 where
    pub inside : Inside T W
    -- the word, and what the places hold
    pub words : s.words ≡ inside.word ∷ []
    pub homes : s.homes ≡ inside.value_home ∷ inside.waker_home ∷ []
    -- no seat has the place of the waker while the receiver waits
    pub waits : inside.word ≡ 1 → IsHome inside.waker_home
    -- what each seat knows is true
    pub each_view : (seat : ℕ) (v : View T) → get_elem? s.views seat ≡ some v → Fits inside seat v

  -- what the sender knows once it is done, by what it held
  abbrev pub sent_from : List (ℕ × Left T W) → View T
  sent_from [] = Spent
  sent_from (x ∷ xs) = sent_view (value_of x.1)

  -- the sender is done: if the receiver is gone, the seat still has what it was to send; if the receiver waits, the
  -- seat has the place of the waker
  abbrev pub finished : Me (Left T W) (View T) → ℕ → Me (Left T W) (View T) → Type 0
  finished m found n = (found ≡ 3 → n ≡ (Spent, m.1))
      × (found ≡ 1 → (y : Left T W) × (n ≡ (sent_from m.1, (1, y) ∷ rest m.1)))
      × (found ≢ 3 → found ≢ 1 → n ≡ (sent_from m.1, rest m.1))

  -- the receiver has the place of the value, and has received what was sent
  abbrev pub opened : Me (Left T W) (View T) → Me (Left T W) (View T) → Type 0
  opened m n = (y : Left T W) × (n ≡ (Got (value_of y), (0, y) ∷ m.1))

  -- What a load of the word gives a seat, by what the seat knows. A sender takes the place of the value. A receiver
  -- that waits takes that place if the sender is done. A receiver with a receipt compares what it received with what
  -- the receipt says.
  abbrev pub looked : Me (Left T W) (View T) → ℕ → Me (Left T W) (View T) → Type 0
  looked (Sender, held) found n = (y : Left T W) × (n ≡ (Writing, (0, y) ∷ held))
  looked (Waiting, held) found n = (found ≡ 2 → opened (Waiting, held) n) × (found ≢ 2 → n ≡ (Waiting, held))
  looked (v, held) found n = compared_view v n.0 × (n.1 ≡ held)

  -- what the receiver knows and holds once it has put this number into the word: at 0 it has taken the place of the
  -- waker; at 1 it has given that place back, and waits; at any other it has taken that place, and is gone
  abbrev pub place_at : ℕ → List (ℕ × Left T W) → Me (Left T W) (View T) → Type 0
  place_at zero held n = (y : Left T W) × (n ≡ (Idle, (1, y) ∷ held))
  place_at (suc zero) held n = n ≡ (Waiting, rest held)
  place_at word held n = (y : Left T W) × (n ≡ (Spent, (1, y) ∷ held))

  -- the receiver changes the word from `before` to `after`, unless the sender is done
  abbrev pub turned : ℕ → ℕ → Me (Left T W) (View T) → ℕ → Me (Left T W) (View T) → Type 0
  turned before after m found n = (found ≡ before → place_at after m.1 n) × (found ≢ before → opened m n)

  -- the receiver has the place of the waker
  abbrev pub IsIdle : Me (Left T W) (View T) → Type 0
  IsIdle m = (y : Left T W) × (m ≡ (Idle, (1, y) ∷ []))

  -- the receiver has taken the place of the value, and knows the value in it as its answer
  abbrev pub HasOpened : Me (Left T W) (View T) → Type 0
  HasOpened m = (y : Left T W) × (more : List (ℕ × Left T W)) × (m ≡ (Got (value_of y), (0, y) ∷ more))

  -- the receiver has this answer, or waits
  abbrev pub PlaceAnswers : Option (Option T) → Me (Left T W) (View T) → Type 0
  PlaceAnswers answer m = MatchOption answer (m ≡ (Waiting, [])) (λ got. m.0 ≡ Got got)
