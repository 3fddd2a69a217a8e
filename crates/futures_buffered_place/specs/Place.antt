-- The rule of a place, and what each step tells.
use Rattle.std.specs.Prelude.{◌≡◌, ◌≢◌, ℕ, zero, suc, ◌+◌, ◌<◌, ◌≤◌, Bool, List, [], ◌∷◌, Option, Some, None}
use mathlib.Core.Option as maybe
use mathlib.Core.Option.{some, none}
use lib.ListN.{get_elem?}
use Rattle.atomic_table.specs.Table.{State, Me}
use Rattle.atomic_table.specs.Seated.{TableId}
use Rattle.atomic_table.specs.declared.shared.Seat.{Seat}
use Rattle.futures_buffered_place.specs.declared.view.Right.{Right}
use Rattle.futures_buffered_place.specs.declared.view.Right.TheVariants.{Alone, Beside, Wakes}
use Rattle.futures_buffered_place.specs.declared.view.Hand.{Hand}
use Rattle.futures_buffered_place.specs.declared.view.Hand.TheVariants.{Nothing, Filling, Taken}
use Rattle.futures_buffered_place.specs.declared.view.View.{View}
use Rattle.futures_buffered_place.specs.declared.view.PlaceStep.{PlaceStep}
use Rattle.futures_buffered_place.specs.declared.view.Deed.{Deed}
use Rattle.futures_buffered_place.specs.declared.view.Deed.TheVariants.{Look, Win, WinFree, Lose, Put, Leave}
use Rattle.futures_buffered_place.specs.declared.place.Put.{Put as Answer}
use Rattle.futures_buffered_place.specs.History.{then_did, after_deeds, IsPutIn, IsTakeOut}

-- the sum of f over xs
abbrev pub total : {X : Type 0} → (X → ℕ) → List X → ℕ
total f [] = 0
total f (x ∷ xs) = f x + total f xs

-- the place has one word and one slot
abbrev pub IsSized : TableId → Type 0
IsSized table = (table.words ≡ 1) × (table.slots ≡ 1)

abbrev pub alone_by : Right → ℕ
alone_by Alone = 1
alone_by _ = 0

abbrev pub beside_by : Right → ℕ
beside_by Beside = 1
beside_by _ = 0

abbrev pub filling_by : Hand → ℕ
filling_by Filling = 1
filling_by _ = 0

abbrev pub taken_by : Hand → ℕ
taken_by Taken = 1
taken_by _ = 0

-- what the place is between two steps: it keeps nothing; the only poller has the slot, and the word does not say so;
-- it keeps a value; a seat has the slot, and the word says so
pub data Stage (O : Type 0) : Type 0 where
  vacant : Stage O
  filling : Stage O
  kept : O → Stage O
  lent : Stage O

module _ {O : Type 0} where
  abbrev pub word_of : Stage O → ℕ
  word_of vacant = 0
  word_of filling = 0
  word_of (kept x) = 1
  word_of lent = 3

  abbrev pub home_of : Stage O → maybe.Option (Option O)
  home_of vacant = some None
  home_of filling = none
  home_of (kept x) = some (Some x)
  home_of lent = none

  abbrev pub filling_count : Stage O → ℕ
  filling_count filling = 1
  filling_count _ = 0

  abbrev pub lent_count : Stage O → ℕ
  lent_count lent = 1
  lent_count _ = 0

  abbrev pub kept_weight : (O → ℕ) → Stage O → ℕ
  kept_weight weight (kept x) = weight x
  kept_weight weight _ = 0

  -- the weight of what a step put in, and of what it took out
  abbrev pub put_by : (O → ℕ) → Deed O → ℕ
  put_by weight (Put x) = weight x
  put_by weight _ = 0

  abbrev pub won_by : (O → ℕ) → Deed O → ℕ
  won_by weight (Win x) = weight x
  won_by weight _ = 0

  -- so of all steps of a seat
  abbrev pub put_weight : (O → ℕ) → View O → ℕ
  put_weight weight v = total (λ (s : PlaceStep O). put_by weight s.deed) v.steps

  abbrev pub taken_weight : (O → ℕ) → View O → ℕ
  taken_weight weight v = total (λ (s : PlaceStep O). won_by weight s.deed) v.steps

  -- how the place and what all seats know keep themselves
  pub record KeepsPlace (stage : Stage O) (views : List (View O)) : Type 0 where
    -- at most one seat is the only poller, and then no poller is beside it
    pub one_alone : total (λ (v : View O). alone_by v.right) views ≤ 1
    pub none_beside : 0 < total (λ (v : View O). alone_by v.right) views
        → total (λ (v : View O). beside_by v.right) views ≡ 0
    -- no other seat has the slot unseen
    pub by_alone : (j : ℕ) (v : View O) → get_elem? views j ≡ some v → filling_by v.hand ≤ alone_by v.right
    -- a seat has the slot exactly if the stage says so
    pub filled : total (λ (v : View O). filling_by v.hand) views ≡ filling_count stage
    pub lends : total (λ (v : View O). taken_by v.hand) views ≡ lent_count stage
    -- what was put in is what was taken out and what is kept, however the values are weighed
    pub balanced : (weight : O → ℕ) →
        total (put_weight weight) views ≡ total (taken_weight weight) views + kept_weight weight stage

  abbrev pub laid : Stage O → List (View O) → State (Option O) (View O)
  laid stage views = record { words = word_of stage ∷ []; homes = home_of stage ∷ []; views = views }

  abbrev pub HoldsPlace : State (Option O) (View O) → Type 0
  HoldsPlace s = (stage : Stage O) × (s.words ≡ word_of stage ∷ []) × (s.homes ≡ home_of stage ∷ [])
      × KeepsPlace stage s.views

  -- a poller that stands alone, and did nothing yet
  abbrev pub first_poller : View O
  first_poller = record { right = Alone; hand = Nothing; steps = [] }

  -- the next view of the seat, after this step: what it has in hand then
  abbrev pub does : ℕ → View O → Hand → Deed O → View O
  does made v hand deed = record { right = v.right; hand = hand; steps = then_did made v.steps deed }

  -- its view after these steps, with nothing in hand
  abbrev pub done : ℕ → View O → List (Deed O) → View O
  done made v deeds = record { right = v.right; hand = Nothing; steps = after_deeds made v.steps deeds }

  -- it has read the word
  abbrev pub looks : ℕ → View O → ℕ → View O
  looks made v found = does made v v.hand (Look found)

  -- the only poller after it has read the word
  abbrev pub alone_looks : ℕ → View O → ℕ → Me (Option O) (View O)
  alone_looks made v zero = (does made v Filling (Look 0), (0, None) ∷ [])
  alone_looks made v (suc n) = (looks made v (suc n), [])

  -- a seat that went for what is kept has it, or has lost it to another
  abbrev pub TellsTaking : ℕ → View O → ℕ → Me (Option O) (View O) → Type 0
  TellsTaking made v zero after = after ≡ (does made v v.hand (Lose 0), [])
  TellsTaking made v (suc zero) after = (x : O) × (after ≡ (does made v Taken (Win x), (0, Some x) ∷ []))
  TellsTaking made v (suc (suc n)) after = after ≡ (does made v v.hand (Lose (suc (suc n))), [])

  -- it leaves this value, or nothing
  abbrev pub puts_next : ℕ → View O → O → View O
  puts_next made v x = does made v Nothing (Put x)

  abbrev pub leaves_next : ℕ → View O → View O
  leaves_next made v = does made v Nothing Leave

  abbrev pub after_put : ℕ → Me (Option O) (View O) → Me (Option O) (View O)
  after_put made (v, []) = (v, [])
  after_put made (v, (k, None) ∷ rest) = (v, [])
  after_put made (v, (k, Some x) ∷ rest) = (puts_next made v x, [])

  -- a poller beside others after it went for the slot while none is kept
  abbrev pub free_taken : ℕ → View O → ℕ → Me (Option O) (View O)
  free_taken made v zero = (does made v Taken WinFree, (0, None) ∷ [])
  free_taken made v (suc n) = (does made v v.hand (Lose (suc n)), [])

  -- a seat that is made to take out
  abbrev pub new_taker : View O
  new_taker = record first_poller { right = Wakes }

  -- a poller that gets another beside it, and that other
  abbrev pub beside_of : View O → View O
  beside_of v = record v { right = Beside }

  abbrev pub new_beside : View O
  new_beside = beside_of first_poller

  -- the seat is one of this place and has no slot of it
  abbrev pub Rests : TableId → Seat (Option O) (View O) → Type 0
  Rests table seat = (seat.table_id ≡ table) × (seat.me.0.hand ≡ Nothing) × (seat.me.1 ≡ [])

  abbrev pub RestsAs : Right → TableId → Seat (Option O) (View O) → Type 0
  RestsAs right table seat = Rests table seat × (seat.me.0.right ≡ right)

  -- it has the slot
  abbrev pub HasSlot : TableId → Seat (Option O) (View O) → Type 0
  HasSlot table seat = (seat.table_id ≡ table) × ((before : Option O) × (seat.me.1 ≡ (0, before) ∷ []))
      × (seat.me.0.hand ≢ Nothing)

  -- the same seat, with this view and these slots
  abbrev pub Goes : Seat (Option O) (View O) → Me (Option O) (View O) → Seat (Option O) (View O) → Type 0
  Goes old me new = (new.table_id ≡ old.table_id) × (new.me ≡ me)

  -- if it was not put in, the value is returned
  abbrev pub PutsBy : Bool → ℕ → O → View O → Answer O → View O → Type 0
  PutsBy alone made x v answer w = (shape : List (Deed O)) × IsPutIn alone x shape answer × (w ≡ done made v shape)

  -- a seat has taken the value out; or missed it
  abbrev pub TakesBy : ℕ → View O → Option O → View O → Type 0
  TakesBy made v outer w = (shape : List (Deed O)) × IsTakeOut shape outer × (w ≡ done made v shape)

  -- the weight of what is kept
  abbrev pub kept_at_home : (O → ℕ) → List (maybe.Option (Option O)) → ℕ
  kept_at_home weight [] = 0
  kept_at_home weight (none ∷ homes) = kept_at_home weight homes
  kept_at_home weight (some None ∷ homes) = kept_at_home weight homes
  kept_at_home weight (some (Some x) ∷ homes) = weight x + kept_at_home weight homes

-- in every state that the rule allows, what was put in, of all seats together, is what was taken out and what is kept,
-- however the values are weighed
abbrev pub RuleLosesNone : Type 0 → Type 0
RuleLosesNone O = (s : State (Option O) (View O)) → HoldsPlace s → (weight : O → ℕ) →
    total (put_weight weight) s.views ≡ total (taken_weight weight) s.views + kept_at_home weight s.homes
