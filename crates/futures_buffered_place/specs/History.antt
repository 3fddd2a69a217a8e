-- What callers see of a seat of a place: the steps that it made.
use Rattle.std.specs.Prelude.{◌≡◌, ◌≢◌, ◌⊎◌, ℕ, zero, suc, Bool, true, false, List, [], ◌∷◌, ◌++◌, Option, Some, None, refl}
use mathlib.Core.Logic.{inl, inr}
use Rattle.std.specs.Coded.{Coded, code_by, coded×, coded⊎, coded_ℕ, coded_bool, coded_list}
use Rattle.atomic_table.specs.Seated.{TableId, table_id_coded}
use Rattle.futures_buffered_place.specs.declared.view.PlaceStep.{PlaceStep}
use Rattle.futures_buffered_place.specs.declared.view.Deed.{Deed}
use Rattle.futures_buffered_place.specs.declared.view.Deed.TheVariants.{Look, Win, WinFree, Lose, Put, Leave}
use Rattle.futures_buffered_place.specs.declared.place.Put.{Put as Answer}
use Rattle.futures_buffered_place.specs.declared.place.Put.TheVariants.{Kept, Busy}

-- which place it is
abbrev pub PlaceId : Type 0
PlaceId = TableId

abbrev pub place_id_code : Coded PlaceId
place_id_code = table_id_coded

-- the steps that a seat made at a place, in order
abbrev pub History : Type 0 → Type 0
History O = List (PlaceStep O)

-- a seat of this place that takes out
pub record Seated (O : Type 0) : Type 0 where
  pub place : PlaceId
  pub did : History O

-- a seat of this place that puts in, and whether it alone does
pub record Putter (O : Type 0) : Type 0 where
  pub place : PlaceId
  pub alone : Bool
  pub did : History O

module _ {O : Type 0} where
  -- a deed as a pair of numbers, or of a number and a value
  abbrev to_pair : Deed O → (ℕ × ℕ) ⊎ (ℕ × O)
  to_pair (Look n) = inl (0, n)
  to_pair (Win x) = inr (0, x)
  to_pair WinFree = inl (1, 0)
  to_pair (Lose n) = inl (2, n)
  to_pair (Put x) = inr (1, x)
  to_pair Leave = inl (3, 0)

  abbrev of_pair : (ℕ × ℕ) ⊎ (ℕ × O) → Deed O
  of_pair (inl (zero, n)) = Look n
  of_pair (inl (suc zero, n)) = WinFree
  of_pair (inl (suc (suc zero), n)) = Lose n
  of_pair (inl (suc (suc (suc k)), n)) = Leave
  of_pair (inr (zero, x)) = Win x
  of_pair (inr (suc k, x)) = Put x

  pub pair_back : (d : Deed O) → of_pair (to_pair d) ≡ d
  pair_back (Look n) = refl
  pair_back (Win x) = refl
  pair_back WinFree = refl
  pair_back (Lose n) = refl
  pair_back (Put x) = refl
  pair_back Leave = refl

abbrev pub deed_code : {O : Type 0} → Coded O → Coded (Deed O)
deed_code {O} code = code_by ((ℕ × ℕ) ⊎ (ℕ × O)) (coded⊎ (coded× coded_ℕ coded_ℕ) (coded× coded_ℕ code)) to_pair of_pair pair_back

abbrev pub step_code : {O : Type 0} → Coded O → Coded (PlaceStep O)
step_code {O} code = code_by (ℕ × Deed O) (coded× coded_ℕ (deed_code code))
    (λ s. (s.after, s.deed)) (λ p. record { after = p.0; deed = p.1 }) (λ _. refl)

abbrev pub history_code : {O : Type 0} → Coded O → Coded (History O)
history_code code = coded_list (step_code code)

abbrev pub seated_code : {O : Type 0} → Coded O → Coded (Seated O)
seated_code {O} code = code_by (PlaceId × History O) (coded× place_id_code (history_code code))
    (λ s. (s.place, s.did)) (λ p. record { place = p.0; did = p.1 }) (λ _. refl)

abbrev pub putter_code : {O : Type 0} → Coded O → Coded (Putter O)
putter_code {O} code = code_by (PlaceId × (Bool × History O)) (coded× place_id_code (coded× coded_bool (history_code code)))
    (λ s. (s.place, (s.alone, s.did))) (λ p. record { place = p.0; alone = p.1.0; did = p.1.1 }) (λ _. refl)

module _ {O : Type 0} where
  abbrev pub seated : PlaceId → History O → Seated O
  seated place did = record { place = place; did = did }

  abbrev pub putter : PlaceId → Bool → History O → Putter O
  putter place alone did = record { place = place; alone = alone; did = did }

  abbrev pub no_history : History O
  no_history = []

  -- one step after these; its caller shows how many steps it has made elsewhere by now
  abbrev pub then_did : ℕ → History O → Deed O → History O
  then_did made did deed = did ++ record { after = made; deed = deed } ∷ []

  -- the steps of one call after these
  abbrev pub after_deeds : ℕ → History O → List (Deed O) → History O
  after_deeds made did [] = did
  after_deeds made did (deed ∷ deeds) = after_deeds made (then_did made did deed) deeds

  -- A call takes nothing: it reads that none is kept or that another seat is there, or it loses what is kept.
  abbrev pub IsMissed : List (Deed O) → Type 0
  IsMissed shape = (n : ℕ) × (n ≢ 1) × ((shape ≡ Look n ∷ []) ⊎ (shape ≡ Look 1 ∷ Lose n ∷ []))

  -- the steps of a call that takes this out, or nothing
  abbrev pub IsTakeOut : List (Deed O) → Option O → Type 0
  IsTakeOut shape (Some x) = shape ≡ Look 1 ∷ Win x ∷ Leave ∷ []
  IsTakeOut shape None = IsMissed shape

  -- A call meets another: it reads that another seat is there, or it loses the place. Only a seat that does not stand
  -- alone can lose a place that keeps nothing.
  abbrev pub IsMet : Bool → List (Deed O) → Type 0
  IsMet alone shape = (n : ℕ) × (((n ≢ 0) × (n ≢ 1) × (shape ≡ Look n ∷ []))
      ⊎ (((n ≢ 1) × (shape ≡ Look 1 ∷ Lose n ∷ []))
      ⊎ ((alone ≡ false) × (n ≢ 0) × (shape ≡ Look 0 ∷ Lose n ∷ []))))

  -- a call puts x in while none is kept: a seat that stands alone does so without a win
  abbrev pub IsFilled : Bool → O → List (Deed O) → Type 0
  IsFilled true x shape = shape ≡ Look 0 ∷ Put x ∷ []
  IsFilled false x shape = shape ≡ Look 0 ∷ WinFree ∷ Put x ∷ []

  -- the steps of a call that puts x in, in place of what was kept; or of one that meets another and returns x
  abbrev pub IsPutIn : Bool → O → List (Deed O) → Answer O → Type 0
  IsPutIn alone x shape (Kept None) = IsFilled alone x shape
  IsPutIn alone x shape (Kept (Some y)) = shape ≡ Look 1 ∷ Win y ∷ Put x ∷ []
  IsPutIn alone x shape (Busy same) = (same ≡ x) × IsMet alone shape

  -- a call adds the steps of one taking out
  abbrev pub TakesOut : ℕ → History O → Option O → History O → Type 0
  TakesOut made old outer new = (shape : List (Deed O)) × IsTakeOut shape outer × (new ≡ after_deeds made old shape)

  -- a call adds the steps of one putting in
  abbrev pub PutsIn : ℕ → Bool → O → History O → Answer O → History O → Type 0
  PutsIn made alone x old answer new = (shape : List (Deed O)) × IsPutIn alone x shape answer × (new ≡ after_deeds made old shape)
