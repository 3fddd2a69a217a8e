-- Each step on a place keeps its rule.
use Rattle.futures_buffered_place.proofs.Common.{◌≡◌, ◌≢◌, ℕ, zero, suc, ◌+◌, ◌<◌, ◌≤◌, List, [], ◌∷◌, ◌++◌, set, get_or, Bool, true, false, refl, sym, ap, ◌∙◌, subst, ⊎_elim, arith, Option, Some, None, eqb, State, Me, Act, keeps, takes, gives, rest, Splits, Enters, Allows, Valid, stepped, carried_after, Nothing, Filling, Taken, View, Look, Win, WinFree, Lose, Put, Leave, total, alone_by, beside_by, filling_by, taken_by, Stage, word_of, home_of, filling_count, lent_count, kept_weight, KeepsPlace, laid, HoldsPlace, put_by, won_by, put_weight, taken_weight, does, looks, leaves_next, alone_looks, TellsTaking, after_put, free_taken, beside_of, new_beside, new_taker, kept_at_home, RuleLosesNone, vacant, filling, kept, lent}
use mathlib.Core.Option.{some, some-injective, some-ne-none}
use lib.ListN.{get_elem?}
use prog.Atomic.{either}
use Rattle.atomic_table.proofs.Lists.{at_set, at_snoc}
use Rattle.futures_buffered_place.specs.declared.view.Right.TheVariants.{Alone, Beside}
use Rattle.futures_buffered_place.specs.declared.view.Hand.{Hand}
use Rattle.futures_buffered_place.specs.declared.view.PlaceStep.{PlaceStep}
use Rattle.futures_buffered_place.specs.declared.view.Deed.{Deed}
use Rattle.futures_buffered_place.specs.PlaceInvariant.{right_of}

pub total-append : {X : Type 0} (f : X → ℕ) (xs ys : List X) → total f (xs ++ ys) ≡ total f xs + total f ys
total-append f [] ys = omega arith
total-append f (x ∷ xs) ys = omega (arith, total-append f xs ys)

pub total_set : {X : Type 0} (f : X → ℕ) (xs : List X) (i : ℕ) (v w : X) → get_elem? xs i ≡ some v →
    total f (set xs i w) + f v ≡ total f xs + f w
total_set f [] i v w e = absurd (some-ne-none v (sym e))
total_set f (x ∷ xs) zero v w e = let s : f x ≡ f v = ap f (some-injective x v e) in omega arith
total_set f (x ∷ xs) (suc i) v w e = omega (arith, total_set f xs i v w e)

pub total_at : {X : Type 0} (f : X → ℕ) (xs : List X) (i : ℕ) (v : X) → get_elem? xs i ≡ some v → f v ≤ total f xs
total_at f [] i v e = absurd (some-ne-none v (sym e))
total_at f (x ∷ xs) zero v e = let s : f x ≡ f v = ap f (some-injective x v e) in omega arith
total_at f (x ∷ xs) (suc i) v e = omega (arith, total_at f xs i v e)

-- a sum is below another where each of its terms is
pub total_below : {X : Type 0} (f g : X → ℕ) (xs : List X) → ((i : ℕ) (v : X) → get_elem? xs i ≡ some v → f v ≤ g v) → total f xs ≤ total g xs
total_below f g [] h = omega arith
total_below f g (x ∷ xs) h = let a = h 0 x refl in omega (arith, total_below f g xs (λ i v e. h (suc i) v e))

module _ {O : Type 0} where
  fits_set : (views : List (View O)) (id : ℕ) (w : View O) → ((j : ℕ) (v : View O) → get_elem? views j ≡ some v → filling_by v.hand ≤ alone_by v.right)
      → filling_by w.hand ≤ alone_by w.right → (j : ℕ) (v : View O) → get_elem? (set views id w) j ≡ some v → filling_by v.hand ≤ alone_by v.right
  fits_set views id w all mine j v e = ⊎_elim (λ (t : (j ≡ id) × (w ≡ v)). subst (λ (y : View O). filling_by y.hand ≤ alone_by y.right) t.1 mine)
      (λ (t : (j ≢ id) × (get_elem? views j ≡ some v)). all j v t.1) (at_set views id j w v e)

  -- one seat's step takes the place from one stage to another
  pub moved : (g g' : Stage O) (views : List (View O)) (id : ℕ) (v w : View O) → KeepsPlace g views → get_elem? views id ≡ some v → w.right ≡ v.right
      → filling_by w.hand ≤ alone_by w.right
      → filling_by w.hand + filling_count g ≡ filling_by v.hand + filling_count g'
      → taken_by w.hand + lent_count g ≡ taken_by v.hand + lent_count g'
      → ((weight : O → ℕ) → put_weight weight w + taken_weight weight v + kept_weight weight g ≡ put_weight weight v + taken_weight weight w + kept_weight weight g')
      → KeepsPlace g' (set views id w)
  moved g g' views id v w K at right fit fill lend weigh =
      let alone : alone_by w.right ≡ alone_by v.right = ap alone_by right in
      let beside : beside_by w.right ≡ beside_by v.right = ap beside_by right in
      record {
        one_alone = let a = total_set (λ (u : View O). alone_by u.right) views id v w at in let b = K.one_alone in omega arith;
        none_beside = λ some_alone. let a = total_set (λ (u : View O). alone_by u.right) views id v w at in
            let b = total_set (λ (u : View O). beside_by u.right) views id v w at in
            let c = K.none_beside (omega arith) in omega arith;
        by_alone = fits_set views id w K.by_alone fit;
        filled = let a = total_set (λ (u : View O). filling_by u.hand) views id v w at in let b = K.filled in omega arith;
        lends = let a = total_set (λ (u : View O). taken_by u.hand) views id v w at in let b = K.lends in omega arith;
        balanced = λ weight. let a = total_set (put_weight weight) views id v w at in
            let b = total_set (taken_weight weight) views id v w at in
            let c = K.balanced weight in let d = weigh weight in omega arith;
      }

  -- a step more: what it weighs
  pub put_more : (weight : O → ℕ) (made : ℕ) (v : View O) (hand : Hand) (deed : Deed O) → put_weight weight (does made v hand deed) ≡ put_weight weight v + put_by weight deed
  put_more weight made v hand deed =
      let a = total-append (λ (s : PlaceStep O). put_by weight s.deed) v.steps (record { after = made; deed = deed } ∷ []) in omega arith

  pub taken_more : (weight : O → ℕ) (made : ℕ) (v : View O) (hand : Hand) (deed : Deed O) → taken_weight weight (does made v hand deed) ≡ taken_weight weight v + won_by weight deed
  taken_more weight made v hand deed =
      let a = total-append (λ (s : PlaceStep O). won_by weight s.deed) v.steps (record { after = made; deed = deed } ∷ []) in omega arith

  -- one step of a seat takes the place from one stage to another
  pub moved_by : (g g' : Stage O) (views : List (View O)) (id : ℕ) (v : View O) (made : ℕ) (hand : Hand) (deed : Deed O) → KeepsPlace g views → get_elem? views id ≡ some v
      → filling_by hand ≤ alone_by v.right
      → filling_by hand + filling_count g ≡ filling_by v.hand + filling_count g'
      → taken_by hand + lent_count g ≡ taken_by v.hand + lent_count g'
      → ((weight : O → ℕ) → put_by weight deed + kept_weight weight g ≡ won_by weight deed + kept_weight weight g')
      → KeepsPlace g' (set views id (does made v hand deed))
  moved_by g g' views id v made hand deed K at fit fill lend weigh =
      moved g g' views id v (does made v hand deed) K at refl fit fill lend
      (λ weight. let a = put_more weight made v hand deed in let b = taken_more weight made v hand deed in let c = weigh weight in omega arith)

  -- while the only poller has no slot, nobody has it under a word that says that none is kept
  pub only_alone : (views : List (View O)) (id : ℕ) (v : View O) → KeepsPlace filling views → get_elem? views id ≡ some v → v.right ≡ Alone → v.hand ≡ Nothing → ⊥
  only_alone views id v K at right hand =
      let w = does 0 v Filling (Look 0) in
      let one : alone_by v.right ≡ 1 = ap alone_by right in
      let none_filled : filling_by v.hand ≡ 0 = ap filling_by hand in
      let below = total_below (λ (u : View O). filling_by u.hand) (λ (u : View O). alone_by u.right) (set views id w) (fits_set views id w K.by_alone (omega arith)) in
      let a = total_set (λ (u : View O). filling_by u.hand) views id v w at in
      let b = total_set (λ (u : View O). alone_by u.right) views id v w at in
      let c = K.filled in let d = K.one_alone in omega arith

  -- the steps of one seat
  module _ (slots id made : ℕ) (me : Me (Option O) (View O)) where
    -- what a step owes of a state, by a seat that has these slots
    abbrev Goes : List (ℕ × Option O) → (ℕ → ℕ) → (ℕ → Me (Option O) (View O) → Type 0) → State (Option O) (View O) → Type 0
    Goes out f then s = (w : View O) × (a : Act (Option O)) × Valid s.homes out a × HoldsPlace (stepped s 0 (f (get_or s.words 0 0)) id out w a)
        × then (get_or s.words 0 0) (w, carried_after out a)

    abbrev GoesEach : List (ℕ × Option O) → (ℕ → ℕ) → (ℕ → Me (Option O) (View O) → Type 0) → Type 0
    GoesEach out f then = (g : Stage O) (views : List (View O)) → KeepsPlace g views → get_elem? views id ≡ some me.0 → Goes out f then (laid g views)

    -- it is enough that it does so of each stage
    by_stage : (out : List (ℕ × Option O)) (f : ℕ → ℕ) (then : ℕ → Me (Option O) (View O) → Type 0) → me.1 ≡ out → GoesEach out f then
        → Allows HoldsPlace slots id me 0 f then
    by_stage out f then is each s held len at fits = subst (λ (x : State (Option O) (View O) × List (ℕ × Option O)). Goes x.1 f then x.0)
        (λ k. (record { words = sym held.1 k; homes = sym held.2 k; views = s.views }, sym is k)) (each held.0 s.views held.3 at)

    module _ (hand : me.0.hand ≡ Nothing) (at_home : me.1 ≡ []) where
      -- a step that changes neither the stage nor what the seat has
      stays : (f : ℕ → ℕ) (then : ℕ → Me (Option O) (View O) → Type 0) (g : Stage O) (views : List (View O)) (deed : Deed O) → KeepsPlace g views
          → get_elem? views id ≡ some me.0 → ((weight : O → ℕ) → put_by weight deed ≡ won_by weight deed) → f (word_of g) ≡ word_of g
          → then (word_of g) (does made me.0 me.0.hand deed, []) → Goes [] f then (laid g views)
      stays f then g views deed K at light as_was told = (
        does made me.0 me.0.hand deed,
        keeps,
        tt,
        (
          g,
          ap (λ (n : ℕ). n ∷ []) as_was,
          refl,
          moved_by g g views id me.0 made me.0.hand deed K at (grind arith) refl refl
              (λ weight. let a = light weight in omega arith),
        ),
        told,
      )

      pub looks_alone : me.0.right ≡ Alone → Allows HoldsPlace slots id me 0 (λ n. n) (λ found after. after ≡ alone_looks made me.0 found)
      looks_alone right = by_stage [] (λ n. n) (λ found after. after ≡ alone_looks made me.0 found) at_home each
        where
          each : GoesEach [] (λ n. n) (λ found after. after ≡ alone_looks made me.0 found)
          each vacant views K at = let now = moved_by vacant filling views id me.0 made Filling (Look 0) K at (grind arith) (grind arith) (grind arith)
              (λ weight. refl) in (does made me.0 Filling (Look 0), takes 0 None, refl, (filling, refl, refl, now), refl)
          each filling views K at = absurd (only_alone views id me.0 K at right hand)
          each (kept x) views K at = stays (λ n. n) (λ found after. after ≡ alone_looks made me.0 found) (kept x) views (Look 1) K at (λ weight. refl) refl refl
          each lent views K at = stays (λ n. n) (λ found after. after ≡ alone_looks made me.0 found) lent views (Look 3) K at (λ weight. refl) refl refl

      pub looks_on : Allows HoldsPlace slots id me 0 (λ n. n) (λ found after. after ≡ (looks made me.0 found, []))
      looks_on = by_stage [] (λ n. n) (λ found after. after ≡ (looks made me.0 found, [])) at_home each
        where
          each : GoesEach [] (λ n. n) (λ found after. after ≡ (looks made me.0 found, []))
          each g views K at = stays (λ n. n) (λ found after. after ≡ (looks made me.0 found, [])) g views (Look (word_of g)) K at (λ weight. refl) refl refl

      pub goes_for_it : Allows HoldsPlace slots id me 0 (λ n. either (eqb n 1) 3 n) (TellsTaking made me.0)
      goes_for_it = by_stage [] (λ n. either (eqb n 1) 3 n) (TellsTaking made me.0) at_home each
        where
          each : GoesEach [] (λ n. either (eqb n 1) 3 n) (TellsTaking made me.0)
          each (kept x) views K at = let now = moved_by (kept x) lent views id me.0 made Taken (Win x) K at (grind arith) (grind arith) (grind arith)
              (λ weight. omega arith) in (does made me.0 Taken (Win x), takes 0 (Some x), refl, (lent, refl, refl, now), (x, refl))
          each vacant views K at = stays (λ n. either (eqb n 1) 3 n) (TellsTaking made me.0) vacant views (Lose 0) K at (λ weight. refl) refl refl
          each filling views K at = stays (λ n. either (eqb n 1) 3 n) (TellsTaking made me.0) filling views (Lose 0) K at (λ weight. refl) refl refl
          each lent views K at = stays (λ n. either (eqb n 1) 3 n) (TellsTaking made me.0) lent views (Lose 3) K at (λ weight. refl) refl refl

      -- beside others, nobody has the slot under a word that says that none is kept
      pub takes_free : me.0.right ≡ Beside → Allows HoldsPlace slots id me 0 (λ n. either (eqb n 0) 3 n) (λ found after. after ≡ free_taken made me.0 found)
      takes_free right = by_stage [] (λ n. either (eqb n 0) 3 n) (λ found after. after ≡ free_taken made me.0 found) at_home each
        where
          each : GoesEach [] (λ n. either (eqb n 0) 3 n) (λ found after. after ≡ free_taken made me.0 found)
          each vacant views K at = let now = moved_by vacant lent views id me.0 made Taken WinFree K at (grind arith) (grind arith) (grind arith)
              (λ weight. refl) in (does made me.0 Taken WinFree, takes 0 None, refl, (lent, refl, refl, now), refl)
          each filling views K at = absurd (
              let below = total_below (λ (u : View O). filling_by u.hand) (λ (u : View O). alone_by u.right) views K.by_alone in
              let some_beside = total_at (λ (u : View O). beside_by u.right) views id me.0 at in let one : beside_by me.0.right ≡ 1 = ap beside_by right in
              let a = K.filled in let none = K.none_beside (omega arith) in omega arith)
          each (kept x) views K at = stays (λ n. either (eqb n 0) 3 n) (λ found after. after ≡ free_taken made me.0 found) (kept x) views (Lose 1) K at (λ weight. refl) refl refl
          each lent views K at = stays (λ n. either (eqb n 0) 3 n) (λ found after. after ≡ free_taken made me.0 found) lent views (Lose 3) K at (λ weight. refl) refl refl

    -- a seat that has the slot has it while the only poller fills it, or while the word says that a seat has it
    module _ (some_hand : me.0.hand ≢ Nothing) where
      has_it : (g : Stage O) (views : List (View O)) → KeepsPlace g views → get_elem? views id ≡ some me.0
          → (filling_by me.0.hand ≡ filling_count g) × (taken_by me.0.hand ≡ lent_count g) × ((weight : O → ℕ) → kept_weight weight g ≡ 0)
      has_it g views K at = grind (arith, total_at)

      -- it lays the slot down, with x in it
      lays : (g : Stage O) (x : Option O) (deed : Deed O) (then : Me (Option O) (View O) → Type 0) → me.1 ≡ (0, x) ∷ [] → home_of g ≡ some x
          → filling_count g ≡ 0 → lent_count g ≡ 0 → ((weight : O → ℕ) → put_by weight deed ≡ won_by weight deed + kept_weight weight g)
          → then (does made me.0 Nothing deed, []) → Allows HoldsPlace slots id me 0 (λ _. word_of g) (λ _. then)
      lays g x deed then out home none_filled none_taken weigh told = by_stage ((0, x) ∷ []) (λ _. word_of g) (λ _. then) out
          (λ old views K at. let had = has_it old views K at in let now = moved_by old g views id me.0 made Nothing deed K at (grind arith) (grind arith) (grind arith)
          (λ weight. let a = weigh weight in let b = had.2 weight in omega arith) in let empty : home_of g ∷ [] ≡ some x ∷ [] = ap (λ h. h ∷ []) home in
          (does made me.0 Nothing deed, gives, tt, (g, refl, sym empty, now), told))

      pub puts : (x : O) → me.1 ≡ (0, Some x) ∷ [] → Allows HoldsPlace slots id me 0 (λ _. 1) (λ _ after. after ≡ after_put made me)
      puts x out = lays (kept x) (Some x) (Put x) (λ after. after ≡ after_put made me) out refl refl refl
          (λ weight. omega arith) (λ k. after_put made (me.0, sym out k))

      pub leaves : me.1 ≡ (0, None) ∷ [] → Allows HoldsPlace slots id me 0 (λ _. 0) (λ _ after. after ≡ (leaves_next made me.0, []))
      leaves out = lays vacant None Leave (λ after. after ≡ (leaves_next made me.0, [])) out refl refl refl (λ weight. refl) refl

  -- what the seat holds after a plain write of its slot
  pub written : (old new : Me (Option O) (View O)) (y z : Option O) → old.1 ≡ (0, y) ∷ [] → new ≡ (old.0, (0, z) ∷ rest old.1) → new ≡ (old.0, (0, z) ∷ [])
  written old new y z out is = is ∙ ap (λ (l : List (ℕ × Option O)). (old.0, (0, z) ∷ rest l)) out

  -- a seat that won what is kept has the slot
  pub won : (made : ℕ) (v : View O) (found : ℕ) (after : Me (Option O) (View O)) → TellsTaking made v found after → found ≡ 1
      → (x : O) × (after ≡ (does made v Taken (Win x), (0, Some x) ∷ []))
  won made v found after told is = subst (λ (n : ℕ). TellsTaking made v n after) is told

  pub won_slot : (made : ℕ) (v : View O) (found : ℕ) (after : Me (Option O) (View O)) → TellsTaking made v found after → found ≡ 1
      → ((before : Option O) × (after.1 ≡ (0, before) ∷ [])) × (after.0.hand ≢ Nothing)
  won_slot made v found after told is = let t = won made v found after told is in
      ((Some t.0, ap (λ (m : Me (Option O) (View O)). m.1) t.1), λ none. taken_not (sym (ap (λ (m : Me (Option O) (View O)). m.0.hand) t.1) ∙ none))
    where
      taken_not : Taken ≡ Nothing → ⊥
      taken_not is = cc

  -- a new seat that has no slot, has done nothing and does not stand alone
  module _ (w : View O) (taker : w.right ≢ Alone) (hand : w.hand ≡ Nothing) (light : (weight : O → ℕ) → (put_weight weight w ≡ 0) × (taken_weight weight w ≡ 0)) where
    pub joined : (g : Stage O) (views : List (View O)) → KeepsPlace g views
        → (0 < total (λ (v : View O). alone_by v.right) views → beside_by w.right ≡ 0) → KeepsPlace g (views ++ w ∷ [])
    joined g views K apart = grind (arith, total-append, at_snoc, light)

  -- a seat comes with a look at the word, to take out
  pub comes : (slots made : ℕ) → Enters (HoldsPlace {O = O}) slots 0 (λ found w. ◌≡◌ {A = Me (Option O) (View O)} (w, []) (looks made new_taker found, []))
  comes slots made s held len fits =
      subst (λ (t : State (Option O) (View O)). (w : View O) × HoldsPlace record { words = t.words; homes = t.homes; views = t.views ++ w ∷ [] }
      × ◌≡◌ {A = Me (Option O) (View O)} (w, []) (looks made new_taker (get_or t.words 0 0), [])) (λ k. record { words = sym held.1 k; homes = sym held.2 k; views = s.views }) (each held.0 s.views held.3)
    where
      each : (g : Stage O) (views : List (View O)) → KeepsPlace g views → (w : View O)
          × HoldsPlace record { words = word_of g ∷ []; homes = home_of g ∷ []; views = views ++ w ∷ [] } × ◌≡◌ {A = Me (Option O) (View O)} (w, []) (looks made new_taker (word_of g), [])
      each g views K = let w = looks made new_taker (word_of g) in let now = joined w (λ e. absurd cc) refl (λ weight. (refl, refl)) g views K (λ _. refl) in
          (w, (g, refl, refl, now), refl)

  -- a poller gets another beside it
  pub splits : (id : ℕ) (v : View O) (alone : Bool) → v.right ≡ right_of alone → v.hand ≡ Nothing → Splits HoldsPlace id v (beside_of v) new_beside
  splits id v alone right hand s held at =
      let K = held.3 in
      let views : List (View O) = set s.views id (beside_of v) in
      let none_filled : filling_by v.hand ≡ 0 = ap filling_by hand in
      let sums = total_set (λ (u : View O). alone_by u.right) s.views id v (beside_of v) at in
      let none_alone : total (λ (u : View O). alone_by u.right) views ≡ 0 = none_left alone right in
      let kept_on : KeepsPlace held.0 views = record {
        one_alone = omega arith;
        none_beside = λ some_alone. absurd (omega arith);
        by_alone = fits_set s.views id (beside_of v) K.by_alone (omega arith);
        filled = let a = total_set (λ (u : View O). filling_by u.hand) s.views id v (beside_of v) at in let b = K.filled in omega arith;
        lends = let a = total_set (λ (u : View O). taken_by u.hand) s.views id v (beside_of v) at in let b = K.lends in omega arith;
        balanced = λ weight. let a = total_set (put_weight weight) s.views id v (beside_of v) at in
            let b = total_set (taken_weight weight) s.views id v (beside_of v) at in let c = K.balanced weight in omega arith;
      } in
      (held.0, held.1, held.2, joined new_beside (λ e. absurd cc) refl (λ weight. (refl, refl)) held.0 views kept_on (λ some_alone. absurd (omega arith)))
    where
      none_left : (b : Bool) → v.right ≡ right_of b → total (λ (u : View O). alone_by u.right) (set s.views id (beside_of v)) ≡ 0
      none_left true is = let a = total_set (λ (u : View O). alone_by u.right) s.views id v (beside_of v) at in
          let b : alone_by v.right ≡ 1 = ap alone_by is in let c = held.3.one_alone in omega arith
      none_left false is = let a = total_set (λ (u : View O). alone_by u.right) s.views id v (beside_of v) at in
          let b : alone_by v.right ≡ 0 = ap alone_by is in
          let c = total_at (λ (u : View O). beside_by u.right) s.views id v at in let d : beside_by v.right ≡ 1 = ap beside_by is in
          by_count (total (λ (u : View O). alone_by u.right) s.views) refl (omega arith)
        where
          by_count : (n : ℕ) → total (λ (u : View O). alone_by u.right) s.views ≡ n → 0 < total (λ (u : View O). beside_by u.right) s.views
              → total (λ (u : View O). alone_by u.right) (set s.views id (beside_of v)) ≡ 0
          by_count zero n pos = let a = total_set (λ (u : View O). alone_by u.right) s.views id v (beside_of v) at in
              let b : alone_by v.right ≡ 0 = ap alone_by is in omega arith
          by_count (suc k) n pos = absurd (let none = held.3.none_beside (omega arith) in omega arith)

  pub losing_none : RuleLosesNone O
  losing_none s held weight = held.3.balanced weight ∙ ap (λ (k : ℕ). total (taken_weight weight) s.views + k) (home held.0 ∙ sym (ap (kept_at_home weight) held.2))
    where
      home : (g : Stage O) → kept_weight weight g ≡ kept_at_home weight (home_of g ∷ [])
      home vacant = refl
      home filling = refl
      home (kept x) = omega arith
      home lent = refl
