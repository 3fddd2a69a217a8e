-- Which steps a call at a place has made.
use Rattle.futures_buffered_place.proofs.Common.{◌≡◌, ◌≢◌, ℕ, zero, suc, List, [], ◌∷◌, Bool, true, false, refl, sym, ap, ◌∙◌, subst, inl, inr, Option, Some, None, Me, Nothing, Filling, Taken, View, Look, Win, WinFree, Lose, Put, Leave, Kept, Busy, TakesOut, does, done, looks, alone_looks, free_taken, TellsTaking, puts_next, leaves_next, PutsBy, TakesBy}
use Rattle.futures_buffered_place.proofs.PlaceLemmas.{won}

module _ {O : Type 0} where
  -- the value in the slot that was taken last
  abbrev slot_value : List (ℕ × Option O) → Option O
  slot_value [] = None
  slot_value (x ∷ xs) = x.1

  abbrev view_of : Me (Option O) (View O) → View O
  view_of m = m.0

  -- a seat that went for what is kept has lost it
  lost : (made : ℕ) (v : View O) (found : ℕ) (after : Me (Option O) (View O)) → TellsTaking made v found after → found ≢ 1 → after ≡ (does made v v.hand (Lose found), [])
  lost made v zero after told ne = told
  lost made v (suc zero) after told ne = absurd (ne refl)
  lost made v (suc (suc n)) after told ne = told

  pub by_steps : (made : ℕ) (v w : View O) (outer : Option O) → TakesBy made v outer w → TakesOut made v.steps outer w.steps
  by_steps made v w outer taken = (taken.0, taken.1, ap (λ (u : View O). u.steps) taken.2)

  module _ (made : ℕ) (v : View O) (hand : v.hand ≡ Nothing) (first : Me (Option O) (View O)) (found : ℕ) (looked : first ≡ (looks made v found, [])) where
    as_found : (n : ℕ) → found ≡ n → first.0 ≡ looks made v n
    as_found n is = ap view_of looked ∙ ap (looks made v) is

    -- with nothing in hand
    rested : first.0 ≡ done made v (Look found ∷ [])
    rested = ap view_of looked ∙ (λ k. record { right = v.right; hand = hand k; steps = (looks made v found).steps })

    module _ (went : ℕ) (second : Me (Option O) (View O)) (told : TellsTaking made first.0 went second) (one : found ≡ 1) where
      lost_it : went ≢ 1 → second.0 ≡ done made v (Look 1 ∷ Lose went ∷ [])
      lost_it ne = ap view_of (lost made first.0 went second told ne) ∙ (ap (λ (u : View O). does made u u.hand (Lose went)) (as_found 1 one)
          ∙ (λ k. record { right = v.right; hand = hand k; steps = (does made (looks made v 1) v.hand (Lose went)).steps }))

      module _ (two : went ≡ 1) (value : Option O) (in_slot : second.1 ≡ (0, value) ∷ []) where
        has_it : (x : O) × (second.0 ≡ does made (looks made v 1) Taken (Win x)) × (value ≡ Some x)
        has_it = let t = won made first.0 went second told two in (
          t.0,
          ap view_of t.1 ∙ ap (λ (u : View O). does made u Taken (Win t.0)) (as_found 1 one),
          ap slot_value (sym in_slot ∙ ap (λ (m : Me (Option O) (View O)). m.1) t.1),
        )

        pub took : (third : Me (Option O) (View O)) → third ≡ (leaves_next made second.0, []) → TakesBy made v value third.0
        took third left = let t = has_it in subst (λ (r : Option O). TakesBy made v r third.0) (sym t.2)
            (Look 1 ∷ Win t.0 ∷ Leave ∷ [], refl, ap view_of left ∙ ap (leaves_next made) t.1)

        pub filled_kept : (alone : Bool) (x : O) (third : Me (Option O) (View O)) → third ≡ (puts_next made second.0 x, []) → PutsBy alone made x v (Kept value) third.0
        filled_kept alone x third left = let t = has_it in subst (λ (r : Option O). PutsBy alone made x v (Kept r) third.0) (sym t.2)
            (Look 1 ∷ Win t.0 ∷ Put x ∷ [], refl, ap view_of left ∙ ap (λ (u : View O). puts_next made u x) t.1)

      pub missed_it : went ≢ 1 → TakesBy made v None second.0
      missed_it ne = (Look 1 ∷ Lose went ∷ [], (went, ne, inr refl), lost_it ne)

      pub met_it : (alone : Bool) (x : O) → went ≢ 1 → PutsBy alone made x v (Busy x) second.0
      met_it alone x ne = (Look 1 ∷ Lose went ∷ [], (refl, (went, inr (inl (ne, refl)))), lost_it ne)

    pub missed_none : found ≢ 1 → TakesBy made v None first.0
    missed_none ne = (Look found ∷ [], (found, ne, inl refl), rested)

    pub met_other : (alone : Bool) (x : O) → found ≢ 0 → found ≢ 1 → PutsBy alone made x v (Busy x) first.0
    met_other alone x ne0 ne1 = (Look found ∷ [], (refl, (found, inl (ne0, ne1, refl))), rested)

    -- a poller beside others goes for the slot while none is kept
    module _ (went : ℕ) (second : Me (Option O) (View O)) (told : second ≡ free_taken made first.0 went) (none : found ≡ 0) where
      free_lost : (n : ℕ) → n ≢ 0 → (free_taken made first.0 n).0 ≡ does made first.0 first.0.hand (Lose n)
      free_lost zero ne = absurd (ne refl)
      free_lost (suc n) ne = refl

      pub met_free : (x : O) → went ≢ 0 → PutsBy false made x v (Busy x) second.0
      met_free x ne = (
        Look 0 ∷ Lose went ∷ [],
        (refl, (went, inr (inr (refl, ne, refl)))),
        ap view_of told ∙ (free_lost went ne ∙ (ap (λ (u : View O). does made u u.hand (Lose went)) (as_found 0 none)
            ∙ (λ k. record { right = v.right; hand = hand k; steps = (does made (looks made v 0) v.hand (Lose went)).steps }))),
      )

      pub filled_free : went ≡ 0 → (before : Option O) → second.1 ≡ (0, before) ∷ [] → (x : O) (third : Me (Option O) (View O)) → third ≡ (puts_next made second.0 x, [])
          → PutsBy false made x v (Kept before) third.0
      filled_free zero_found before in_slot x third left =
          let is : second ≡ (does made first.0 Taken WinFree, (0, None) ∷ []) = told ∙ ap (free_taken made first.0) zero_found in
          let empty : before ≡ None = ap slot_value (sym in_slot ∙ ap (λ (m : Me (Option O) (View O)). m.1) is) in
          subst (λ (r : Option O). PutsBy false made x v (Kept r) third.0) (sym empty) (
            Look 0 ∷ WinFree ∷ Put x ∷ [],
            refl,
            ap view_of left ∙ (ap (λ (m : Me (Option O) (View O)). puts_next made m.0 x) is
                ∙ ap (λ (u : View O). puts_next made (does made u Taken WinFree) x) (as_found 0 none)),
          )

  -- the only poller
  pub alone_else : (made : ℕ) (v : View O) (found : ℕ) → found ≢ 0 → alone_looks made v found ≡ (looks made v found, [])
  alone_else made v zero ne = absurd (ne refl)
  alone_else made v (suc n) ne = refl

  pub filled_alone : (made : ℕ) (v : View O) (found : ℕ) (first : Me (Option O) (View O)) → first ≡ alone_looks made v found → found ≡ 0
      → (before : Option O) → first.1 ≡ (0, before) ∷ [] → (x : O) (second : Me (Option O) (View O)) → second ≡ (puts_next made first.0 x, [])
      → PutsBy true made x v (Kept before) second.0
  filled_alone made v found first looked none before in_slot x second left =
      let is : first ≡ (does made v Filling (Look 0), (0, None) ∷ []) = looked ∙ ap (alone_looks made v) none in
      let empty : before ≡ None = ap slot_value (sym in_slot ∙ ap (λ (m : Me (Option O) (View O)). m.1) is) in
      subst (λ (r : Option O). PutsBy true made x v (Kept r) second.0) (sym empty)
      (Look 0 ∷ Put x ∷ [], refl, ap view_of left ∙ ap (λ (m : Me (Option O) (View O)). puts_next made m.0 x) is)
