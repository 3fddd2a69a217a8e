-- Each step of a one-shot keeps its rule.
use Rattle.futures_buffered_held.proofs.Common.{◌≡◌, ◌≢◌, ◌⊎◌, inl, inr, ℕ, zero, suc, List, [], ◌∷◌, ◌++◌, length, get_or, set, refl, sym, ap, ◌∙◌, subst, ⊎_elim, eqb, eq-eqb, ne_eqb, arith, State, Me, Act, keeps, takes, gives, chain, carried_after, homes_after, Valid, stepped, Allows, Splits, Joins, opening, Left, Nothing, View, Spent, Both, Sender, Writing, Sent, Waiting, Idle, Got, Compared, Inside, value_of, IsHome, IsSent, Fits, HoldsOne, place_at, sent_by, sent_view, finished, opened, looked, turned, matched}
use Rattle.std.specs.Prelude.{Option, Some, None}
use Rattle.std.proofs.lemmas.Option.{none-some}
use mathlib.Core.Logic.{dite}
use native.Mathlib.Decide.{ℕ_discrete}
use prog.Atomic.{either}
use mathlib.Core.Option as maybe
use mathlib.Core.Option.{some, none, some-ne-none, some-injective}
use lib.ListN.{get_elem?}
use Rattle.atomic_table.proofs.Lists.{at_set}

at_end : {A : Type 0} (l : List A) (a b : A) (j : ℕ) → get_elem? (l ++ a ∷ []) j ≡ some b → (get_elem? l j ≡ some b) ⊎ ((j ≡ length l) × (a ≡ b))
at_end [] a b zero e = inr (refl, some-injective a b e)
at_end [] a b (suc j) e = absurd (some-ne-none b (sym e))
at_end (x ∷ xs) a b zero e = inl e
at_end (x ∷ xs) a b (suc j) e = ⊎_elim inl (λ t. inr (ap suc t.0, t.1)) (at_end xs a b j e)

differs : (word old new : ℕ) → word ≢ old → either (eqb word old) new word ≡ word
differs word old new ne = ap (λ b. either b new word) (ne_eqb word old ne)

agrees : (word old new : ℕ) → word ≡ old → either (eqb word old) new word ≡ new
agrees word old new e = ap (λ b. either b new word) (eq-eqb word old e)

abbrev Whole : Type 0 → Type 0 → Type 0
Whole T W = State (Left T W) (View T)

-- what a seat knows and holds
abbrev Mine : Type 0 → Type 0 → Type 0
Mine T W = Me (Left T W) (View T)

abbrev Home : Type 0 → Type 0 → Type 0
Home T W = maybe.Option (Left T W)

module _ {T W : Type 0} where
  -- after a step: the word, what lies at the two places, and what was sent
  abbrev changed : Inside T W → ℕ → Home T W → Home T W → Option T → Inside T W
  changed x word value waker sent = record { sender = x.sender; receiver = x.receiver; word = word; value_home = value; waker_home = waker; sent = sent }

  -- the views of the other seats stay true
  abbrev Others : Inside T W → Inside T W → ℕ → Type 0
  Others x y seat = (j : ℕ) (u : View T) → j ≢ seat → Fits x j u → Fits y j u

  abbrev EachFits : Inside T W → List (View T) → Type 0
  EachFits x views = (j : ℕ) (u : View T) → get_elem? views j ≡ some u → Fits x j u

  -- the views, after a seat got a new one
  set_view : (x y : Inside T W) (views : List (View T)) (seat : ℕ) (w : View T) → Others x y seat → Fits y seat w → EachFits x views → EachFits y (set views seat w)
  set_view x y views seat w others mine all j u e =
      ⊎_elim
      (λ (t : (j ≡ seat) × (w ≡ u)). subst (λ (p : ℕ × View T). Fits y p.0 p.1) (λ i. (sym t.0 i, t.1 i)) mine)
      (λ (t : (j ≢ seat) × (get_elem? views j ≡ some u)). others j u t.0 (all j u t.1))
      (at_set views seat j w u e)

  same_others : (x : Inside T W) (seat : ℕ) → Others x x seat
  same_others x seat j u apart f = f

  -- the others, at a step of the sender
  by_sender : (x : Inside T W) (seat word : ℕ) (value waker : Home T W) (sent : Option T) → seat ≡ x.sender → x.sent ≡ None → x.word ≢ 2
      → (x.word ≡ 0 → (word ≡ 0) ⊎ IsSent (changed x word value waker sent)) → (x.word ≡ 1 → (word ≡ 1) ⊎ IsSent (changed x word value waker sent))
      → Others x (changed x word value waker sent) seat
  by_sender x seat word value waker sent me unsent undone idle waits j Spent apart f = tt
  by_sender x seat word value waker sent me unsent undone idle waits j Both apart f = absurd (apart (f.0 ∙ sym me))
  by_sender x seat word value waker sent me unsent undone idle waits j Sender apart f = absurd (apart (f.0 ∙ sym me))
  by_sender x seat word value waker sent me unsent undone idle waits j Writing apart f = absurd (apart (f.0 ∙ sym me))
  by_sender x seat word value waker sent me unsent undone idle waits j (Sent v) apart f = absurd (none-some v (sym unsent ∙ f))
  by_sender x seat word value waker sent me unsent undone idle waits j Waiting apart f = (f.0, ⊎_elim waits (λ (full : IsSent x). absurd (undone full.0)) f.1)
  by_sender x seat word value waker sent me unsent undone idle waits j Idle apart f = (f.0, ⊎_elim idle (λ (full : IsSent x). absurd (undone full.0)) f.1)
  by_sender x seat word value waker sent me unsent undone idle waits j (Got o) apart f = absurd (undone f.1)
  by_sender x seat word value waker sent me unsent undone idle waits j (Compared o v) apart f = absurd (undone f.1)

  -- the others, at a step of the receiver
  by_receiver : (x : Inside T W) (seat word : ℕ) (value waker : Home T W) → seat ≡ x.receiver → (x.word ≢ 2 → (word ≢ 2) × (value ≡ x.value_home))
      → Others x (changed x word value waker x.sent) seat
  by_receiver x seat word value waker me still j Spent apart f = tt
  by_receiver x seat word value waker me still j Both apart f = absurd (apart (f.1 ∙ sym me))
  by_receiver x seat word value waker me still j Sender apart f = (f.0, (still f.1).0, f.2, subst IsHome (sym (still f.1).1) f.3)
  by_receiver x seat word value waker me still j Writing apart f = (f.0, (still f.1).0, f.2)
  by_receiver x seat word value waker me still j (Sent v) apart f = f
  by_receiver x seat word value waker me still j Waiting apart f = absurd (apart (f.0 ∙ sym me))
  by_receiver x seat word value waker me still j Idle apart f = absurd (apart (f.0 ∙ sym me))
  by_receiver x seat word value waker me still j (Got o) apart f = absurd (apart (f.0 ∙ sym me))
  by_receiver x seat word value waker me still j (Compared o v) apart f = absurd (apart (f.0 ∙ sym me))

  pub opens : HoldsOne {T = T} {W = W} (opening (1 ∷ []) (Nothing ∷ Nothing ∷ []) Both)
  opens =
      let x : Inside T W = record { sender = 0; receiver = 0; word = 1; value_home = some Nothing; waker_home = some Nothing; sent = None } in
      record {
        inside = x;
        words = refl;
        homes = refl;
        waits = λ _. (Nothing, refl);
        each_view = λ j v e. ⊎_elim (λ (t : get_elem? [] j ≡ some v). absurd (some-ne-none v (sym t)))
            (λ (t : (j ≡ 0) × (Both ≡ v)). subst (Fits x j) t.1 (t.0, t.0, refl, refl, (Nothing, refl))) (at_end [] Both v j e);
      }

  fits_sent : (x : Inside T W) (seat word : ℕ) (value waker : Home T W) (o : Option T) → Fits (changed x word value waker o) seat (sent_view o)
  fits_sent x seat word value waker None = tt
  fits_sent x seat word value waker (Some v) = refl

  finds : (s : Whole T W) (h : HoldsOne s) → get_or s.words 0 0 ≡ h.inside.word
  finds s h = ap (λ ws. get_or ws 0 0) h.words

  module _ (slots id : ℕ) where
    -- the rule after a step
    after : (s : Whole T W) (h : HoldsOne s) (new : ℕ) (c : List (ℕ × Left T W)) (w : View T) (act : Act (Left T W)) (x : Inside T W)
        → set s.words 0 new ≡ x.word ∷ [] → homes_after s.homes c act ≡ x.value_home ∷ x.waker_home ∷ [] → (x.word ≡ 1 → IsHome x.waker_home)
        → Others h.inside x id → Fits x id w → HoldsOne (stepped s 0 new id c w act)
    after s h new c w act x words homes waits others mine = record {
      inside = x;
      words = words;
      homes = homes;
      waits = waits;
      each_view = set_view h.inside x s.views id w others mine h.each_view;
    }

    -- what a seat shows of a step that makes this of the word
    abbrev Moves : Whole T W → Mine T W → ℕ → (Mine T W → Type 0) → Type 0
    Moves s m new then = (w : View T) × (act : Act (Left T W)) × Valid s.homes m.1 act × HoldsOne (stepped s 0 new id m.1 w act) × then (w, carried_after m.1 act)

    -- what a seat shows of a look
    abbrev Looks : View T → List (ℕ × Left T W) → Whole T W → Type 0
    Looks v c s = Moves s (v, c) (get_or s.words 0 0) (looked (v, c) (get_or s.words 0 0))

    begins_at : (c : List (ℕ × Left T W)) (s : Whole T W) (h : HoldsOne s) → get_elem? s.views id ≡ some Sender → Looks Sender c s
    begins_at c s h at =
        let x = h.inside in
        let mine = h.each_view id Sender at in
        let y = mine.3.0 in (
          Writing,
          takes 0 y,
          ap (λ (hs : List (Home T W)). get_elem? hs 0) h.homes ∙ ap some mine.3.1,
          after s h (get_or s.words 0 0) c Writing (takes 0 y) (changed x x.word none x.waker_home x.sent)
              (ap (λ ws. set ws 0 (get_or ws 0 0)) h.words) (ap (λ (hs : List (Home T W)). set hs 0 none) h.homes) h.waits
              (by_sender x id x.word none x.waker_home x.sent mine.0 mine.2 mine.1 inl inl) (mine.0, mine.1, mine.2),
          (y, refl),
        )

    abbrev Finishes : Left T W → Whole T W → Type 0
    Finishes z s = Moves s (Writing, (0, z) ∷ []) 2 (finished (Writing, (0, z) ∷ []) (get_or s.words 0 0))

    finishes_gone : (z : Left T W) (s : Whole T W) (h : HoldsOne s) → get_elem? s.views id ≡ some Writing → h.inside.word ≡ 3 → Finishes z s
    finishes_gone z s h at three =
        let x = h.inside in
        let mine = h.each_view id Writing at in
        let found = finds s h in (
          Spent,
          keeps,
          tt,
          after s h 2 ((0, z) ∷ []) Spent keeps (changed x 2 x.value_home x.waker_home x.sent)
              (ap (λ ws. set ws 0 2) h.words) h.homes (λ (e : 2 ≡ 1). absurd (omega arith))
              (by_sender x id 2 x.value_home x.waker_home x.sent mine.0 mine.2 mine.1 (λ e. absurd (omega arith)) (λ e. absurd (omega arith))) tt,
          ((λ _. refl), (λ one. absurd (omega arith)), (λ other _. absurd (other (found ∙ three)))),
        )

    finishes_waiting : (z : Left T W) (s : Whole T W) (h : HoldsOne s) → get_elem? s.views id ≡ some Writing → h.inside.word ≡ 1 → Finishes z s
    finishes_waiting z s h at one =
        let x = h.inside in
        let mine = h.each_view id Writing at in
        let found = finds s h in
        let waker = h.waits one in
        let y = waker.0 in
        let full : IsSent (changed x 2 (some z) none (value_of z)) = (refl, (z, refl, refl)) in (
          sent_view (value_of z),
          chain gives (takes 1 y),
          (tt, ap (λ (hs : List (Home T W)). get_elem? (set hs 0 (some z)) 1) h.homes ∙ ap some waker.1),
          after s h 2 ((0, z) ∷ []) (sent_view (value_of z)) (chain gives (takes 1 y)) (changed x 2 (some z) none (value_of z))
              (ap (λ ws. set ws 0 2) h.words) (ap (λ (hs : List (Home T W)). set (set hs 0 (some z)) 1 none) h.homes) (λ (e : 2 ≡ 1). absurd (omega arith))
              (by_sender x id 2 (some z) none (value_of z) mine.0 mine.2 mine.1 (λ _. inr full) (λ _. inr full)) (fits_sent x id 2 (some z) none (value_of z)),
          ((λ three. absurd (omega arith)), (λ _. (y, refl)), (λ _ other. absurd (other (found ∙ one)))),
        )

    finishes_idle : (z : Left T W) (s : Whole T W) (h : HoldsOne s) → get_elem? s.views id ≡ some Writing → h.inside.word ≢ 3 → h.inside.word ≢ 1 → Finishes z s
    finishes_idle z s h at here quiet =
        let x = h.inside in
        let mine = h.each_view id Writing at in
        let found = finds s h in
        let full : IsSent (changed x 2 (some z) x.waker_home (value_of z)) = (refl, (z, refl, refl)) in (
          sent_view (value_of z),
          gives,
          tt,
          after s h 2 ((0, z) ∷ []) (sent_view (value_of z)) gives (changed x 2 (some z) x.waker_home (value_of z))
              (ap (λ ws. set ws 0 2) h.words) (ap (λ (hs : List (Home T W)). set hs 0 (some z)) h.homes) (λ (e : 2 ≡ 1). absurd (omega arith))
              (by_sender x id 2 (some z) x.waker_home (value_of z) mine.0 mine.2 mine.1 (λ _. inr full) (λ _. inr full)) (fits_sent x id 2 (some z) x.waker_home (value_of z)),
          ((λ three. absurd (here (sym found ∙ three))), (λ one. absurd (quiet (sym found ∙ one))), (λ _ _. refl)),
        )

    finishes_at : (z : Left T W) (s : Whole T W) (h : HoldsOne s) → get_elem? s.views id ≡ some Writing → Finishes z s
    finishes_at z s h at =
        dite (ℕ_discrete h.inside.word 3)
        (λ three. finishes_gone z s h at three)
        (λ here. dite (ℕ_discrete h.inside.word 1) (λ one. finishes_waiting z s h at one) (λ quiet. finishes_idle z s h at here quiet))

    pub finishes : (z : Left T W) (m : Mine T W) → m ≡ (Writing, (0, z) ∷ []) → Allows HoldsOne slots id m 0 (λ _. 2) (λ found n. finished m found n)
    finishes z m is = subst (λ (m : Mine T W). Allows HoldsOne slots id m 0 (λ _. 2) (λ found n. finished m found n)) (sym is) (λ s h _ at _. finishes_at z s h at)

    -- the receiver takes the place of the value
    opens_value : (m : Mine T W) (s : Whole T W) (h : HoldsOne s) (new : ℕ) → set s.words 0 new ≡ h.inside.word ∷ [] → id ≡ h.inside.receiver → IsSent h.inside → Moves s m new (opened m)
    opens_value m s h new words me full =
        let x = h.inside in
        let y = full.1.0 in (
          Got (value_of y),
          takes 0 y,
          ap (λ (hs : List (Home T W)). get_elem? hs 0) h.homes ∙ ap some full.1.1,
          after s h new m.1 (Got (value_of y)) (takes 0 y) (changed x x.word none x.waker_home x.sent)
              words (ap (λ (hs : List (Home T W)). set hs 0 none) h.homes) h.waits
              (by_receiver x id x.word none x.waker_home me (λ other. absurd (other full.0))) (me, full.0, sym full.1.2),
          (y, refl),
        )

    -- a seat that keeps its view, where the word stays
    stays : (m : Mine T W) (s : Whole T W) (h : HoldsOne s) (new : ℕ) → set s.words 0 new ≡ h.inside.word ∷ [] → get_elem? s.views id ≡ some m.0 → HoldsOne (stepped s 0 new id m.1 m.0 keeps)
    stays m s h new words at = after s h new m.1 m.0 keeps h.inside words h.homes h.waits (same_others h.inside id) (h.each_view id m.0 at)

    waits_at : (c : List (ℕ × Left T W)) (s : Whole T W) (h : HoldsOne s) → get_elem? s.views id ≡ some Waiting → Looks Waiting c s
    waits_at c s h at =
        let mine = h.each_view id Waiting at in
        let found = finds s h in
        let words = ap (λ ws. set ws 0 (get_or ws 0 0)) h.words in
        ⊎_elim
        (λ (one : h.inside.word ≡ 1). (
          Waiting,
          keeps,
          tt,
          stays (Waiting, c) s h (get_or s.words 0 0) words at,
          ((λ two. absurd (omega arith)), (λ _. refl)),
        ))
        (λ (full : IsSent h.inside).
        let o = opens_value (Waiting, c) s h (get_or s.words 0 0) words mine.0 full in
        (o.0, o.1, o.2, o.3, ((λ _. o.4), (λ other. absurd (other (found ∙ full.0))))))
        mine.1

    -- a look that changes nothing
    keeps_view : (v : View T) (c : List (ℕ × Left T W)) (s : Whole T W) (h : HoldsOne s) → looked (v, c) (get_or s.words 0 0) (v, c)
        → get_elem? s.views id ≡ some v → Looks v c s
    keeps_view v c s h same at = (v, keeps, tt, stays (v, c) s h (get_or s.words 0 0) (ap (λ ws. set ws 0 (get_or ws 0 0)) h.words) at, same)

    looks_at : (v : View T) (c : List (ℕ × Left T W)) (s : Whole T W) (h : HoldsOne s) → get_elem? s.views id ≡ some v → Looks v c s
    looks_at Sender c s h at = begins_at c s h at
    looks_at Waiting c s h at = waits_at c s h at
    looks_at (Compared o v) c s h at =
        let x = h.inside in
        let mine = h.each_view id (Compared o v) at in (
          Got o,
          keeps,
          tt,
          after s h (get_or s.words 0 0) c (Got o) keeps x (ap (λ ws. set ws 0 (get_or ws 0 0)) h.words) h.homes h.waits (same_others x id) (mine.0, mine.1, mine.2),
          ((sym mine.2 ∙ mine.3, refl), refl),
        )
    looks_at v c s h at = keeps_view v c s h (refl, refl) at

    pub looks : (m : Mine T W) → Allows HoldsOne slots id m 0 (λ n. n) (looked m)
    looks m = λ s h _ at _. looks_at m.0 m.1 s h at

    abbrev Turns : Mine T W → ℕ → ℕ → Whole T W → Type 0
    Turns m before new s = Moves s m (either (eqb (get_or s.words 0 0) before) new (get_or s.words 0 0)) (turned before new m (get_or s.words 0 0))

    -- the word that a receiver found, and what its turning made of it
    turned_word : (before new : ℕ) (s : Whole T W) (h : HoldsOne s) → set s.words 0 (either (eqb (get_or s.words 0 0) before) new (get_or s.words 0 0)) ≡ either (eqb h.inside.word before) new h.inside.word ∷ []
    turned_word before new s h = ap (λ ws. set ws 0 (either (eqb (get_or ws 0 0) before) new (get_or ws 0 0))) h.words

    -- the sender is done
    turns_late : (m : Mine T W) (before new : ℕ) (s : Whole T W) (h : HoldsOne s) → id ≡ h.inside.receiver → before ≢ 2 → IsSent h.inside → Turns m before new s
    turns_late m before new s h me apart full =
        let late : h.inside.word ≢ before = λ e. apart (sym e ∙ full.0) in
        let o = opens_value m s h _ (turned_word before new s h ∙ ap (λ (n : ℕ). n ∷ []) (differs h.inside.word before new late)) me full in
        (o.0, o.1, o.2, o.3, ((λ e. absurd (late (sym (finds s h) ∙ e))), (λ _. o.4)))

    -- a receiver that waits takes the place of the waker
    takes_waker : (w : View T) (new : ℕ) → new ≢ 1 → new ≢ 2 → ((x : Inside T W) → id ≡ x.receiver → x.word ≡ new → Fits x id w)
        → ((y : Left T W) → place_at new [] (w, (1, y) ∷ [])) → (s : Whole T W) (h : HoldsOne s) → get_elem? s.views id ≡ some Waiting → Turns (Waiting, []) 1 new s
    takes_waker w new unwaiting undone fits stands s h at =
        let x = h.inside in
        let mine = h.each_view id Waiting at in
        ⊎_elim
        (λ (one : x.word ≡ 1).
        let waker = h.waits one in
        let y = waker.0 in
        let next : Inside T W = changed x new x.value_home none x.sent in (
          w,
          takes 1 y,
          ap (λ (hs : List (Home T W)). get_elem? hs 1) h.homes ∙ ap some waker.1,
          after s h _ [] w (takes 1 y) next
              (turned_word 1 new s h ∙ ap (λ (n : ℕ). n ∷ []) (agrees x.word 1 new one)) (ap (λ (hs : List (Home T W)). set hs 1 none) h.homes) (λ e. absurd (unwaiting e))
              (by_receiver x id new x.value_home none mine.0 (λ _. (undone, refl))) (fits next mine.0 refl),
          ((λ _. stands y), (λ other. absurd (other (finds s h ∙ one)))),
        ))
        (λ (full : IsSent x). turns_late (Waiting, []) 1 new s h mine.0 (λ e. absurd (omega arith)) full)
        mine.1

    pub withdraws : (m : Mine T W) → m ≡ (Waiting, []) → Allows HoldsOne slots id m 0 (λ n. either (eqb n 1) 0 n) (turned 1 0 m)
    withdraws m is = subst (λ (m : Mine T W). Allows HoldsOne slots id m 0 (λ n. either (eqb n 1) 0 n) (turned 1 0 m)) (sym is)
        (λ s h _ at _. takes_waker Idle 0 (λ e. absurd (omega arith)) (λ e. absurd (omega arith)) (λ x me now. (me, inl now)) (λ y. (y, refl)) s h at)

    pub leaves : (m : Mine T W) → m ≡ (Waiting, []) → Allows HoldsOne slots id m 0 (λ n. either (eqb n 1) 3 n) (turned 1 3 m)
    leaves m is = subst (λ (m : Mine T W). Allows HoldsOne slots id m 0 (λ n. either (eqb n 1) 3 n) (turned 1 3 m)) (sym is)
        (λ s h _ at _. takes_waker Spent 3 (λ e. absurd (omega arith)) (λ e. absurd (omega arith)) (λ x me now. tt) (λ y. (y, refl)) s h at)

    registers_at : (z : Left T W) (s : Whole T W) (h : HoldsOne s) → get_elem? s.views id ≡ some Idle → Turns (Idle, (1, z) ∷ []) 0 1 s
    registers_at z s h at =
        let x = h.inside in
        let mine = h.each_view id Idle at in
        ⊎_elim
        (λ (idle : x.word ≡ 0). (
          Waiting,
          gives,
          tt,
          after s h _ ((1, z) ∷ []) Waiting gives (changed x 1 x.value_home (some z) x.sent)
              (turned_word 0 1 s h ∙ ap (λ (n : ℕ). n ∷ []) (agrees x.word 0 1 idle)) (ap (λ (hs : List (Home T W)). set hs 1 (some z)) h.homes) (λ _. (z, refl))
              (by_receiver x id 1 x.value_home (some z) mine.0 (λ _. ((λ e. absurd (omega arith)), refl))) (mine.0, inl refl),
          ((λ _. refl), (λ other. absurd (other (finds s h ∙ idle)))),
        ))
        (λ (full : IsSent x). turns_late (Idle, (1, z) ∷ []) 0 1 s h mine.0 (λ e. absurd (omega arith)) full)
        mine.1

    pub registers : (z : Left T W) (m : Mine T W) → m ≡ (Idle, (1, z) ∷ []) → Allows HoldsOne slots id m 0 (λ n. either (eqb n 0) 1 n) (turned 0 1 m)
    registers z m is = subst (λ (m : Mine T W). Allows HoldsOne slots id m 0 (λ n. either (eqb n 0) 1 n) (turned 0 1 m)) (sym is) (λ s h _ at _. registers_at z s h at)

  fits_matched : (x : Inside T W) (seat other : ℕ) (v w : View T) → Fits x seat v → Fits x other w → Fits x seat (matched v w)
  fits_matched x seat other (Got o) (Sent v) f g = (f.0, f.1, f.2, g)
  fits_matched x seat other v w f g = f

  pub matches : (id : ℕ) (v : View T) (other : ℕ) (w : View T) → Joins {S = Left T W} HoldsOne id v other w (matched v w) Spent
  matches id v other w s h at apart there =
      let both = matched v w in
      let x = h.inside in
      let theirs = ⊎_elim (λ (t : (other ≡ id) × (both ≡ w)). absurd (apart t.0)) (λ (t : (other ≢ id) × (get_elem? s.views other ≡ some w)). h.each_view other w t.1) (at_set s.views id other both w there) in
      record {
        inside = x;
        words = h.words;
        homes = h.homes;
        waits = h.waits;
        each_view = set_view x x (set s.views id both) other Spent (same_others x other) tt
            (set_view x x s.views id both (same_others x id) (fits_matched x id other v w (h.each_view id v at) theirs) h.each_view);
      }

  fits_receipt : (x : Inside T W) (seat other : ℕ) (v : View T) → Fits x seat v → Fits x other (sent_view (sent_by v))
  fits_receipt x seat other (Sent v) f = f
  fits_receipt x seat other v f = tt

  pub receipts : (id : ℕ) (v : View T) → Splits {S = Left T W} HoldsOne id v v (sent_view (sent_by v))
  receipts id v s h at =
      let x = h.inside in
      let views : List (View T) = set s.views id v in
      let second = sent_view (sent_by v) in
      let mine = h.each_view id v at in
      record {
        inside = x;
        words = h.words;
        homes = h.homes;
        waits = h.waits;
        each_view = λ j u e. ⊎_elim (set_view x x s.views id v (same_others x id) mine h.each_view j u)
            (λ (t : (j ≡ length views) × (second ≡ u)). subst (Fits x j) t.1 (fits_receipt x id j v mine))
            (at_end views second u j e);
      }

  -- the others, where a new seat becomes the receiver
  others_cut : (x : Inside T W) (b id : ℕ) → id ≡ x.sender → id ≡ x.receiver → Others x (record x { receiver = b }) id
  others_cut x b id as_a as_b j Spent apart f = tt
  others_cut x b id as_a as_b j Both apart f = absurd (apart (f.0 ∙ sym as_a))
  others_cut x b id as_a as_b j Sender apart f = f
  others_cut x b id as_a as_b j Writing apart f = f
  others_cut x b id as_a as_b j (Sent v) apart f = f
  others_cut x b id as_a as_b j Waiting apart f = absurd (apart (f.0 ∙ sym as_b))
  others_cut x b id as_a as_b j Idle apart f = absurd (apart (f.0 ∙ sym as_b))
  others_cut x b id as_a as_b j (Got o) apart f = absurd (apart (f.0 ∙ sym as_b))
  others_cut x b id as_a as_b j (Compared o v) apart f = absurd (apart (f.0 ∙ sym as_b))

  cuts_at : (id : ℕ) → Splits {S = Left T W} HoldsOne id Both Sender Waiting
  cuts_at id s h at =
      let mine = h.each_view id Both at in
      let one = mine.2 in
      let views : List (View T) = set s.views id Sender in
      let b : ℕ = length views in
      let x : Inside T W = record h.inside { receiver = b } in
      record {
        inside = x;
        words = h.words;
        homes = h.homes;
        waits = h.waits;
        each_view = λ j u e. ⊎_elim
            (set_view h.inside x s.views id Sender (others_cut h.inside b id mine.0 mine.1) (mine.0, (λ two. absurd (omega arith)), mine.3, mine.4) h.each_view j u)
            (λ (t : (j ≡ b) × (Waiting ≡ u)). subst (Fits x j) t.1 (t.0, inl one))
            (at_end views Waiting u j e);
      }

  pub cuts : (id : ℕ) (v : View T) → v ≡ Both → Splits {S = Left T W} HoldsOne id v Sender Waiting
  cuts id v is = subst (λ (u : View T). Splits {S = Left T W} HoldsOne id u Sender Waiting) (sym is) (cuts_at id)

module _ {T W : Type 0} where
  -- a look of a seat that has not begun to send
  pub sender_looked : (m n : Mine T W) (found : ℕ) → m ≡ (Sender, []) → looked m found n → (y : Left T W) × (n ≡ (Writing, (0, y) ∷ []))
  sender_looked m n found is told = subst (λ (m : Mine T W). looked m found n) is told

  -- what a receiver answered is what was sent
  pub answered : (old receipt : View T) (c : List (ℕ × Left T W)) (n : Mine T W) (found : ℕ) → looked (matched old receipt, c) found n
      → (answer : Option T) (sent : T) → old ≡ Got answer → receipt ≡ Sent sent → (answer ≡ Some sent) × (n.0 ≡ Got answer)
  answered old receipt c n found told answer sent is was = (subst (λ (v : View T). looked (v, c) found n) (λ i. matched (is i) (was i)) told).0
