-- Each step of a ledger keeps its rule.
use Rattle.std.proofs.Common.{◌≡◌, ◌≢◌, ◌+◌, ◌<◌, ◌≤◌, ℕ, zero, suc, cond, ◌&&◌, List, [], ◌∷◌, ◌++◌, get_or, set, refl, sym, ap, ◌∙◌, subst, ⊎_elim, arith, eqb, eq-eqb, ne_eqb, count_by, sum_by, None}
use Rattle.std.proofs.lemmas.List.Sums.{sum_by-cons, sum_by_push}
use mathlib.Core.Logic.{dite}
use native.Mathlib.Decide.{ℕ_discrete}
use prog.Atomic.{either}
use mathlib.Core.Option as maybe
use mathlib.Core.Option.{some, none, some-ne-none, some-injective}
use lib.ListN.{get_elem?}
use Rattle.atomic_table.specs.Table.{Act, Allows, Arrives, Joins, Splits, State, Valid, carried_after, gives, homes_after, keeps, opening, stepped, takes}
use Rattle.atomic_table.proofs.Lists.{at_set, at_snoc}
use Rattle.futures_buffered_in_flight.specs.Ledger.{same_key}
use Rattle.futures_buffered_in_flight.specs.LedgerRule.{Fits, HoldsLedger, IsOwner, IsTold, MayLeave, Mine, Numbers, arrived, book_of, claimed, cleared, is_ticket, items_of, key_of, left, looked, new_book, read_by, with_cleared, with_given, with_returned, with_told, wrote}
use Rattle.futures_buffered_in_flight.specs.declared.run.Key.{Key}
use Rattle.futures_buffered_in_flight.specs.declared.ledger.Book.{Book}
use Rattle.futures_buffered_in_flight.specs.declared.ledger.View.{View}
use Rattle.futures_buffered_in_flight.specs.declared.ledger.View.TheVariants.{Spent, Owner, Returned, Shown, Ticket, Notice}
use Rattle.futures_buffered_in_flight.proofs.LedgerLemmas.{counted_without, same_key_refl}

abbrev Whole : Type 0
Whole = State Numbers View

abbrev Home : Type 0
Home = maybe.Option Numbers

abbrev Held : Type 0
Held = List (ℕ × Numbers)

-- one place of a list changes: how the sum does
sum_set : (f : View → ℕ) (xs : List View) (i : ℕ) (v w : View) → get_elem? xs i ≡ some v → sum_by f (set xs i w) + f v ≡ sum_by f xs + f w
sum_set f [] i v w e = absurd (some-ne-none v (sym e))
sum_set f (x ∷ xs) zero v w e =
    let same : f x ≡ f v = ap f (some-injective x v e) in
    omega (arith, sum_by-cons f x xs, sum_by-cons f w xs)
sum_set f (x ∷ xs) (suc i) v w e = omega (arith, sum_by-cons f x xs, sum_by-cons f x (set xs i w), sum_set f xs i v w e)

abbrev weighs : ℕ → Key → View → ℕ
weighs clears key v = cond (is_ticket clears key v) 1 0

counted_set : (clears : ℕ) (key : Key) (views : List View) (i : ℕ) (v w : View) → get_elem? views i ≡ some v
    → count_by (is_ticket clears key) (set views i w) + weighs clears key v ≡ count_by (is_ticket clears key) views + weighs clears key w
counted_set clears key views i v w e = sum_set (weighs clears key) views i v w e

-- a seat that is of no ticket before and after
counted_same : (clears : ℕ) (key : Key) (views : List View) (i : ℕ) (v w : View) → get_elem? views i ≡ some v → weighs clears key v ≡ 0 → weighs clears key w ≡ 0
    → count_by (is_ticket clears key) (set views i w) ≡ count_by (is_ticket clears key) views
counted_same clears key views i v w e light light_after = omega (arith, counted_set clears key views i v w e)

none_counted : (clears : ℕ) (key : Key) (views : List View) → ((j : ℕ) (u : View) → get_elem? views j ≡ some u → weighs clears key u ≡ 0) → count_by (is_ticket clears key) views ≡ 0
none_counted clears key [] light = refl
none_counted clears key (x ∷ xs) light =
    let first = light 0 x refl in
    let others = none_counted clears key xs (λ j u e. light (suc j) u e) in
    omega (arith, sum_by-cons (weighs clears key) x xs)

-- a ticket of these clears counts by its key
ticket_weight : (clears n : ℕ) (key k : Key) → n ≡ clears → weighs clears key (Ticket n k) ≡ cond (same_key key k) 1 0
ticket_weight clears n key k e = ap (λ b. cond (b && same_key key k) 1 0) (eq-eqb n clears e)

differs : (word old new : ℕ) → word ≢ old → either (eqb word old) new word ≡ word
differs word old new ne = ap (λ b. either b new word) (ne_eqb word old ne)

agrees : (word old new : ℕ) → word ≡ old → either (eqb word old) new word ≡ new
agrees word old new e = ap (λ b. either b new word) (eq-eqb word old e)

-- from one book to another what the other seats know stays true
abbrev Onward : Book → Book → Type 0
Onward x y = (x.clears ≤ y.clears) × ((numbers : List ℕ) → IsTold numbers x.told → IsTold numbers y.told)

same_on : (x : Book) → Onward x x
same_on x = ((omega arith), (λ numbers told. told))

others : (owner : ℕ) (x y : Book) → Onward x y → (j : ℕ) (u : View) → j ≢ owner → Fits owner x j u → Fits owner y j u
others owner x y on j Spent apart f = tt
others owner x y on j (Owner known) apart f = absurd (apart f.0)
others owner x y on j (Returned before key) apart f = absurd (apart f.0)
others owner x y on j (Shown known numbers) apart f = absurd (apart f.0)
others owner x y on j (Ticket clears key) apart f = let below = on.0 in omega arith
others owner x y on j (Notice numbers) apart f = on.1 numbers f

abbrev EachFits : ℕ → Book → List View → Type 0
EachFits owner book views = (j : ℕ) (u : View) → get_elem? views j ≡ some u → Fits owner book j u

-- the views after a seat got a new one
set_view : (owner : ℕ) (x y : Book) (views : List View) (seat : ℕ) (w : View) → ((j : ℕ) (u : View) → j ≢ seat → Fits owner x j u → Fits owner y j u)
    → Fits owner y seat w → EachFits owner x views → EachFits owner y (set views seat w)
set_view owner x y views seat w apart mine all j u e =
    ⊎_elim
    (λ (t : (j ≡ seat) × (w ≡ u)). subst (λ (p : ℕ × View). Fits owner y p.0 p.1) (λ i. (sym t.0 i, t.1 i)) mine)
    (λ (t : (j ≢ seat) × (get_elem? views j ≡ some u)). apart j u t.0 (all j u t.1))
    (at_set views seat j w u e)

-- the views after the set's seat got a new one, and the set a new book
set_owner : (owner : ℕ) (x y : Book) (views : List View) (seat : ℕ) (w : View) → seat ≡ owner → Onward x y → Fits owner y seat w → EachFits owner x views → EachFits owner y (set views seat w)
set_owner owner x y views seat w me on mine all = set_view owner x y views seat w (λ j u ne f. others owner x y on j u (λ e. ne (e ∙ sym me)) f) mine all

finds : (s : Whole) (h : HoldsLedger s) → get_or s.words 0 0 ≡ h.word
finds s h = ap (λ ws. get_or ws 0 0) h.words

pub opens : HoldsLedger (opening (0 ∷ []) (None ∷ []) (Owner new_book))
opens = record {
  owner = 0;
  book = new_book;
  word = 0;
  home = some None;
  words = refl;
  homes = refl;
  free = λ _. (None, refl);
  written = λ y e slot. subst (λ (z : Numbers). get_or (items_of z) slot 0 ≤ 0) (some-injective None y e) (omega arith);
  each_view = λ j u e. first j u e;
  counts = λ key. omega arith;
}
  where
    first : (j : ℕ) (u : View) → get_elem? (Owner new_book ∷ []) j ≡ some u → Fits 0 new_book j u
    first zero u e = subst (Fits 0 new_book 0) (some-injective (Owner new_book) u e) (refl, refl)
    first (suc j) u e = absurd (some-ne-none u (sym e))

module _ (slots id : ℕ) where
  -- what a seat shows of a step that makes this of the word
  abbrev Moves : Whole → Mine → ℕ → (Mine → Type 0) → Type 0
  Moves s m new then = (w : View) × (act : Act Numbers) × Valid s.homes m.1 act × HoldsLedger (stepped s 0 new id m.1 w act) × then (w, carried_after m.1 act)

  -- the rule after a step of the set, which may change its book
  after : (s : Whole) (h : HoldsLedger s) (new : ℕ) (c : Held) (w : View) (act : Act Numbers) (book : Book) (word : ℕ) (home : Home)
      → set s.words 0 new ≡ word ∷ [] → homes_after s.homes c act ≡ home ∷ [] → (word ≡ 0 → (y : Numbers) × (home ≡ some y))
      → ((y : Numbers) → home ≡ some y → IsTold (items_of y) book.told) → EachFits h.owner book (set s.views id w)
      → ((key : Key) → count_by (is_ticket book.clears key) (set s.views id w) ≤ count_by (same_key key) book.tickets) → HoldsLedger (stepped s 0 new id c w act)
  after s h new c w act book word home words homes free written each_view counts = record {
    owner = h.owner;
    book = book;
    word = word;
    home = home;
    words = words;
    homes = homes;
    free = free;
    written = written;
    each_view = each_view;
    counts = counts;
  }

  -- a load that leaves the book, and is of no ticket
  looks_on : (m : Mine) (w : View) (s : Whole) (h : HoldsLedger s) → get_elem? s.views id ≡ some m.0 → ((key : Key) → weighs h.book.clears key m.0 ≡ 0)
      → ((key : Key) → weighs h.book.clears key w ≡ 0) → Fits h.owner h.book id w → HoldsLedger (stepped s 0 (get_or s.words 0 0) id m.1 w keeps)
  looks_on m w s h at light light_after mine =
      after s h (get_or s.words 0 0) m.1 w keeps h.book h.word h.home (ap (λ ws. set ws 0 (get_or ws 0 0)) h.words) h.homes h.free h.written
      (set_view h.owner h.book h.book s.views id w (λ j u ne f. f) mine h.each_view)
      (λ key. let now = counted_same h.book.clears key s.views id m.0 w at (light key) (light_after key) in let was = h.counts key in omega arith)

  returns_at : (before : Book) (key : Key) (held : Held) → Allows HoldsLedger slots id (Returned before key, held) 0 (λ n. n) (looked (Returned before key, held))
  returns_at before key held s h _ at _ =
      let mine = h.each_view id (Returned before key) at in (
        Owner (with_returned key before),
        keeps,
        tt,
        looks_on (Returned before key, held) (Owner (with_returned key before)) s h at (λ _. refl) (λ _. refl) (mine.0, mine.1),
        (refl, mine.2),
      )

  pub returns_ticket : (m : Mine) (before : Book) (key : Key) → m ≡ (Returned before key, []) → Allows HoldsLedger slots id m 0 (λ n. n) (looked m)
  returns_ticket m before key is = subst (λ (m : Mine). Allows HoldsLedger slots id m 0 (λ n. n) (looked m)) (sym is) (returns_at before key [])

  shows_at : (known : Book) (numbers : List ℕ) (held : Held) → Allows HoldsLedger slots id (Shown known numbers, held) 0 (λ n. n) (looked (Shown known numbers, held))
  shows_at known numbers held s h _ at _ =
      let mine = h.each_view id (Shown known numbers) at in (
        Owner known,
        keeps,
        tt,
        looks_on (Shown known numbers, held) (Owner known) s h at (λ _. refl) (λ _. refl) (mine.0, mine.1),
        (refl, subst (λ (b : Book). IsTold numbers b.told) (sym mine.1) mine.2),
      )

  pub shows_notice : (m : Mine) (known : Book) (numbers : List ℕ) → m ≡ (Shown known numbers, []) → Allows HoldsLedger slots id m 0 (λ n. n) (looked m)
  shows_notice m known numbers is = subst (λ (m : Mine). Allows HoldsLedger slots id m 0 (λ n. n) (looked m)) (sym is) (shows_at known numbers [])

  -- no ticket is of a later clear
  later : (s : Whole) (h : HoldsLedger s) (key : Key) (j : ℕ) (u : View) → get_elem? s.views j ≡ some u → weighs (h.book.clears + 1) key u ≡ 0
  later s h key j Spent e = refl
  later s h key j (Owner known) e = refl
  later s h key j (Returned before k) e = refl
  later s h key j (Shown known numbers) e = refl
  later s h key j (Ticket n k) e =
      let below : n ≤ h.book.clears = h.each_view j (Ticket n k) e in
      ap (λ b. cond (b && same_key key k) 1 0) (ne_eqb n (h.book.clears + 1) (λ equal. absurd (omega arith)))
  later s h key j (Notice numbers) e = refl

  clears_at : (book : Book) → Allows HoldsLedger slots id (Owner book, []) 0 (λ n. n) (λ _ n. cleared (Owner book, []) n)
  clears_at book s h _ at _ =
      let mine = h.each_view id (Owner book) at in
      let new : Book = with_cleared h.book in
      let w : View = Owner (with_cleared book) in (
        w,
        keeps,
        tt,
        after s h (get_or s.words 0 0) [] w keeps new h.word h.home (ap (λ ws. set ws 0 (get_or ws 0 0)) h.words) h.homes h.free h.written
            (set_owner h.owner h.book new s.views id w mine.0 ((omega arith), (λ numbers told. told)) (mine.0, ap with_cleared mine.1) h.each_view)
            (λ key. let now = counted_same new.clears key s.views id (Owner book) w at refl refl in
            let none_left = none_counted new.clears key s.views (later s h key) in omega arith),
        refl,
      )

  pub clears : (m : Mine) → IsOwner m → Allows HoldsLedger slots id m 0 (λ n. n) (λ _ n. cleared m n)
  clears m is = subst (λ (m : Mine). Allows HoldsLedger slots id m 0 (λ n. n) (λ _ n. cleared m n)) (sym is) (clears_at (book_of m.0))

  claims_at : (book : Book) → Allows HoldsLedger slots id (Owner book, []) 0 (λ n. either (eqb n 0) 1 n) (claimed (Owner book, []))
  claims_at book s h _ at _ =
      let mine = h.each_view id (Owner book) at in
      let found = finds s h in
      let word = ap (λ ws. set ws 0 (either (eqb (get_or ws 0 0) 0) 1 (get_or ws 0 0))) h.words in
      let each = set_view h.owner h.book h.book s.views id (Owner book) (λ j u ne f. f) mine h.each_view in
      let counts = λ (key : Key). let now = counted_same h.book.clears key s.views id (Owner book) (Owner book) at refl refl in
      let was = h.counts key in subst (λ n. n ≤ count_by (same_key key) h.book.tickets) (sym now) was in
      dite (ℕ_discrete h.word 0)
      (λ home.
      let y = (h.free home).0 in
      let here = (h.free home).1 in (
        Owner book,
        takes 0 y,
        ap (λ (hs : List Home). get_elem? hs 0) h.homes ∙ ap some here,
        after s h (either (eqb (get_or s.words 0 0) 0) 1 (get_or s.words 0 0)) [] (Owner book) (takes 0 y) h.book 1 none
            (word ∙ ap (λ (n : ℕ). n ∷ []) (agrees h.word 0 1 home)) (ap (λ (hs : List Home). set hs 0 none) h.homes)
            (λ e. absurd (omega arith)) (λ z e. absurd (some-ne-none z (sym e))) each counts,
        ((λ _. (y, refl, subst (λ (b : Book). IsTold (items_of y) b.told) (sym mine.1) (h.written y here))), (λ other. absurd (other (found ∙ home)))),
      ))
      (λ out. (
        Owner book,
        keeps,
        tt,
        after s h (either (eqb (get_or s.words 0 0) 0) 1 (get_or s.words 0 0)) [] (Owner book) keeps h.book h.word h.home
            (word ∙ ap (λ (n : ℕ). n ∷ []) (differs h.word 0 1 out)) h.homes h.free h.written each counts,
        ((λ zero_found. absurd (out (sym found ∙ zero_found))), (λ _. refl)),
      ))

  pub claims : (m : Mine) → IsOwner m → Allows HoldsLedger slots id m 0 (λ n. either (eqb n 0) 1 n) (claimed m)
  claims m is = subst (λ (m : Mine). Allows HoldsLedger slots id m 0 (λ n. either (eqb n 0) 1 n) (claimed m)) (sym is) (claims_at (book_of m.0))

  -- what a seat may leave was written
  may_leave : (owner : ℕ) (book : Book) (v : View) (numbers : List ℕ) → Fits owner book id v → MayLeave v numbers → IsTold numbers book.told
  may_leave owner book Spent numbers f may = elim may [ ]
  may_leave owner book (Returned before key) numbers f may = elim may [ ]
  may_leave owner book (Shown known read) numbers f may = elim may [ ]
  may_leave owner book (Ticket clears key) numbers f may = elim may [ ]
  may_leave owner book (Owner known) numbers f may = subst (λ (b : Book). IsTold numbers b.told) f.1 may
  may_leave owner book (Notice read) numbers f may = subst (λ (ns : List ℕ). IsTold ns book.told) may f

  leaves_at : (v : View) (y : Numbers) → MayLeave v (items_of y) → Allows HoldsLedger slots id (v, (0, y) ∷ []) 0 (λ _. 0) (λ _ n. left (v, (0, y) ∷ []) n)
  leaves_at v y may s h _ at _ = (
    v,
    gives,
    tt,
    after s h 0 ((0, y) ∷ []) v gives h.book 0 (some y) (ap (λ ws. set ws 0 0) h.words) (ap (λ (hs : List Home). set hs 0 (some y)) h.homes) (λ _. (y, refl))
        (λ z e. subst (λ (n : Numbers). IsTold (items_of n) h.book.told) (some-injective y z e) (may_leave h.owner h.book v (items_of y) (h.each_view id v at) may))
        (set_view h.owner h.book h.book s.views id v (λ j u ne f. f) (h.each_view id v at) h.each_view)
        (λ key. let now = counted_set h.book.clears key s.views id v v at in let was = h.counts key in omega arith),
    refl,
  )

  pub leaves : (m : Mine) (y : Numbers) → m.1 ≡ (0, y) ∷ [] → MayLeave m.0 (items_of y) → Allows HoldsLedger slots id m 0 (λ _. 0) (λ _ n. left m n)
  leaves m y is may = subst (λ (c : Held). Allows HoldsLedger slots id (m.0, c) 0 (λ _. 0) (λ _ n. left (m.0, c) n)) (sym is) (leaves_at m.0 y may)

  writes_at : (book : Book) (y : Numbers) → Allows HoldsLedger slots id (Owner book, (0, y) ∷ []) 0 (λ _. 0) (λ _ n. wrote (Owner book, (0, y) ∷ []) n)
  writes_at book y s h _ at _ =
      let mine = h.each_view id (Owner book) at in
      let new : Book = with_told (items_of y) h.book in
      let w : View = Owner (with_told (items_of y) book) in
      let on : Onward h.book new = ((omega arith), (λ numbers told slot. let below = told slot in omega arith)) in (
        w,
        gives,
        tt,
        after s h 0 ((0, y) ∷ []) w gives new 0 (some y) (ap (λ ws. set ws 0 0) h.words) (ap (λ (hs : List Home). set hs 0 (some y)) h.homes) (λ _. (y, refl))
            (λ z e. subst (λ (n : Numbers). IsTold (items_of n) new.told) (some-injective y z e) (λ slot. omega arith))
            (set_owner h.owner h.book new s.views id w mine.0 on (mine.0, ap (with_told (items_of y)) mine.1) h.each_view)
            (λ key. let now = counted_same h.book.clears key s.views id (Owner book) w at refl refl in let was = h.counts key in omega arith),
        refl,
      )

  pub writes : (m : Mine) (book : Book) (y : Numbers) → m ≡ (Owner book, (0, y) ∷ []) → Allows HoldsLedger slots id m 0 (λ _. 0) (λ _ n. wrote m n)
  writes m book y is = subst (λ (m : Mine). Allows HoldsLedger slots id m 0 (λ _. 0) (λ _ n. wrote m n)) (sym is) (writes_at book y)

-- the rule where a new seat came
comes : (s : Whole) (h : HoldsLedger s) (words : List ℕ) (homes : List Home) (w : View) (word : ℕ) (home : Home) → words ≡ word ∷ [] → homes ≡ home ∷ []
    → (word ≡ 0 → (y : Numbers) × (home ≡ some y)) → ((y : Numbers) → home ≡ some y → IsTold (items_of y) h.book.told)
    → ((j : ℕ) → Fits h.owner h.book j w) → ((key : Key) → weighs h.book.clears key w ≡ 0)
    → HoldsLedger record { words = words; homes = homes; views = s.views ++ w ∷ [] }
comes s h words homes w word home is_word is_home free written mine light = record {
  owner = h.owner;
  book = h.book;
  word = word;
  home = home;
  words = is_word;
  homes = is_home;
  free = free;
  written = written;
  each_view = λ j u e. ⊎_elim (h.each_view j u) (λ (same : w ≡ u). subst (Fits h.owner h.book j) same (mine j)) (at_snoc s.views w u j e);
  counts = λ key. let now = sum_by_push (weighs h.book.clears key) s.views w in let was = h.counts key in let none_more = light key in omega arith;
}

pub arrives : (slots : ℕ) → Arrives HoldsLedger slots 0 (λ _. 1) arrived
arrives slots s h _ _ =
    let found = finds s h in
    let words = ap (λ ws. set ws 0 1) h.words in
    dite (ℕ_discrete h.word 0)
    (λ here.
    let y = (h.free here).0 in
    let is = (h.free here).1 in (
      Notice (items_of y),
      takes 0 y,
      ap (λ (hs : List Home). get_elem? hs 0) h.homes ∙ ap some is,
      comes s h (set s.words 0 1) (set s.homes 0 none) (Notice (items_of y)) 1 none words (ap (λ (hs : List Home). set hs 0 none) h.homes)
          (λ e. absurd (omega arith)) (λ z e. absurd (some-ne-none z (sym e))) (λ _. h.written y is) (λ _. refl),
      ((λ _. (y, refl)), (λ other. absurd (other (found ∙ here)))),
    ))
    (λ out. (
      Spent,
      keeps,
      tt,
      comes s h (set s.words 0 1) s.homes Spent 1 h.home words h.homes (λ e. absurd (omega arith)) h.written (λ _. tt) (λ _. refl),
      ((λ zero_found. absurd (out (sym found ∙ zero_found))), (λ _. refl)),
    ))

gives_at : (id : ℕ) (book : Book) (key : Key) → Splits {S = Numbers} HoldsLedger id (Owner book) (Owner (with_given key book)) (Ticket book.clears key)
gives_at id book key s h at =
    let mine = h.each_view id (Owner book) at in
    let new : Book = with_given key h.book in
    let w : View = Owner (with_given key book) in
    let second : View = Ticket book.clears key in
    let views : List View = set s.views id w in
    let each = set_owner h.owner h.book new s.views id w mine.0 ((omega arith), (λ numbers told. told)) (mine.0, ap (with_given key) mine.1) h.each_view in
    let same : book.clears ≡ h.book.clears = ap (λ (b : Book). b.clears) mine.1 in
    record {
      owner = h.owner;
      book = new;
      word = h.word;
      home = h.home;
      words = h.words;
      homes = h.homes;
      free = h.free;
      written = h.written;
      each_view = λ j u e. ⊎_elim (each j u) (λ (is : second ≡ u). subst (Fits h.owner new j) is (omega arith)) (at_snoc views second u j e);
      counts = λ k. let now = counted_same h.book.clears k s.views id (Owner book) w at refl refl in
          let more = sum_by_push (weighs h.book.clears k) views second in
          let one = ticket_weight h.book.clears book.clears k key same in
          let was = h.counts k in
          let room = sum_by-cons (λ (x : Key). cond (same_key k x) 1 0) key h.book.tickets in
          omega arith;
    }

pub gives_ticket : (id : ℕ) (v : View) (key : Key) → v ≡ Owner (book_of v) → Splits {S = Numbers} HoldsLedger id v (Owner (with_given key (book_of v))) (Ticket (book_of v).clears key)
gives_ticket id v key is = subst (λ (u : View). Splits {S = Numbers} HoldsLedger id u (Owner (with_given key (book_of v))) (Ticket (book_of v).clears key)) (sym is) (gives_at id (book_of v) key)

-- what the other seat knows before a join
other_view : (s : Whole) (id other : ℕ) (both w : View) → ¬ (other ≡ id) → get_elem? (set s.views id both) other ≡ some w → get_elem? s.views other ≡ some w
other_view s id other both w apart there =
    ⊎_elim (λ (t : (other ≡ id) × (both ≡ w)). absurd (apart t.0)) (λ (t : (other ≢ id) × (get_elem? s.views other ≡ some w)). t.1) (at_set s.views id other both w there)

takes_at : (id other : ℕ) (book : Book) (key : Key) → Joins {S = Numbers} HoldsLedger id (Owner book) other (Ticket book.clears key) (Returned book key) Spent
takes_at id other book key s h at apart there =
    let mine = h.each_view id (Owner book) at in
    let both : View = Returned book key in
    let same : book.clears ≡ h.book.clears = ap (λ (b : Book). b.clears) mine.1 in
    let gone = λ (k : Key). counted_set h.book.clears k (set s.views id both) other (Ticket book.clears key) Spent there in
    let kept = λ (k : Key). counted_same h.book.clears k s.views id (Owner book) both at refl refl in
    let one = λ (k : Key). ticket_weight h.book.clears book.clears k key same in
    let here : cond {A = ℕ} (same_key key key) 1 0 ≡ 1 = ap {B = ℕ} (λ b. cond b 1 0) (same_key_refl key) in
    let some : 0 < count_by (same_key key) h.book.tickets = let a = gone key in let b = kept key in let c = one key in let d = h.counts key in omega arith in
    let new : Book = with_returned key h.book in
    record {
      owner = h.owner;
      book = new;
      word = h.word;
      home = h.home;
      words = h.words;
      homes = h.homes;
      free = h.free;
      written = h.written;
      each_view = set_view h.owner new new (set s.views id both) other Spent (λ j u ne f. f) tt
          (set_owner h.owner h.book new s.views id both mine.0 ((omega arith), (λ numbers told. told))
          (mine.0, ap (with_returned key) mine.1, subst (λ (b : Book). 0 < count_by (same_key key) b.tickets) (sym mine.1) some) h.each_view);
      counts = λ k. let a = gone k in let b = kept k in let c = one k in let d = h.counts k in let e = counted_without key k h.book.tickets some in omega arith;
    }

pub takes_ticket : (id other : ℕ) (v w : View) → v ≡ Owner (book_of v) → w ≡ Ticket (book_of v).clears (key_of w)
    → Joins {S = Numbers} HoldsLedger id v other w (Returned (book_of v) (key_of w)) Spent
takes_ticket id other v w is theirs =
    subst (λ (p : View × View). Joins {S = Numbers} HoldsLedger id p.0 other p.1 (Returned (book_of v) (key_of w)) Spent) (λ i. (sym is i, sym theirs i))
    (takes_at id other (book_of v) (key_of w))

compares_at : (id other : ℕ) (book : Book) (numbers : List ℕ) → Joins {S = Numbers} HoldsLedger id (Owner book) other (Notice numbers) (Shown book numbers) Spent
compares_at id other book numbers s h at apart there =
    let mine = h.each_view id (Owner book) at in
    let both : View = Shown book numbers in
    let theirs = h.each_view other (Notice numbers) (other_view s id other both (Notice numbers) apart there) in
    record {
      owner = h.owner;
      book = h.book;
      word = h.word;
      home = h.home;
      words = h.words;
      homes = h.homes;
      free = h.free;
      written = h.written;
      each_view = set_view h.owner h.book h.book (set s.views id both) other Spent (λ j u ne f. f) tt
          (set_view h.owner h.book h.book s.views id both (λ j u ne f. f) (mine.0, mine.1, theirs) h.each_view);
      counts = λ k. let a = counted_set h.book.clears k (set s.views id both) other (Notice numbers) Spent there in
          let b = counted_same h.book.clears k s.views id (Owner book) both at refl refl in let c = h.counts k in omega arith;
    }

pub compares_notice : (id other : ℕ) (v w : View) → v ≡ Owner (book_of v) → w ≡ Notice (read_by w)
    → Joins {S = Numbers} HoldsLedger id v other w (Shown (book_of v) (read_by w)) Spent
compares_notice id other v w is theirs =
    subst (λ (p : View × View). Joins {S = Numbers} HoldsLedger id p.0 other p.1 (Shown (book_of v) (read_by w)) Spent) (λ i. (sym is i, sym theirs i))
    (compares_at id other (book_of v) (read_by w))
