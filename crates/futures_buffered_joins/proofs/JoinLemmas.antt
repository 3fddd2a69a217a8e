-- What one poll of a join says of what it may be ready with.
use Rattle.futures_buffered_joins.proofs.Common.{◌≡◌, ℕ, ◌+◌, ◌<◌, Bool, false, List, [], ◌∷◌, ◌++◌, length, map, get_or, set, replicate, Option, Some, None, IsSomeAnd, Ok, Err, refl, sym, ap, subst, inl, inr, arith, ◌∙◌, slice_get, FoldsTo, get_or-set_same, get_or-set_other, get_or_past, get_or-replicate, length-replicate, slice_get_within, cases_eq, cases_lt, Context, Poll, Ready, Pending, MayComeAt, WaitsOrCame, output_in, waiting_count, PlacedPollsOf, PollsPlaced}
use Rattle.std.proofs.Common.{length-set}
use Rattle.std.proofs.lemmas.Fn.{FoldsTo-push}
use Rattle.futures.specs.Poll.{IfReady}
use Rattle.futures.specs.Task.{Keeps}
use Rattle.futures_buffered_joins.specs.declared.outputs.Places.{Places}
use Rattle.futures_buffered_joins.specs.Join.{Fills, IsNewJoin, JoinGives, JoinMayGive, JoinRuleOf, JoinsByPlace, PollsJoin, PollsPending, StaysPending, join_places}
use Rattle.futures_buffered_joins.specs.JoinRule.{Outcome}
use Rattle.futures_buffered_joins.proofs.OutputsLemmas.{all_now, none_came, one_fewer, filled_in_order}

-- a join that was made over a set of these items is new, and has a place for each
pub is_new : {F Q A : Type 0} (holds : List F → Q → Type 0) (items : List F) (set : Q) (n : ℕ) (join : Option (Places Q A))
    → IsSomeAnd join (λ (places : Places Q A). (places.set ≡ set) × (places.outputs ≡ replicate n None)) → holds items set → n ≡ length items
    → IsSomeAnd join (IsNewJoin holds items) × (join_places join ≡ n)
is_new holds items set n None made held size = absurd made
is_new {Q = Q} {A = A} holds items set n (Some places) made held size = (
  record {
    waits_for = subst (λ (q : Q). holds items q) (sym made.0) held;
    none_done = made.1 ∙ ap (λ (k : ℕ). replicate {A = Option A} k None) size;
  },
  ap length made.1 ∙ length-replicate n None,
)

module _ {Q O R A E B : Type 0} (waiting : Q → List Bool) (placed : PlacedPollsOf Q O) (rule : JoinRuleOf R O A E B) where
  abbrev MayBe : Places Q A → ℕ → A → Type 0
  MayBe places = MayComeAt (λ k x. placed.may_give places.set k (rule.output_of (Ok x))) places.outputs

  abbrev MayGive : Option (Places Q A) → Outcome A E → Type 0
  MayGive = JoinMayGive placed.may_give rule.output_of

  -- of a place to which nothing came, what may be there might be there before
  same_place : (old new : Places Q A) (k : ℕ) (y : A) (o : Option A) → output_in old.outputs k ≡ o → output_in new.outputs k ≡ o
      → ((x : O) → placed.may_give new.set k x → placed.may_give old.set k x) → MayBe new k y → MayBe old k y
  same_place old new k y None was is narrows may =
      let gives : placed.may_give new.set k (rule.output_of (Ok y)) = rw is at may in
      rw was (narrows (rule.output_of (Ok y)) gives)
  same_place old new k y (Some z) was is narrows may = let done : y ≡ z = rw is at may in rw was done

  fills_same : (old new : Places Q A × Context) (i : ℕ) (x y : A) → Fills waiting placed rule old (i, x) new → MayBe new.0 i y → MayBe old.0 i y
  fills_same old new i x y h may =
      elim (cases_lt i (length old.0.outputs)) [
        | inl below ↦
            let found : output_in new.0.outputs i ≡ Some x = rw h.now_done (get_or-set_same {A = Option A} old.0.outputs i (Some x) None below) in
            let is : y ≡ x = rw found at may in
            rw h.was_waiting (subst (λ (z : A). placed.may_give old.0.set i (rule.output_of (Ok z))) (sym is) h.gave.own)
        | inr past ↦
            let none : output_in new.0.outputs i ≡ None = rw h.now_done (get_or_past {X = Option A} (set old.0.outputs i (Some x)) i None (omega (arith, past, length-set {A = Option A} old.0.outputs i (Some x)))) in
            same_place old.0 new.0 i y None h.was_waiting none (h.gave.narrows i) may
      ]

  -- an output that fills its place is one that might come there
  fills_at : (old new : Places Q A × Context) (i k : ℕ) (x y : A) → Fills waiting placed rule old (i, x) new → MayBe new.0 k y → MayBe old.0 k y
  fills_at old new i k x y h may =
      elim (cases_eq k i) [
        | inl same ↦ subst (λ (q : ℕ). MayBe old.0 q y) (sym same) (fills_same old new i x y h (subst (λ (q : ℕ). MayBe new.0 q y) same may))
        | inr other ↦
            let stays : output_in new.0.outputs k ≡ output_in old.0.outputs k = rw h.now_done (get_or-set_other {A = Option A} old.0.outputs i k (Some x) None other) in
            same_place old.0 new.0 k y (output_in old.0.outputs k) refl stays (h.gave.narrows k) may
      ]

  fills_back : (old new : Places Q A × Context) (i : ℕ) (x : A) → Fills waiting placed rule old (i, x) new → (r : Outcome A E) → MayGive (Some new.0) r → MayGive (Some old.0) r
  fills_back old new i x h (Ok all) may = record {
    as_many = may.as_many ∙ (ap length h.now_done ∙ length-set {A = Option A} old.0.outputs i (Some x));
    each = λ k y got. fills_at old new i k x y h (may.each k y got);
  }
  fills_back old new i x h (Err e) may = (may.0, h.gave.narrows may.0 (rule.output_of (Err e)) may.1)

  -- a row of outputs adds nothing to what may be given
  row_back : (row : List (ℕ × A)) (old before : Places Q A × Context) → FoldsTo (Fills waiting placed rule) old row before → (r : Outcome A E) → MayGive (Some before.0) r → MayGive (Some old.0) r
  row_back [] old before ran r may = subst (λ (w : Places Q A × Context). MayGive (Some w.0) r) (sym ran) may
  row_back ((i, x) ∷ row) old before ran r may = fills_back old ran.0 i x ran.1 r (row_back row ran.0 before ran.2 r may)

  -- nor does a pending poll
  waits_back : (before new : Places Q A) (cx left : Context) → PollsPending waiting placed rule before new cx left → (r : Outcome A E) → MayGive (Some new) r → MayGive (Some before) r
  waits_back before new cx left h (Ok all) may = record {
    as_many = may.as_many ∙ ap length h.same_outputs;
    each = λ k y got. same_place before new k y (output_in before.outputs k) refl (ap (λ (outputs : List (Option A)). output_in outputs k) h.same_outputs) (h.is_pending.narrows k) (may.each k y got);
  }
  waits_back before new cx left h (Err e) may = (may.0, h.is_pending.narrows may.0 (rule.output_of (Err e)) may.1)

  ready_value : (old new : Option (Places Q A)) (answer : Poll (Outcome A E)) (cx left : Context) → JoinGives waiting placed rule old answer new cx left → IfReady answer (MayGive old)
  ready_value None new (Ready (Ok outputs)) cx left h = h.0
  ready_value None new (Ready (Err e)) cx left h = absurd h
  ready_value None new Pending cx left h = absurd h
  ready_value (Some old) new (Ready (Ok outputs)) cx left h =
      row_back h.row (old, cx) (h.before, h.between) h.filled (Ok outputs) (all_now (λ k x. placed.may_give h.before.set k (rule.output_of (Ok x))) h.before.outputs outputs h.ended.1)
  ready_value (Some old) new (Ready (Err e)) cx left h = row_back h.row (old, cx) (h.before, h.between) h.filled (Err e) (h.ended.0.0, h.ended.0.2.own)
  ready_value (Some old) new Pending cx left h = tt

  pending_back : (old new : Places Q A) (cx left : Context) → JoinGives waiting placed rule (Some old) Pending (Some new) cx left → (r : Outcome A E) → MayGive (Some new) r → MayGive (Some old) r
  pending_back old new cx left h r may = row_back h.row (old, cx) (h.before, h.between) h.filled r (waits_back h.before new h.between left h.ended r may)

  later_back : (later : List (Places Q A)) (first last : Places Q A) → FoldsTo (StaysPending waiting placed rule) first later last → (r : Outcome A E) → MayGive (Some last) r → MayGive (Some first) r
  later_back [] first last ran r may = subst (λ (w : Places Q A). MayGive (Some w) r) (sym ran) may
  later_back (left ∷ later) first last ran r may =
      let stays = ran.1 in
      pending_back first left stays.0 stays.1 stays.2 r (subst (λ (w : Places Q A). MayGive (Some w) r) stays.3 (later_back later ran.0 last ran.2 r may))

  -- if what may come at place k of a new set, item k may give, then it is so of a join
  pub joins_by_place : {F : Type 0} (holds : List F → Q → Type 0) (item_gives : ℕ → F → O → Type 0)
      → ((items : List F) (set : Q) → holds items set → (k : ℕ) (item : F) (x : O) → slice_get items k ≡ Some item → placed.may_give set k x → item_gives k item x)
      → JoinsByPlace waiting placed rule holds item_gives
  joins_by_place holds item_gives own items first last later outputs new ran may =
      let all = later_back later first last ran (Ok outputs) may in
      record {
        as_many = all.as_many ∙ (ap length new.none_done ∙ length-replicate (length items) None);
        each = λ k item x of_item got.
            let none : output_in first.outputs k ≡ None = rw new.none_done (get_or-replicate {A = Option A} (length items) k None None (slice_get_within items k item of_item)) in
            let gives : placed.may_give first.set k (rule.output_of (Ok x)) = rw none at (all.each k x got) in
            own items first.set new.waits_for k item (rule.output_of (Ok x)) of_item gives;
      }

  -- some outputs came and filled their places, which took the join from old to now and the task from start to cx
  pub record Filling (old : Places Q A) (start : Context) (now : Places Q A) (cx : Context) : Type 0 where
    pub row : List (ℕ × A)
    pub filled : FoldsTo (Fills waiting placed rule) (old, start) row (now, cx)
    pub in_order : WaitsOrCame (waiting now.set) now.outputs
    pub held : placed.can_poll now.set
    pub kept : Keeps start cx

  pub begins : (old : Places Q A) (cx : Context) → WaitsOrCame (waiting old.set) old.outputs → placed.can_poll old.set → Filling old cx old cx
  begins old cx in_order held = record { row = []; filled = refl; in_order = in_order; held = held; kept = λ fact h. h }

  -- an output has come at a place of the join, and one future fewer waits
  pub place_there : (old now : Places Q A) (after : Q) (start cx left : Context) (place : ℕ) (output : O) → Filling old start now cx
      → PollsPlaced waiting placed now.set (Ready (place, output)) after cx left
      → ((place < length now.outputs) × (output_in now.outputs place ≡ None))
      × (waiting_count (waiting after) + 1 ≡ waiting_count (waiting now.set))
  place_there old now after start cx left place output so gave = (
    none_came now.outputs place (sym (ap (λ (places : List Bool). get_or places place false) so.in_order) ∙ gave.frees.0),
    ap (λ (places : List Bool). waiting_count places + 1) gave.frees.1 ∙ one_fewer (waiting now.set) place gave.frees.0,
  )

  -- one more output fills its place
  pub fills : (old now : Places Q A) (after : Q) (start cx left : Context) (place : ℕ) (output : O) (kept : A) → Filling old start now cx
      → PollsPlaced waiting placed now.set (Ready (place, output)) after cx left → rule.output_of (Ok kept) ≡ output
      → Filling old start (record { set = after; outputs = set now.outputs place (Some kept) }) left
  fills old now after start cx left place output kept so gave of =
      record {
        row = so.row ++ (place, kept) ∷ [];
        filled = FoldsTo-push (Fills waiting placed rule) (old, start) so.row (now, cx) (place, kept) (record { set = after; outputs = set now.outputs place (Some kept) }, left) so.filled (record {
          gave = subst (λ (o : O). PollsPlaced waiting placed now.set (Ready (place, o)) after cx left) (sym of) gave;
          was_waiting = (none_came now.outputs place (sym (ap (λ (places : List Bool). get_or places place false) so.in_order) ∙ gave.frees.0)).1;
          now_done = refl;
        });
        in_order = filled_in_order (waiting now.set) (waiting after) now.outputs place kept so.in_order gave.frees.1;
        held = gave.again;
        kept = λ fact h. gave.kept fact (so.kept fact h);
      }

  ready : (old : Option (Places Q A)) (answer : B) (outcome : Outcome A E) (cx left : Context) → rule.seen answer ≡ outcome → JoinGives waiting placed rule old (Ready outcome) None cx left → Keeps cx left → PollsJoin waiting placed rule old (Ready answer) None cx left
  ready old answer outcome cx left shows gives kept =
      let gave = subst (λ (r : Outcome A E). JoinGives waiting placed rule old (Ready r) None cx left) (sym shows) gives in
      record { gave = gave; value = ready_value old None (Ready (rule.seen answer)) cx left gave; ended = refl; same = tt; registered = tt; kept = kept; again = tt; places = tt }

  -- no future is left
  pub all_filled : (old now : Places Q A) (answer : B) (outputs : List A) (start cx : Context) → Filling old start now cx → waiting_count (waiting now.set) ≡ 0 → now.outputs ≡ map Some outputs → rule.seen answer ≡ Ok outputs
      → PollsJoin waiting placed rule (Some old) (Ready answer) None start cx
  all_filled old now answer outputs start cx so none all shows =
      ready (Some old) answer (Ok outputs) start cx shows (record { row = so.row; before = now; between = cx; filled = so.filled; ended = (none, all, refl, refl) }) so.kept

  -- an output ends the join
  pub one_failed : (old now : Places Q A) (after : Q) (answer : B) (place : ℕ) (output : O) (e : E) (start cx left : Context) → Filling old start now cx
      → PollsPlaced waiting placed now.set (Ready (place, output)) after cx left → rule.output_of (Err e) ≡ output → rule.seen answer ≡ Err e
      → PollsJoin waiting placed rule (Some old) (Ready answer) None start left
  one_failed old now after answer place output e start cx left so gave of shows =
      ready (Some old) answer (Err e) start left shows
      (record { row = so.row; before = now; between = cx; filled = so.filled; ended = ((place, after, subst (λ (o : O). PollsPlaced waiting placed now.set (Ready (place, o)) after cx left) (sym of) gave), refl) })
      (λ fact h. gave.kept fact (so.kept fact h))

  -- the set is pending
  pub one_pending : (old now : Places Q A) (after : Q) (start cx left : Context) → Filling old start now cx → 0 < waiting_count (waiting now.set) → PollsPlaced waiting placed now.set Pending after cx left
      → PollsJoin waiting placed rule (Some old) Pending (Some (record { set = after; outputs = now.outputs })) start left
  one_pending old now after start cx left so some gave =
      let new : Places Q A = record { set = after; outputs = now.outputs } in
      let gives : JoinGives waiting placed rule (Some old) Pending (Some new) start left = record { row = so.row; before = now; between = cx; filled = so.filled; ended = record { some_waiting = some; is_pending = gave; same_outputs = refl } } in
      record {
        gave = gives;
        value = tt;
        ended = tt;
        same = pending_back old new start left gives;
        registered = gave.registered;
        kept = λ fact h. gave.kept fact (so.kept fact h);
        again = gave.again;
        places = gave.frees ∙ so.in_order;
      }
