-- From one round of a merge to a poll of it.
use Rattle.futures_buffered_unordered.proofs.Common.{◌≡◌, ◌⊎◌, ◌+◌, ℕ, List, [], ◌∷◌, Option, Some, None, true, ◌<◌, refl, sym, ap, subst, inl, arith, ◌∙◌, FoldsTo, Context, Poll, Ready, Pending, Slots, slot_count, with_slot_freed, Woke, Bounded, IsWoken, held_in, AllHeld, ReadySourceOf, RegistersAndTakes, unless_registered, LastRound, PollsMergeBounded, RoundEnds, SlotStreamOf, each_stream}
use Rattle.futures_buffered_unordered.proofs.PollsBoundedLemmas.{output_leaves, pending_leaves}

-- two sets that differ in their source alone
same_but_source : {F S : Type 0} (left new : Bounded F S) → new.slots ≡ left.slots → new.limit ≡ left.limit → new ≡ record left { source = new.source }
same_but_source {F} {S} left new slots limit =
    ap (λ (m : Slots F). record { slots = m; source = new.source; limit = new.limit }) slots ∙ ap (λ (n : ℕ). record { slots = left.slots; source = new.source; limit = n }) limit

module _ {St W A S : Type 0} (stream : SlotStreamOf St W A) (source : ReadySourceOf S W) where
  -- where no stream is held
  pub polls_none : (old : Bounded St S) (cx : Context) → held_in old ≡ 0 → AllHeld stream.can_poll old.slots → PollsMergeBounded stream source old (Ready None) old cx cx
  polls_none old cx none pollable =
      record {
        ended = [];
        before = old;
        task_then = cx;
        rounds = refl;
        last_round = (none, refl, refl);
        fewer = omega arith;
        item = tt;
        pending = tt;
        ends = none;
        capacity = refl;
        limit = refl;
        covered = tt;
        kept = λ fact h. h;
        pollable = pollable;
      }

  -- a poll that goes on from `new` and `left` is one from `old` and `cx`
  abbrev pub GoesOn : Bounded St S → Context → Bounded St S → Context → Type 0
  GoesOn old cx new left = (answer : Poll (Option A)) (last : Bounded St S) (after : Context) → PollsMergeBounded stream source new answer last left after → PollsMergeBounded stream source old answer last cx after

  module _ (old : Bounded St S) (cx left : Context) (some : 0 < held_in old) where
    -- the round gave an item
    pub polls_item : (before new : Bounded St S) (i : ℕ) (x : A) (woke : Woke) → RegistersAndTakes (each_stream stream) source old (Ready (i, Some x)) before cx left → source.marks before.source i woke new.source → new.slots ≡ before.slots → new.limit ≡ before.limit → PollsMergeBounded stream source old (Ready (Some x)) new cx left
    polls_item before new i x woke asks marked slots limit =
        let it = asks.takes in
        rw (same_but_source before new slots limit) (record {
          ended = [];
          before = old;
          task_then = cx;
          rounds = refl;
          last_round = (some, (i, before, asks, (woke, marked), refl));
          fewer = omega (arith, it.count);
          item = omega (arith, it.count, some);
          pending = tt;
          ends = tt;
          capacity = it.capacity;
          limit = it.limit;
          covered = tt;
          kept = asks.kept;
          pollable = it.continues refl;
        })

    -- the round is pending
    pub polls_pending : (new : Bounded St S) → RegistersAndTakes (each_stream stream) source old Pending new cx left → PollsMergeBounded stream source old Pending new cx left
    polls_pending new asks =
        let it = asks.takes in
        record {
          ended = [];
          before = old;
          task_then = cx;
          rounds = refl;
          last_round = (some, asks);
          fewer = omega (arith, it.count);
          item = tt;
          pending = omega (arith, it.count, some);
          ends = tt;
          capacity = it.capacity;
          limit = it.limit;
          covered = it.covered;
          kept = asks.kept;
          pollable = it.pollable;
        }

    -- the round ended a stream
    pub round_ends : (before new : Bounded St S) (i : ℕ) → RegistersAndTakes (each_stream stream) source old (Ready (i, None)) before cx left → new ≡ record before { slots = with_slot_freed before.slots i } → held_in new + 1 ≡ held_in before → slot_count new.slots ≡ slot_count before.slots → GoesOn old cx new left
    round_ends before new i asks emptied one capacity answer last after p =
        let it = asks.takes in
        record {
          ended = i ∷ p.ended;
          before = p.before;
          task_then = p.task_then;
          rounds = ((new, left), (some, (before, asks, emptied)), p.rounds);
          last_round = p.last_round;
          fewer = omega (arith, p.fewer, one, it.count);
          item = p.item;
          pending = p.pending;
          ends = p.ends;
          capacity = p.capacity ∙ capacity ∙ it.capacity;
          limit = p.limit ∙ ap (λ (b : Bounded St S). b.limit) emptied ∙ it.limit;
          covered = p.covered;
          kept = λ fact h. p.kept fact (asks.kept fact h);
          pollable = p.pollable;
        }

-- a poll of a merge whose task is registered already leaves the task, or wakes it
module _ {St W A S : Type 0} (stream : SlotStreamOf St W A) (source : ReadySourceOf S W) where
  rounds_leave : (ended : List ℕ) (old new : Bounded St S) (cx left : Context) → FoldsTo (RoundEnds stream (unless_registered true source)) (old, cx) ended (new, left) → left ≡ cx
  rounds_leave [] old new cx left h = ap (λ (p : Bounded St S × Context). p.1) (sym h)
  rounds_leave (i ∷ ended) old new cx left ((mid, then), (some, (before, asks, freed)), rounds) = rounds_leave ended mid new then left rounds ∙ output_leaves (each_stream stream) source old before cx then i None asks

  last_leaves : (old new : Bounded St S) (answer : Poll (Option A)) (cx left : Context) → LastRound stream (unless_registered true source) old answer new cx left → (left ≡ cx) ⊎ IsWoken left
  last_leaves old new (Ready None) cx left h = inl h.2
  last_leaves old new (Ready (Some x)) cx left (some, (i, before, asks, marked, same)) = inl (output_leaves (each_stream stream) source old before cx left i (Some x) asks)
  last_leaves old new Pending cx left h = pending_leaves (each_stream stream) source old new cx left h.1

  pub merged_leaves : (old new : Bounded St S) (answer : Poll (Option A)) (cx left : Context) → PollsMergeBounded stream (unless_registered true source) old answer new cx left → (left ≡ cx) ⊎ IsWoken left
  merged_leaves old new answer cx left it = subst (λ (task : Context). (left ≡ task) ⊎ IsWoken left) (rounds_leave it.ended old it.before cx it.task_then it.rounds) (last_leaves it.before new answer it.task_then left it.last_round)
