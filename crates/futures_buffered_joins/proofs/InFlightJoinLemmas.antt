-- What a poll of a set in flight says of the places of a join.
use Rattle.futures_buffered_joins.proofs.Common.{◌≡◌, ℕ, Bool, List, [], ◌∷◌, length, map, replicate, Option, Some, None, is_some, true, cond, refl, sym, ap, subst, inl, inr, arith, ◌∙◌, count_by, map-set, sum_by-cons, count_by-le-length, cases_eq, Context, Ready, Pending, Slots, value_in, slot_count, with_slot_freed, None-Some, value_in-with_slot_freed, value_in-with_slot_freed_other, FutureOf, Flights, CanPollAll, FliesInOrder, FlightsWaitAt, PollsInFlight, SlotGives, PlacedPollsOf, PollsPlaced, FlightsGive, flights_waiting}
use Rattle.futures_buffered_in_flight.specs.declared.in_flight.Came.{Came}
use Rattle.futures_buffered_in_flight.specs.declared.in_flight.Place.{Place}
use Rattle.futures_buffered_joins.proofs.SlotsJoinLemmas.{waits_at}

-- if as many are counted as there are, each is there
all_counted : {P : Type 0} (places : List (Option P)) → count_by is_some places ≡ length places → map is_some places ≡ replicate (length places) true
all_counted [] same = refl
all_counted (None ∷ places) same = absurd (let most = count_by-le-length is_some places in omega (arith, same, most, sum_by-cons (λ (o : Option _). cond (is_some o) 1 0) None places))
all_counted (Some x ∷ places) same = ap (λ (waiting : List Bool). true ∷ waiting) (all_counted places (omega (arith, same, sum_by-cons (λ (o : Option _). cond (is_some o) 1 0) (Some x) places)))

module _ {F O : Type 0} (future : FutureOf F O) where
  -- at each place of a new join its future waits
  pub all_fly : (items : List F) (held : Flights F (Unit {0})) → FliesInOrder future items held → flights_waiting held ≡ replicate (slot_count held.slots) true
  all_fly items held holds = all_counted held.slots.places (holds.all_wait ∙ sym holds.as_many)

  -- what a join sees of the set
  abbrev pub placed : PlacedPollsOf (Flights F (Unit {0})) O
  placed = record { can_poll = CanPollAll future; gives = FlightsGive future; needs = FlightsWaitAt; may_give = SlotGives future }

  pub output_came : (old new : Flights F (Unit {0})) (came : Came O (Unit {0})) (cx left : Context) → PollsInFlight future old (Ready (Some came)) new cx left → PollsPlaced flights_waiting placed old (Ready (came.key.slot, came.output)) new cx left
  output_came old new came cx left h =
      record {
        gave = (came.key.push, h);
        frees = (waits_at old.slots.places came.key.slot ∙ ap is_some h.gave.was_held, ap (λ (s : Slots (Place (Unit {0}))). map is_some s.places) h.gave.freed ∙ map-set is_some old.slots.places came.key.slot None);
        own = (record { tag = came.tag; push = came.key.push }, h.gave.was_held, h.gave.gave);
        narrows = λ k x may.
            let holds = subst (λ (s : Slots (Place (Unit {0}))). value_in s k ≡ Some may.0) h.gave.freed may.1 in
            elim (cases_eq k came.key.slot) [
              | inl same ↦ absurd (None-Some (sym (value_in-with_slot_freed old.slots came.key.slot) ∙ subst (λ (q : ℕ). value_in (with_slot_freed old.slots came.key.slot) q ≡ Some may.0) same holds))
              | inr other ↦ (may.0, sym (value_in-with_slot_freed_other old.slots came.key.slot k other) ∙ holds, h.narrows _ may.2)
            ];
        registered = tt;
        kept = h.kept;
        again = h.again;
      }

  pub nothing_came : (old new : Flights F (Unit {0})) (cx left : Context) → PollsInFlight future old Pending new cx left → PollsPlaced flights_waiting placed old Pending new cx left
  nothing_came old new cx left h =
      record {
        gave = h;
        frees = ap (λ (s : Slots (Place (Unit {0}))). map is_some s.places) h.gave.1;
        own = tt;
        narrows = λ k x may. (may.0, subst (λ (s : Slots (Place (Unit {0}))). value_in s k ≡ Some may.0) h.gave.1 may.1, h.narrows _ may.2);
        registered = h.registered;
        kept = h.kept;
        again = h.again;
      }
