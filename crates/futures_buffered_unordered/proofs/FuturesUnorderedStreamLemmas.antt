-- What a set's poll keeps of each group that it asks, what may come from the set, and the set as a stream.
use Rattle.futures_buffered_unordered.proofs.Common.{◌≡◌, Bool, true, false, ◌+◌, ◌<◌, ◌↔◌, [], length, Option, Some, None, IfSome, refl, sym, subst, arith, IfReady, OnPending, After, Within, Covers, Context, Poll, Ready, Pending, WaitsAlike, Taken, AnyMayGive, Bounded, held_in, AsksInTurn, Groups, outputs_in, AnyNeeds, EachHeld, Growing, held_in_all, PollOneOf, PollsBounded, ReadySourceOf, unless_registered, StreamAnswers, stream_of, KeepsGroup, AnyGroupMayGive, ComesFromGroups}
use Rattle.futures_buffered_unordered.proofs.HeldGivesLemmas.{Gathers-Within, Gathers-After}
use Rattle.futures_buffered_unordered.proofs.FuturesUnorderedBoundedLemmas.{poll_counted, poll_pending_holds, poll_end_is_empty, poll_gave, poll_still}
use Rattle.futures_buffered_unordered.specs.PollsGrowing.{PollsGroups, PollsGrowing}
use Rattle.futures_buffered_unordered.proofs.FuturesUnorderedInvariantLemmas.{alike_asked, alike_self}
use Rattle.futures_buffered_unordered.proofs.GroupsLemmas.{Weighs, turns_any, turns_output, turns_sum, turns_weigh}
use Rattle.futures_buffered_unordered.proofs.FuturesUnorderedLemmas.{covered_of}
use Rattle.futures_buffered_unordered.proofs.StreamAnswersLemmas.{answers_of}

module _ {R F W A S : Type 0} (rule : PollOneOf R F W A) (source : ReadySourceOf S W)
    (register_waits : (old new : S) → source.steps.registers old new → WaitsAlike source.needs old new) (take_waits : (old : S) (taken : Taken) (new : S) → source.steps.takes old taken new → WaitsAlike source.needs old new) where
  -- a poll leaves the source at the same places
  alike_polled : (old new : Bounded F S) (answer : Poll (Option A)) (cx left : Context) → PollsBounded rule source old answer new cx left → WaitsAlike source.needs old.source new.source
  alike_polled old new (Ready None) cx left it = subst (λ (b : Bounded F S). WaitsAlike source.needs old.source b.source) (sym it.gave.1) (alike_self source.needs old.source)
  alike_polled old new (Ready (Some x)) cx left it = subst (λ (b : Bounded F S). WaitsAlike source.needs old.source b.source) (sym it.gave.1.3) (alike_asked rule source register_waits take_waits _ _ _ _ _ it.gave.1.2)
  alike_polled old new Pending cx left it = alike_asked rule source register_waits take_waits _ _ _ _ _ it.gave.1

  -- what a poll keeps of a group
  pub keeps_polled : (old new : Bounded F S) (answer : Poll (Option A)) (cx left : Context) → PollsBounded rule source old answer new cx left → KeepsGroup source.needs old answer new
  keeps_polled old new answer cx left it =
      let holds = poll_pending_holds rule source old new cx left in
      let empty = poll_end_is_empty rule source old new cx left in
      record { fewer = omega (arith, poll_counted rule source old new answer cx left it); pending_holds = grind arith; ended_is_empty = grind arith; same_kind = record { same_slots = it.capacity; same_limit = it.limit; waits = alike_polled old new answer cx left it } }

-- a registration, or none, leaves the source at the same places
pub unless_waits : {S W : Type 0} (source : ReadySourceOf S W) (b : Bool) → ((old new : S) → source.steps.registers old new → WaitsAlike source.needs old new) → (old new : S) → (unless_registered b source).steps.registers old new → WaitsAlike source.needs old new
unless_waits {S} source true waits old new same = subst (λ (s : S). WaitsAlike source.needs old s) (sym same) (alike_self source.needs old)
unless_waits source false waits old new registers = waits old new registers

module _ {R F W A S : Type 0} (rule : PollOneOf R F W A) (source : ReadySourceOf S W) where
  -- how a set polls a group
  abbrev pub PollsOneGroup : Bool → Bounded F S → Poll (Option A) → Bounded F S → Context → Context → Type 0
  PollsOneGroup is_registered = PollsBounded rule (unless_registered is_registered source)

  counted : (b : Bool) (old new : Bounded F S) (answer : Poll (Option A)) (cx left : Context) → PollsOneGroup b old answer new cx left → held_in new + outputs_in answer ≡ held_in old
  counted b = poll_counted rule (unless_registered b source)

  pending_holds : (b : Bool) (old new : Bounded F S) (cx left : Context) → PollsOneGroup b old Pending new cx left → 0 < held_in new
  pending_holds b = poll_pending_holds rule (unless_registered b source)

  ended_empty : (b : Bool) (old new : Bounded F S) (cx left : Context) → PollsOneGroup b old (Ready None) new cx left → held_in new ≡ 0
  ended_empty b = poll_end_is_empty rule (unless_registered b source)

  module _ (old new : Groups (Bounded F S)) (cx left : Context) where
    -- one poll of the groups
    abbrev pub PollsTurns : Poll (Option A) → Type 0
    PollsTurns answer = AsksInTurn PollsOneGroup (length old.listed) false old answer new cx left

    -- as many futures as before, except that of an output
    count_of : (answer : Poll (Option A)) → PollsTurns answer → held_in_all new.listed + outputs_in answer ≡ held_in_all old.listed
    count_of answer h = turns_sum PollsOneGroup held_in outputs_in counted ended_empty refl refl _ _ old answer new cx left h

    left_of : (answer : Poll (Option A)) → PollsTurns answer → Weighs {A = A} PollsOneGroup held_in ended_empty pending_holds answer (held_in_all new.listed)
    left_of answer h = turns_weigh PollsOneGroup held_in ended_empty pending_holds old answer new cx left h

    held_of : (answer : Poll (Option A)) → PollsTurns answer → OnPending answer (0 < held_in_all new.listed)
    held_of (Ready o) h = tt
    held_of Pending h = left_of Pending h

    -- the answer is the end where no future was held
    ends_of : (answer : Poll (Option A)) → PollsTurns answer → (answer ≡ Ready None) ↔ (held_in_all old.listed ≡ 0)
    ends_of (Ready None) h = (λ _. omega (arith, count_of (Ready None) h, left_of (Ready None) h), λ _. refl)
    ends_of (Ready (Some x)) h = (λ e. absurd (cc e), λ none. absurd (omega (arith, none, count_of (Ready (Some x)) h)))
    ends_of Pending h = (λ e. absurd (cc e), λ none. absurd (omega (arith, none, count_of Pending h, left_of Pending h)))

    pub still : (answer : Poll (Option A)) → PollsTurns answer → (y : A) → AnyGroupMayGive rule.polled new.listed y → AnyGroupMayGive rule.polled old.listed y
    still answer h y any =
        turns_any PollsOneGroup (λ (g : Bounded F S). AnyMayGive rule.polled g.slots y) (λ b group after a c d asked. poll_still rule (unless_registered b source) group after y a c d asked) _ _ old answer new cx left h any

    pub gave : (x : A) → PollsTurns (Ready (Some x)) → AnyGroupMayGive rule.polled old.listed x
    gave x h =
        turns_output PollsOneGroup (λ (g : Bounded F S). AnyMayGive rule.polled g.slots x) (λ b group after a c d asked. poll_still rule (unless_registered b source) group after x a c d asked) x (λ b group after c d asked. poll_gave rule (unless_registered b source) group after x c d asked) _ _ old new cx left h

    pub value_of : (answer : Poll (Option A)) → PollsTurns answer → IfReady answer (ComesFromGroups rule.polled old.listed [])
    value_of (Ready None) h = record { each = tt; ends = sym ((ends_of (Ready None) h).0 refl) }
    value_of (Ready (Some x)) h = record { each = tt; ends = (gave x h, omega (arith, count_of (Ready (Some x)) h)) }
    value_of Pending h = tt

    pub rest_of : (answer : Poll (Option A)) → PollsTurns answer → IfReady answer (λ o. IfSome o (λ x. After (ComesFromGroups rule.polled old.listed) x (ComesFromGroups rule.polled new.listed)))
    rest_of (Ready None) h = tt
    rest_of (Ready (Some x)) h = Gathers-After {A = A} {P = AnyGroupMayGive rule.polled old.listed} {Q = AnyGroupMayGive rule.polled new.listed} (still (Ready (Some x)) h) _ _ x (count_of (Ready (Some x)) h) (gave x h)
    rest_of Pending h = tt

    pub same_of : (answer : Poll (Option A)) → PollsTurns answer → OnPending answer (Within (ComesFromGroups rule.polled old.listed) (ComesFromGroups rule.polled new.listed))
    same_of (Ready o) h = tt
    same_of Pending h = Gathers-Within {A = A} {P = AnyGroupMayGive rule.polled old.listed} {Q = AnyGroupMayGive rule.polled new.listed} (still Pending h) _ _ (omega (arith, count_of Pending h))

  -- what `futures` asks of a poll of the set
  pub answers_as_stream : (old new : Growing F S) (answer : Poll (Option A)) (cx left : Context) → PollsGrowing rule source old answer new cx left
      → StreamAnswers (stream_of (λ set. EachHeld rule.can_poll set.groups.listed) (λ set. AnyNeeds source.needs set.groups.listed) (λ set. ComesFromGroups rule.polled set.groups.listed)) old answer new cx left
  answers_as_stream old new answer cx left it =
      let gave = it.groups.gave in
      answers_of _ old new answer cx left (value_of _ _ cx left answer gave) (rest_of _ _ cx left answer gave) (same_of _ _ cx left answer gave) it.groups.pollable it.registered it.groups.kept

  -- a poll of the groups, each polled as a bounded set is, is a poll of the set
  pub polls_growing : (old new : Growing F S) (answer : Poll (Option A)) (cx left : Context) → PollsGroups rule.can_poll PollsOneGroup source.needs old answer new cx left → PollsGrowing rule source old answer new cx left
  polls_growing old new answer cx left polls =
      let gave = polls.gave in
      record {
        groups = polls;
        ends = ends_of _ _ cx left answer gave;
        count = count_of _ _ cx left answer gave;
        registered = covered_of source.needs left answer new.groups.listed polls.covered (held_of _ _ cx left answer gave);
      }
