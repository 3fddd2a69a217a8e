-- What one poll makes of the groups of a merge.
use Rattle.futures_buffered_unordered.proofs.Common.{◌≡◌, ℕ, Bool, false, ◌<◌, ◌↔◌, List, [], ◌∷◌, length, Option, Some, None, IfSome, refl, sym, subst, arith, FoldsTo, IfReady, OnPending, After, Within, Context, Poll, Ready, Pending, WaitsAlike, Taken, Woke, Bounded, held_in, AnyOf, AsksInTurn, Groups, held_in_all, ReadySourceOf, unless_registered, LastRound, PollsMergeBounded, RoundEnds, SlotStreamOf, each_stream, GroupMayGive, ItemsComeFromGroups}
use Rattle.futures_buffered_unordered.proofs.FuturesUnorderedInvariantLemmas.{alike_asked, alike_on, alike_self}
use Rattle.futures_buffered_unordered.proofs.GroupsLemmas.{Weighs, output_weighs, turns_any, turns_output, turns_weigh}
use Rattle.futures_buffered_unordered.proofs.MergeBoundedLemmas.{value_of, rest_of, same_of, ended_of}

module _ {St W A S : Type 0} (stream : SlotStreamOf St W A) (source : ReadySourceOf S W)
    (register_waits : (old new : S) → source.steps.registers old new → WaitsAlike source.needs old new) (mark_waits : (old : S) (i : ℕ) (woke : Woke) (new : S) → source.marks old i woke new → WaitsAlike source.needs old new) (take_waits : (old : S) (taken : Taken) (new : S) → source.steps.takes old taken new → WaitsAlike source.needs old new) where
  alike_rounds : (ended : List ℕ) (old new : Bounded St S) (cx left : Context) → FoldsTo (RoundEnds stream source) (old, cx) ended (new, left) → WaitsAlike source.needs old.source new.source
  alike_rounds [] old new cx left h = subst (λ (p : Bounded St S × Context). WaitsAlike source.needs old.source p.0.source) h (alike_self source.needs old.source)
  alike_rounds (i ∷ ended) old new cx left ((mid, then), (some, (before, asks, freed)), rounds) =
      let here = subst (λ (b : Bounded St S). WaitsAlike source.needs old.source b.source) (sym freed) (alike_asked (each_stream stream) source register_waits take_waits old before _ cx then asks) in
      alike_on source.needs old.source mid.source new.source here (alike_rounds ended mid new then left rounds)

  alike_last : (old new : Bounded St S) (answer : Poll (Option A)) (cx left : Context) → LastRound stream source old answer new cx left → WaitsAlike source.needs old.source new.source
  alike_last old new (Ready None) cx left h = subst (λ (b : Bounded St S). WaitsAlike source.needs old.source b.source) (sym h.1) (alike_self source.needs old.source)
  alike_last old new (Ready (Some x)) cx left (some, (i, before, asks, marked, same)) =
      alike_on source.needs old.source before.source new.source (alike_asked (each_stream stream) source register_waits take_waits old before _ cx left asks) (mark_waits before.source i marked.0 new.source marked.1)
  alike_last old new Pending cx left h = alike_asked (each_stream stream) source register_waits take_waits old new Pending cx left h.1

  -- a poll leaves the source at the same places
  pub alike_merged : (old new : Bounded St S) (answer : Poll (Option A)) (cx left : Context) → PollsMergeBounded stream source old answer new cx left → WaitsAlike source.needs old.source new.source
  alike_merged old new answer cx left it = alike_on source.needs old.source it.before.source new.source (alike_rounds it.ended old it.before cx it.task_then it.rounds) (alike_last it.before new answer it.task_then left it.last_round)

module _ {St W A S : Type 0} (stream : SlotStreamOf St W A) (source : ReadySourceOf S W) where
  -- how a merge polls a group
  abbrev pub PollsOneMerge : Bool → Bounded St S → Poll (Option A) → Bounded St S → Context → Context → Type 0
  PollsOneMerge is_registered = PollsMergeBounded stream (unless_registered is_registered source)

  -- what a group holds, by its answer
  pending_held : (b : Bool) (old new : Bounded St S) (cx left : Context) → PollsOneMerge b old Pending new cx left → 0 < held_in new
  pending_held b old new cx left it = it.pending

  end_held : (b : Bool) (old new : Bounded St S) (cx left : Context) → PollsOneMerge b old (Ready None) new cx left → held_in new ≡ 0
  end_held b old new cx left it = it.ends

  -- the items that may come
  group_left : (y : A) (b : Bool) (group left : Bounded St S) (answer : Poll (Option A)) (cx after : Context) → PollsOneMerge b group answer left cx after → GroupMayGive stream.polled left y → GroupMayGive stream.polled group y
  group_left y b group left (Ready (Some x)) cx after it may = (x ∷ may.0, rest_of stream (unless_registered b source) group left cx after (Ready (Some x)) it may.0 (Some y) may.1)
  group_left y b group left (Ready None) cx after it may = (may.0, ended_of stream (unless_registered b source) group left cx after it may.0 (Some y) may.1)
  group_left y b group left Pending cx after it may = (may.0, same_of stream (unless_registered b source) group left cx after Pending it may.0 (Some y) may.1)

  module _ (old new : Groups (Bounded St S)) (cx left : Context) where
    -- one poll of the groups
    abbrev pub MergesTurns : Poll (Option A) → Type 0
    MergesTurns answer = AsksInTurn PollsOneMerge (length old.listed) false old answer new cx left

    left_of : (answer : Poll (Option A)) → MergesTurns answer → Weighs {A = A} PollsOneMerge held_in end_held pending_held answer (held_in_all new.listed)
    left_of answer h = turns_weigh PollsOneMerge held_in end_held pending_held old answer new cx left h

    pub held_of : (answer : Poll (Option A)) → MergesTurns answer → OnPending answer (0 < held_in_all new.listed)
    held_of (Ready o) h = tt
    held_of Pending h = left_of Pending h

    -- the answer is the end where no stream is left
    pub ends_of : (answer : Poll (Option A)) → MergesTurns answer → (answer ≡ Ready None) ↔ (held_in_all new.listed ≡ 0)
    ends_of (Ready None) h = (λ _. left_of (Ready None) h, λ _. refl)
    ends_of (Ready (Some x)) h =
        let some = output_weighs PollsOneMerge held_in end_held pending_held x (λ b group after c d it. it.item) _ _ old new cx left h in
        (λ e. absurd (cc e), λ none. absurd (omega (arith, none, some)))
    ends_of Pending h = (λ e. absurd (cc e), λ none. absurd (omega (arith, none, left_of Pending h)))

    still : (answer : Poll (Option A)) → MergesTurns answer → (y : A) → AnyOf (λ (g : Bounded St S). GroupMayGive stream.polled g y) new.listed → AnyOf (λ (g : Bounded St S). GroupMayGive stream.polled g y) old.listed
    still answer h y any = turns_any PollsOneMerge (λ (g : Bounded St S). GroupMayGive stream.polled g y) (group_left y) _ _ old answer new cx left h any

    pub group_value : (answer : Poll (Option A)) → MergesTurns answer → IfReady answer (ItemsComeFromGroups stream.polled old.listed [])
    group_value (Ready None) h = tt
    group_value (Ready (Some x)) h =
        turns_output PollsOneMerge (λ (g : Bounded St S). GroupMayGive stream.polled g x) (group_left x) x (λ b group after c d it. ([], value_of stream (unless_registered b source) group after c d (Ready (Some x)) it)) _ _ old new cx left h
    group_value Pending h = tt

    pub group_rest : (answer : Poll (Option A)) → MergesTurns answer → IfReady answer (λ o. IfSome o (λ x. After (ItemsComeFromGroups stream.polled old.listed) x (ItemsComeFromGroups stream.polled new.listed)))
    group_rest (Ready None) h = tt
    group_rest (Ready (Some x)) h = after
      where
        after : After (ItemsComeFromGroups stream.polled old.listed) x (ItemsComeFromGroups stream.polled new.listed)
        after items None run = tt
        after items (Some y) run = still (Ready (Some x)) h y run
    group_rest Pending h = tt

    pub group_same : (answer : Poll (Option A)) → MergesTurns answer → OnPending answer (Within (ItemsComeFromGroups stream.polled old.listed) (ItemsComeFromGroups stream.polled new.listed))
    group_same (Ready o) h = tt
    group_same Pending h = within
      where
        within : Within (ItemsComeFromGroups stream.polled old.listed) (ItemsComeFromGroups stream.polled new.listed)
        within items None run = tt
        within items (Some y) run = still Pending h y run
