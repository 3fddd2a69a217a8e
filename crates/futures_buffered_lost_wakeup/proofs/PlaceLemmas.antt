-- The steps at the place, of wakes, the poller and siblings, keep a scene.
use Rattle.futures_buffered_lost_wakeup.proofs.Common.{◌≡◌, ◌≢◌, ◌⊎◌, ℕ, zero, suc, Bool, true, false, refl, sym, ap, ◌∙◌, subst, inl, inr, ⊎_elim, Option, Some, None, Look, Win, WinFree, Lose, Put, Leave, Act, Errand, Rests, Looks, Tries, Inside, Wakes, IsRight, wake_after, turn_after, sibling_after, wanted_by_turn, Turn, Parked, Registers, GoesBack, TakesBack, Asks, GoesOut, GoesFree, LaysOut, Fills, Met, Sibling, Away, GoesKept, GoesVacant, Writes, Has, LetsGo, Scene, Stage, Vacant, Filling, FillingBetween, Kept, Lent, AWake, ThePoller, ASibling, word, IsAway, IsTrueOf, changed, poller_did, sibling_did, wake_did, with_errand, with_woken}
use Rattle.futures_buffered_lost_wakeup.proofs.SceneLemmas.{changed_here, woken_by, woken_stays}
use Rattle.futures_buffered_lost_wakeup.proofs.HolderLemmas.{Agrees, held_by, held_by_sibling, held_by_turn, held_by_wake, holder, leaves, moves, sibling_else, some_same, turn_else, vacant_at, wake_else, wins}
use Rattle.futures_buffered_lost_wakeup.proofs.SceneInvariantLemmas.{Armed, ArmedIn, Busy, Carries, Heads, Heard, IsKept, IsWaiting, Owned, SiblingDrops, armed_by, armed_parked, some_on, way_here, way_of_armed}

kept_same : (x y : ℕ) → Kept x ≡ Kept y → x ≡ y
kept_same x y is = cc

not_kept : (stage : Stage) (k task : ℕ) → word stage ≡ k → k ≢ 1 → stage ≢ Kept task
not_kept stage k task is ne at = ne (sym is ∙ ap word at)

-- Of wakes.

module _ (n : ℕ) (s : Scene) (kept : IsKept n s) (seat : ℕ) where
  abbrev Held : Errand → ℕ → Option Stage
  Held errand = held_by s.turn s.sibling (changed s.errands seat errand)

  abbrev On : Errand → Stage → Scene
  On errand stage = record (with_errand s seat errand) { stage = stage }

  -- One wake goes on. If it takes the task's waker from the place, it has it.
  wake_goes : (mine errand : Errand) (stage : Stage) → s.errands seat ≡ mine → Agrees (Held errand) stage → (Carries s.task mine → Carries s.task errand)
      → (s.stage ≡ Kept s.task → (stage ≡ Kept s.task) ⊎ Carries s.task errand)
      → (s.turn ≡ Parked → (Heard s → ⊥) → Armed (On errand stage) → Busy (On errand stage)) → IsKept n (On errand stage)
  wake_goes mine errand stage is agrees carries has busy = record {
    reach = kept.reach;
    waits = kept.waits;
    agrees = agrees;
    parked = kept.parked;
    armed = armed_by s.turn s (On errand stage) armed (λ w. w) refl refl kept.armed;
    seen = λ parked asleep. inr (busy parked asleep (armed (armed_parked n s kept parked)));
  }
    where
      here : Carries s.task errand → Armed (On errand stage)
      here carried = inr (inr (seat, subst (Carries s.task) (sym (changed_here s.errands seat errand)) carried))

      armed : Armed s → Armed (On errand stage)
      armed = ⊎_elim (λ heard. inl heard) (⊎_elim (λ at. ⊎_elim (λ still. inr (inl still)) here (has at))
          (λ wakes. ⊎_elim (λ none. absurd none) (λ w. inr (inr w)) (some_on (Carries s.task) ⊥ s.errands seat errand (λ c. inr (carries (subst (Carries s.task) is c))) wakes)))

  wake_moves : (mine errand : Errand) → s.errands seat ≡ mine → held_by_wake seat mine ≡ None → held_by_wake seat errand ≡ None → Agrees (Held errand) s.stage
  wake_moves mine errand is had has = moves (held_by s.turn s.sibling s.errands) (Held errand) (suc (suc seat)) (wake_else s.turn s.sibling s.errands seat errand) s.stage
      (ap (held_by_wake seat) is ∙ had) (ap (held_by_wake seat) (changed_here s.errands seat errand) ∙ has) kept.agrees

  -- it is on its way to the place
  pub wake_on_way : (mine errand : Errand) → s.errands seat ≡ mine → (Carries s.task mine → ⊥) → Heads s.task errand → held_by_wake seat mine ≡ None → held_by_wake seat errand ≡ None
      → IsKept n (with_errand s seat errand)
  wake_on_way mine errand is none heads had has = wake_goes mine errand s.stage is (wake_moves mine errand is had has) (λ c. absurd (none c)) (λ at. inl at)
      (λ parked asleep armed. inl (way_here s.task s.errands seat errand heads))

  -- it finds no waker of the task, and leaves the task to another
  wake_rests : (mine : Errand) → s.errands seat ≡ mine → (Carries s.task mine → ⊥) → held_by_wake seat mine ≡ None → s.stage ≢ Kept s.task → IsKept n (with_errand s seat Rests)
  wake_rests mine is none had away = wake_goes mine Rests s.stage is (wake_moves mine Rests is had refl) (λ c. absurd (none c)) (λ at. inl at)
      (λ parked asleep armed. inl (way_of_armed (On Rests s.stage) away asleep armed))

  pub wake_kept : (errand : Errand) (act : Act) → s.errands seat ≡ errand → IsTrueOf s.stage act → IsRight 1 None act → IsKept n (wake_did seat act (wake_after errand act) s)
  wake_kept Looks (Look zero) is found right = wake_rests Looks is (λ c. c) refl (not_kept s.stage 0 s.task found (λ z. cc))
  wake_kept Looks (Look (suc zero)) is found right = wake_on_way Looks Tries is (λ c. c) tt refl refl
  wake_kept Looks (Look (suc (suc k))) is found right = wake_rests Looks is (λ c. c) refl (not_kept s.stage (suc (suc k)) s.task found (λ z. cc))
  wake_kept Tries (Win x) is found right = wake_goes Tries (Inside x) (Lent (AWake seat)) is
      (wins (held_by s.turn s.sibling s.errands) (Held (Inside x)) (suc (suc seat)) (wake_else s.turn s.sibling s.errands seat (Inside x)) s.stage (Lent (AWake seat))
      (ap holder found) (ap (held_by_wake seat) (changed_here s.errands seat (Inside x))) refl kept.agrees)
      (λ c. absurd c) (λ at. inr (kept_same x s.task (sym found ∙ at))) (λ parked asleep armed. inl (way_of_armed (On (Inside x) (Lent (AWake seat))) (λ z. cc) asleep armed))
  wake_kept Tries (Lose k) is found right = wake_rests Tries is (λ c. c) refl (not_kept s.stage k s.task found right)
  wake_kept (Inside x) Leave is found right = wake_goes (Inside x) (Wakes x) Vacant is
      (leaves (held_by s.turn s.sibling s.errands) (Held (Wakes x)) (suc (suc seat)) (wake_else s.turn s.sibling s.errands seat (Wakes x)) s.stage Vacant (Lent (AWake seat))
      (ap (held_by_wake seat) is) (ap (held_by_wake seat) (changed_here s.errands seat (Wakes x))) refl kept.agrees)
      (λ c. c) (λ at. let had = (kept.agrees.tells (suc (suc seat)) (Lent (AWake seat)) (ap (held_by_wake seat) is)).0 in let c : Lent (AWake seat) ≡ Kept s.task = sym had ∙ at in absurd cc)
      (λ parked asleep armed. inl (way_of_armed (On (Wakes x) Vacant) (λ z. cc) asleep armed))
  wake_kept errand act is found right = kept

  abbrev Woke : ℕ → Scene
  Woke task = with_woken (with_errand s seat Rests) task

  -- it wakes the task whose waker it took
  pub wake_wakes : (task : ℕ) → s.errands seat ≡ Wakes task → IsKept n (Woke task)
  wake_wakes task is = record {
    reach = kept.reach;
    waits = kept.waits;
    agrees = wake_moves (Wakes task) Rests is refl refl;
    parked = kept.parked;
    armed = armed_by s.turn s (Woke task) armed (woken_stays s.woken task s.task) refl refl kept.armed;
    seen = λ parked asleep. ⊎_elim (λ none. inl none)
        (⊎_elim (λ way. ⊎_elim (λ e. absurd (asleep (heard e))) (λ w. inr (inl w)) (some_on (Heads s.task) (task ≡ s.task) s.errands seat Rests (λ h. inl (subst (Heads s.task) is h)) way))
        (λ swaps. inr (inr swaps))) (kept.seen parked (λ h. asleep (still h)));
  }
    where
      heard : task ≡ s.task → Heard (Woke task)
      heard e = inl (woken_by s.woken task s.task e)

      still : Heard s → Heard (Woke task)
      still = ⊎_elim (λ woken. inl (woken_stays s.woken task s.task woken)) (λ drops. inr drops)

      armed : Armed s → Armed (Woke task)
      armed = ⊎_elim (λ h. inl (still h)) (⊎_elim (λ at. inr (inl at))
          (λ wakes. ⊎_elim (λ e. inl (heard e)) (λ w. inr (inr w)) (some_on (Carries s.task) (task ≡ s.task) s.errands seat Rests (λ c. inl (subst (Carries s.task) is c)) wakes)))

-- Of the poller.

module _ (n : ℕ) (s : Scene) (kept : IsKept n s) where
  abbrev At : Turn → Stage → Option ℕ → Scene
  At turn stage own = record s { turn = turn; stage = stage; own = own }

  abbrev HeldAt : Turn → ℕ → Option Stage
  HeldAt turn = held_by turn s.sibling s.errands

  pub none_writes : s.turn ≢ Parked → s.sibling ≢ Writes
  none_writes here is = here (kept.parked is)

  pub turn_moves : (turn turn' : Turn) → s.turn ≡ turn → held_by_turn turn ≡ None → held_by_turn turn' ≡ None → Agrees (HeldAt turn') s.stage
  turn_moves turn turn' is had has = moves (HeldAt s.turn) (HeldAt turn') 0 (turn_else s.turn turn' s.sibling s.errands) s.stage (ap held_by_turn is ∙ had) has kept.agrees

  -- the poller goes on, in its poll
  pub poller_goes : (turn turn' : Turn) (stage : Stage) (own : Option ℕ) (woken : ℕ → Bool) → s.turn ≡ turn → turn ≢ Parked → turn' ≢ Parked → (IsWaiting turn' → IsWaiting turn)
      → Agrees (HeldAt turn') stage → ArmedIn turn' (record (At turn' stage own) { woken = woken }) → IsKept n (record (At turn' stage own) { woken = woken })
  poller_goes turn turn' stage own woken is here there waiting agrees armed = record {
    reach = kept.reach;
    waits = λ w. kept.waits (subst IsWaiting (sym is) (waiting w));
    agrees = agrees;
    parked = λ writes. absurd (none_writes (λ z. here (sym is ∙ z)) writes);
    armed = armed;
    seen = λ parked asleep. absurd (there parked);
  }

  -- it reads the word, or loses the place
  stays : (turn turn' : Turn) (own : Option ℕ) → s.turn ≡ turn → turn ≢ Parked → turn' ≢ Parked → (IsWaiting turn' → IsWaiting turn) → held_by_turn turn ≡ None → held_by_turn turn' ≡ None
      → ArmedIn turn' (At turn' s.stage own) → IsKept n (At turn' s.stage own)
  stays turn turn' own is here there waiting had has armed = poller_goes turn turn' s.stage own s.woken is here there waiting (turn_moves turn turn' is had has) armed

  -- it wins a place that nobody has
  gets : (turn turn' : Turn) (stage : Stage) (own : Option ℕ) → s.turn ≡ turn → turn ≢ Parked → turn' ≢ Parked → (IsWaiting turn' → IsWaiting turn) → holder s.stage ≡ None
      → held_by_turn turn' ≡ Some stage → holder stage ≡ Some 0 → ArmedIn turn' (At turn' stage own) → IsKept n (At turn' stage own)
  gets turn turn' stage own is here there waiting free has mine armed = poller_goes turn turn' stage own s.woken is here there waiting
      (wins (HeldAt s.turn) (HeldAt turn') 0 (turn_else s.turn turn' s.sibling s.errands) s.stage stage free has mine kept.agrees) armed

  -- it leaves the place
  puts : (turn turn' : Turn) (had stage : Stage) (own : Option ℕ) → s.turn ≡ turn → turn ≢ Parked → turn' ≢ Parked → (IsWaiting turn' → IsWaiting turn) → held_by_turn turn ≡ Some had
      → held_by_turn turn' ≡ None → holder stage ≡ None → ArmedIn turn' (At turn' stage own) → IsKept n (At turn' stage own)
  puts turn turn' had stage own is here there waiting held has free armed = poller_goes turn turn' stage own s.woken is here there waiting
      (leaves (HeldAt s.turn) (HeldAt turn') 0 (turn_else s.turn turn' s.sibling s.errands) s.stage stage had (ap held_by_turn is ∙ held) has free kept.agrees) armed

  abbrev armed_at : (turn : Turn) → s.turn ≡ turn → ArmedIn turn s
  armed_at turn is = subst (λ (t : Turn). ArmedIn t s) is kept.armed

  -- the poller has a waker: it is the task's, or the task is woken
  mine_or_woken : (mine : ℕ) → s.own ≡ Some mine → Owned s → (mine ≡ s.task) ⊎ (s.woken s.task ≡ true)
  mine_or_woken mine own = ⊎_elim (λ its. inl (some_same mine s.task (sym own ∙ its)))
      (⊎_elim (λ woken. inr woken) (λ none. let c : None ≡ Some mine = sym none.0 ∙ own in absurd cc))

  -- it keeps that waker
  keeps : (turn : Turn) (stage : Stage) (mine : ℕ) → s.own ≡ Some mine → Owned s → Owned (At turn stage s.own)
  keeps turn stage mine own armed = ⊎_elim (λ e. inl (own ∙ ap Some e)) (λ woken. inr (inl woken)) (mine_or_woken mine own armed)

  -- it wakes that waker next
  meets : (turn : Turn) (mine : ℕ) → s.turn ≡ turn → turn ≢ Parked → held_by_turn turn ≡ None → s.own ≡ Some mine → Owned s → IsKept n (At (Met mine) s.stage None)
  meets turn mine is here had own armed = stays turn (Met mine) None is here (λ z. cc) (λ w. absurd w) had refl
      (⊎_elim (λ e. inr (inr (refl, inl (inr (inr e))))) (λ woken. inr (inl woken)) (mine_or_woken mine own armed))

  -- it puts that waker in
  lays : (turn : Turn) (had : Stage) (mine : ℕ) → s.turn ≡ turn → turn ≢ Parked → held_by_turn turn ≡ Some had → s.own ≡ Some mine → Owned s → IsKept n (At Asks (Kept mine) None)
  lays turn had mine is here held own armed = puts turn Asks had (Kept mine) None is here (λ z. cc) (λ w. absurd w) held refl refl
      (⊎_elim (λ e. inr (inr (refl, inr (inl (ap Kept e))))) (λ woken. inr (inl woken)) (mine_or_woken mine own armed))

  not_filling : (turn : Turn) → s.turn ≡ turn → held_by_turn turn ≡ None → s.stage ≢ Filling
  not_filling turn is none at = let c : None ≡ Some s.stage = sym none ∙ (ap held_by_turn (sym is) ∙ kept.agrees.told 0 (ap holder at)) in cc

  pub not_between : s.sibling ≢ Writes → s.stage ≢ FillingBetween
  not_between none at = by_sibling s.sibling refl (kept.agrees.told 1 (ap holder at))
    where
      by_sibling : (sibling : Sibling) → s.sibling ≡ sibling → held_by_sibling sibling ≡ Some s.stage → ⊥
      by_sibling Writes is has = none is
      by_sibling (Has before) is has = let c : Some (Lent ASibling) ≡ Some FillingBetween = has ∙ ap Some at in cc
      by_sibling sibling is has = cc

  free_of_zero : (turn : Turn) → s.turn ≡ turn → turn ≢ Parked → held_by_turn turn ≡ None → word s.stage ≡ 0 → holder s.stage ≡ None
  free_of_zero turn is here none found = ap holder (vacant_at s.stage found (not_filling turn is none) (not_between (none_writes (λ z. here (sym is ∙ z)))))

  pub poller_kept : (alone : Bool) (own : Option ℕ) (turn : Turn) (act : Act) → s.own ≡ own → s.turn ≡ turn → IsTrueOf s.stage act → IsRight (wanted_by_turn turn) own act
      → IsKept n (poller_did act (turn_after alone own turn act) s)
  poller_kept alone own Registers (Look zero) has is found right = stays Registers Registers s.own is (λ z. cc) (λ z. cc) (λ w. w) refl refl tt
  poller_kept alone own Registers (Look (suc zero)) has is found right = stays Registers GoesBack s.own is (λ z. cc) (λ z. cc) (λ w. w) refl refl tt
  poller_kept alone own Registers (Look (suc (suc k))) has is found right = stays Registers Registers s.own is (λ z. cc) (λ z. cc) (λ w. w) refl refl tt
  poller_kept alone own GoesBack (Win x) has is found right = gets GoesBack TakesBack (Lent ThePoller) (Some x) is (λ z. cc) (λ z. cc) (λ w. w) (ap holder found) refl refl tt
  poller_kept alone own GoesBack (Lose k) has is found right = stays GoesBack Registers s.own is (λ z. cc) (λ z. cc) (λ w. w) refl refl tt
  poller_kept alone own TakesBack Leave has is found right = puts TakesBack Registers (Lent ThePoller) Vacant s.own is (λ z. cc) (λ z. cc) (λ w. w) refl refl refl tt
  poller_kept true (Some mine) Asks (Look zero) has is found right = gets Asks Fills Filling s.own is (λ z. cc) (λ z. cc) (λ w. absurd w) (free_of_zero Asks is (λ z. cc) refl found) refl refl
      (keeps Fills Filling mine has (armed_at Asks is))
  poller_kept false (Some mine) Asks (Look zero) has is found right = stays Asks GoesFree s.own is (λ z. cc) (λ z. cc) (λ w. absurd w) refl refl (keeps GoesFree s.stage mine has (armed_at Asks is))
  poller_kept alone (Some mine) Asks (Look (suc zero)) has is found right = stays Asks GoesOut s.own is (λ z. cc) (λ z. cc) (λ w. absurd w) refl refl (keeps GoesOut s.stage mine has (armed_at Asks is))
  poller_kept alone (Some mine) Asks (Look (suc (suc k))) has is found right = meets Asks mine is (λ z. cc) refl has (armed_at Asks is)
  poller_kept alone (Some mine) GoesOut (Win x) has is found right = gets GoesOut LaysOut (Lent ThePoller) s.own is (λ z. cc) (λ z. cc) (λ w. absurd w) (ap holder found) refl refl
      (keeps LaysOut (Lent ThePoller) mine has (armed_at GoesOut is))
  poller_kept alone (Some mine) GoesOut (Lose k) has is found right = meets GoesOut mine is (λ z. cc) refl has (armed_at GoesOut is)
  poller_kept alone (Some mine) GoesFree WinFree has is found right = gets GoesFree LaysOut (Lent ThePoller) s.own is (λ z. cc) (λ z. cc) (λ w. absurd w) (free_of_zero GoesFree is (λ z. cc) refl found) refl refl
      (keeps LaysOut (Lent ThePoller) mine has (armed_at GoesFree is))
  poller_kept alone (Some mine) GoesFree (Lose k) has is found right = meets GoesFree mine is (λ z. cc) refl has (armed_at GoesFree is)
  poller_kept alone (Some mine) LaysOut (Put x) has is found right = lays LaysOut (Lent ThePoller) x is (λ z. cc) refl (has ∙ right) (armed_at LaysOut is)
  poller_kept alone (Some mine) Fills (Put x) has is found right = lays Fills Filling x is (λ z. cc) refl (has ∙ right) (armed_at Fills is)
  poller_kept alone own turn act has is found right = kept

  -- Of siblings.

  abbrev Beside : Sibling → Stage → Scene
  Beside sibling stage = record s { sibling = sibling; stage = stage }

  abbrev HeldBeside : Sibling → ℕ → Option Stage
  HeldBeside sibling = held_by s.turn sibling s.errands

  -- A sibling goes on. If it takes the task's waker from the place, it will drop it.
  sibling_goes : (mine sibling : Sibling) (stage : Stage) → s.sibling ≡ mine → Agrees (HeldBeside sibling) stage → (sibling ≡ Writes → s.turn ≡ Parked)
      → (SiblingDrops s.task mine → SiblingDrops s.task sibling) → (s.stage ≡ Kept s.task → (stage ≡ Kept s.task) ⊎ SiblingDrops s.task sibling) → IsKept n (Beside sibling stage)
  sibling_goes mine sibling stage is agrees parked drops has = record {
    reach = kept.reach;
    waits = kept.waits;
    agrees = agrees;
    parked = parked;
    armed = armed_by s.turn s (Beside sibling stage) armed (λ w. w) refl refl kept.armed;
    seen = λ at asleep. kept.seen at (λ h. asleep (still h));
  }
    where
      still : Heard s → Heard (Beside sibling stage)
      still = ⊎_elim (λ woken. inl woken) (⊎_elim (λ d. inr (inl (drops (subst (SiblingDrops s.task) is d)))) (λ d. inr (inr d)))

      armed : Armed s → Armed (Beside sibling stage)
      armed = ⊎_elim (λ h. inl (still h)) (⊎_elim (λ at. ⊎_elim (λ k. inr (inl k)) (λ d. inl (inr (inl d))) (has at)) (λ wakes. inr (inr wakes)))

  pub sibling_moves : (mine sibling : Sibling) → s.sibling ≡ mine → held_by_sibling mine ≡ None → held_by_sibling sibling ≡ None → Agrees (HeldBeside sibling) s.stage
  sibling_moves mine sibling is had has = moves (HeldBeside s.sibling) (HeldBeside sibling) 1 (sibling_else s.turn s.sibling sibling s.errands) s.stage
      (ap held_by_sibling is ∙ had) has kept.agrees

  -- it reads the word, or loses the place
  passes : (mine sibling : Sibling) → s.sibling ≡ mine → held_by_sibling mine ≡ None → held_by_sibling sibling ≡ None → sibling ≢ Writes → (SiblingDrops s.task mine → ⊥) → IsKept n (Beside sibling s.stage)
  passes mine sibling is had has not_writes none = sibling_goes mine sibling s.stage is (sibling_moves mine sibling is had has) (λ z. absurd (not_writes z)) (λ d. absurd (none d)) (λ at. inl at)

  -- it wins a place that nobody has
  enters : (mine sibling : Sibling) (stage : Stage) → s.sibling ≡ mine → holder s.stage ≡ None → held_by_sibling sibling ≡ Some stage → holder stage ≡ Some 1 → (sibling ≡ Writes → s.turn ≡ Parked)
      → (SiblingDrops s.task mine → ⊥) → (s.stage ≡ Kept s.task → SiblingDrops s.task sibling) → IsKept n (Beside sibling stage)
  enters mine sibling stage is free has by parked none drops = sibling_goes mine sibling stage is
      (wins (HeldBeside s.sibling) (HeldBeside sibling) 1 (sibling_else s.turn s.sibling sibling s.errands) s.stage stage free has by kept.agrees) parked (λ d. absurd (none d)) (λ at. inr (drops at))

  -- it leaves its waker there
  leaves_it : (mine sibling : Sibling) (had : Stage) (x : ℕ) → s.sibling ≡ mine → held_by_sibling mine ≡ Some had → held_by_sibling sibling ≡ None → holder had ≡ Some 1 → sibling ≢ Writes
      → (SiblingDrops s.task mine → SiblingDrops s.task sibling) → IsKept n (Beside sibling (Kept x))
  leaves_it mine sibling had x is held has by none drops = sibling_goes mine sibling (Kept x) is
      (leaves (HeldBeside s.sibling) (HeldBeside sibling) 1 (sibling_else s.turn s.sibling sibling s.errands) s.stage (Kept x) had (ap held_by_sibling is ∙ held) has refl kept.agrees)
      (λ z. absurd (none z)) drops
      (λ at. let c : None ≡ Some 1 = ap holder (sym at) ∙ (ap holder (kept.agrees.tells 1 had (ap held_by_sibling is ∙ held)).0 ∙ by) in absurd cc)

  away_holds_none : (turn : Turn) → IsAway turn → held_by_turn turn ≡ None
  away_holds_none Parked away = refl
  away_holds_none Asks away = refl
  away_holds_none turn away = absurd away

  vacant_here : IsAway s.turn → (mine : Sibling) → s.sibling ≡ mine → mine ≢ Writes → word s.stage ≡ 0 → s.stage ≡ Vacant
  vacant_here away mine is none found = vacant_at s.stage found (not_filling s.turn refl (away_holds_none s.turn away)) (not_between (λ z. none (sym is ∙ z)))

  pub sibling_kept : (alone : Bool) (mine : ℕ) (sibling : Sibling) (act : Act) → s.sibling ≡ sibling → IsAway s.turn → (alone ≡ true → s.turn ≡ Parked) → IsTrueOf s.stage act
      → IsKept n (sibling_did act (sibling_after alone mine sibling act) s)
  sibling_kept true mine Away (Look zero) is away between found = enters Away Writes FillingBetween is (ap holder (vacant_here away Away is (λ z. cc) found)) refl refl (λ _. between refl) (λ d. d)
      (λ at. absurd (not_kept s.stage 0 s.task found (λ z. cc) at))
  sibling_kept false mine Away (Look zero) is away between found = passes Away GoesVacant is refl refl (λ z. cc) (λ d. d)
  sibling_kept alone mine Away (Look (suc zero)) is away between found = passes Away GoesKept is refl refl (λ z. cc) (λ d. d)
  sibling_kept alone mine Away (Look (suc (suc k))) is away between found = passes Away (LetsGo mine) is refl refl (λ z. cc) (λ d. d)
  sibling_kept alone mine GoesKept (Win x) is away between found = enters GoesKept (Has (Some x)) (Lent ASibling) is (ap holder found) refl refl (λ z. cc) (λ d. d) (λ at. kept_same x s.task (sym found ∙ at))
  sibling_kept alone mine GoesKept (Lose k) is away between found = passes GoesKept (LetsGo mine) is refl refl (λ z. cc) (λ d. d)
  sibling_kept alone mine GoesVacant WinFree is away between found = enters GoesVacant (Has None) (Lent ASibling) is (ap holder (vacant_here away GoesVacant is (λ z. cc) found)) refl refl (λ z. cc) (λ d. d)
      (λ at. absurd (not_kept s.stage 0 s.task found (λ z. cc) at))
  sibling_kept alone mine GoesVacant (Lose k) is away between found = passes GoesVacant (LetsGo mine) is refl refl (λ z. cc) (λ d. d)
  sibling_kept alone mine Writes (Put x) is away between found = leaves_it Writes Away FillingBetween x is refl refl refl (λ z. cc) (λ d. d)
  sibling_kept alone mine (Has None) (Put x) is away between found = leaves_it (Has None) Away (Lent ASibling) x is refl refl refl (λ z. cc) (λ d. d)
  sibling_kept alone mine (Has (Some y)) (Put x) is away between found = leaves_it (Has (Some y)) (LetsGo y) (Lent ASibling) x is refl refl refl (λ z. cc) (λ d. d)
  sibling_kept alone mine sibling act is away between found = kept
