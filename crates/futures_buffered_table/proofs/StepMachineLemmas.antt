-- One step of the machine, by what its code reads and writes, and where it leads.
use Rattle.futures_buffered_table.proofs.Common.{◌≡◌, ℕ, ◌<◌, ◌≤◌, List, [], ◌∷◌, ◌++◌, length, map, set, get_or, sym, ap, ◌∙◌, subst, arith, ◌+◌, ◌^◌, length-set, Role, Idle, View, Step, StepReply, WAKE_SEATS, KeepsRow, InRange, next_role, next_view, put_by_role, reply_of_role, word_of_role, role_of, spent_view, CanStep, seat_of, slot_of, Legal, Moment, after_step, at_start, found_at, replies_of, run, view_at, get_or_default, get_or-map, some, get_elem?, map-set, AreThoseOf, CanMake, IsLedTo, Leads, LeadsOn, Machine, MakesStep, replies_to, PlacesSlots, role_at}
use Rattle.std.proofs.Math.Logic.{∥∥₁_elim, ∥∥₁_prop}
use Rattle.std.proofs.lemmas.Grind.{get_or_default_zero}
use Rattle.futures_buffered_table.proofs.ScheduleLemmas.{legal_more, reachable_at, replies_more, run_more}
use Rattle.futures_buffered_table.proofs.RowInvariantLemmas.{head_low}
use Rattle.futures_buffered_table.proofs.TallyLemmas.{tallied_at}
use Rattle.futures_buffered_table.proofs.WhereaboutsLemmas.{whereabouts}
use Rattle.futures_buffered_table.specs.StepMachineInvariant.{KeepsMachine}
use Rattle.futures_buffered_table.proofs.EffectLemmas.{in_range_prop, word_range, role_range}
use Rattle.futures_buffered_table.proofs.ListLemmas.{elem_at}

-- a step that can be made names a seat and a slot that there are
seat_in : (n : ℕ) (roles : List Role) (s : Step) → CanStep n roles s → seat_of s < WAKE_SEATS + 1
seat_in n roles s can = grind arith

slot_low : (n : ℕ) (roles : List Role) (s : Step) → CanStep n roles s → slot_of s ≤ n
slot_low n roles s can = grind arith

-- a schedule for n slots leads to these words and roles
abbrev LeadsTo : ℕ → List Step → List ℕ → List Role → Type 0
LeadsTo n schedule words roles = Legal n (at_start n) schedule × AreThoseOf words roles (run n (at_start n) schedule)

-- the step after the schedule
leads_one_more : (n : ℕ) (words : List ℕ) (roles : List Role) (s : Step) (schedule : List Step) → LeadsTo n schedule words roles →
    CanStep n roles s
    → let role = role_at roles (seat_of s) in let found = get_or words (word_of_role n (slot_of s) role) 0 in
    LeadsTo n (schedule ++ s ∷ []) (set words (word_of_role n (slot_of s) role) (put_by_role n role found))
    (set roles (seat_of s) (next_role n (slot_of s) role found))
    × (replies_of n (at_start n) (schedule ++ s ∷ []) ≡ replies_of n (at_start n) schedule ++ reply_of_role n role found ∷ [])
leads_one_more n words roles s schedule leads can =
    let c : Moment = run n (at_start n) schedule in
    let role : Role = role_at roles (seat_of s) in
    let found : ℕ = get_or words (word_of_role n (slot_of s) role) 0 in
    let good = reachable_at n schedule leads.0 in
    let w : words ≡ c.words = leads.1.0 in
    let rs : roles ≡ map role_of c.views = leads.1.1 in
    let v : View = view_at c s in
    let r : role ≡ v.role = ap (λ (l : List Role). get_or l (seat_of s) Idle) rs ∙ get_or-map role_of c.views (seat_of s) spent_view in
    let f : found ≡ found_at n c s = λ k. get_or (w k) (word_of_role n (slot_of s) (r k)) 0 in
    let stub : v.stub ≡ n = good.0 (seat_of s) v (elem_at c.views (seat_of s) spent_view (let a = good.1 in let b = seat_in n roles s can in
    omega arith)) in
    let words_on : set words (word_of_role n (slot_of s) role) (put_by_role n role found) ≡ (after_step n c s).words = λ k. set (w k)
    (word_of_role n (slot_of s) (r k)) (put_by_role n (r k) (f k)) in
    let roles_on : set roles (seat_of s) (next_role n (slot_of s) role found) ≡ map role_of (after_step n c s).views =
    (λ k. set (rs k) (seat_of s) (next_role n (slot_of s) (r k) (f k)))
    ∙ ((λ k. set (map role_of c.views) (seat_of s) (next_role (sym stub k) (slot_of s) v.role (found_at n c s)))
    ∙ sym (map-set role_of c.views (seat_of s) (next_view (slot_of s) v (found_at n c s)))) in (
      (
        legal_more n (at_start n) schedule s leads.0 (subst (λ (l : List Role). CanStep n l s) rs can),
        subst (AreThoseOf (set words (word_of_role n (slot_of s) role) (put_by_role n role found))
            (set roles (seat_of s) (next_role n (slot_of s) role found))) (sym (run_more n (at_start n) schedule s)) (words_on, roles_on),
      ),
      replies_more n (at_start n) schedule s ∙ (λ k. replies_of n (at_start n) schedule ++ reply_of_role n (sym r k) (sym f k) ∷ []),
    )

-- a machine that made the step goes on along each schedule
pub leads_on : (old new : Machine) (step : Step) (reply : StepReply) → CanMake old step → MakesStep old step new reply →
    LeadsOn old step new reply
leads_on old new step reply can did = λ schedule leads.
    let more = leads_one_more old.capacity old.words old.roles step schedule leads can in (
      subst (λ (m : ℕ × (List ℕ
          × List Role)). LeadsTo m.0 (schedule ++ step ∷ []) m.1.0 m.1.1) (λ k. (sym did.0 k, (sym did.1 k, sym did.2 k))) more.0,
      ap (λ (n : ℕ). replies_of n (at_start n) (schedule ++ step ∷ [])) did.0 ∙
          (more.1 ∙ ap (λ (r : StepReply). replies_to old schedule ++ r ∷ []) (sym did.3)),
    )

pub stuck_here : (n : ℕ) (m : Machine) (schedule : List Step) (s : Step) → m.capacity ≡ n → Leads schedule m → (CanMake m s → ⊥) →
    CanStep n (map role_of (run n (at_start n) schedule).views) s → ⊥
stuck_here n m schedule s is leads cannot can = grind arith

-- the whole of a list of steps was made
pub whole : (n : ℕ) (m : Machine) (made steps : List Step) (replies : List StepReply) → m.capacity ≡ n → made ≡ steps → Leads made m →
    replies ≡ replies_to m made
    → Legal n (at_start n) steps × (replies ≡ replies_of n (at_start n) steps)
whole n m made steps replies cap all leads replied = grind arith

-- what the machine reads as the role of a seat
pub read_role : (roles : List Role) (seat : ℕ) (x : Role) → x ≡ get_or roles seat x → seat < length roles → get_or roles seat Idle ≡ x
read_role roles seat x is low = get_or_default roles seat Idle x low ∙ sym is

range_there : (m : Machine) (seat : ℕ) → seat < WAKE_SEATS + 1 → IsLedTo m → InRange m.capacity (get_or m.roles seat Idle)
range_there m seat low r =
    let n = m.capacity in let c : Moment = run n (at_start n) r.0 in let good = reachable_at n r.0 r.1.0 in
    let v : View = get_or c.views seat spent_view in
    let there : get_elem? c.views seat ≡ some v = elem_at c.views seat spent_view (let a = good.1 in omega arith) in
    let role_is : get_or m.roles seat Idle ≡ v.role = ap (λ (l : List Role). get_or l seat Idle) r.1.1.1 ∙ get_or-map role_of c.views seat
    spent_view in
    subst (InRange n) (sym role_is)
    (role_range n c.words good.2.0 good.2.1 WAKE_SEATS seat v.role (head_low good.2.2) (good.2.2.seats seat v there).0)

pub places_slots : (m : Machine) → PlacesSlots m
places_slots m = λ schedule leads.
    let n = m.capacity in let c : Moment = run n (at_start n) schedule in let good = reachable_at n schedule leads.0 in
    let R : KeepsRow n good.2.0 good.2.1 WAKE_SEATS m.words c.views = subst
    (λ (ws : List ℕ). KeepsRow n good.2.0 good.2.1 WAKE_SEATS ws c.views) (sym leads.1.0) good.2.2 in
    (whereabouts R, tallied_at n m.words schedule leads.0 good leads.1.0)

-- the code has read the seat and the slot of a step that can be made, and the seat's role
pub record HasRead (m : Machine) (step : Step) (seat slot : ℕ) (role : Role) : Type 0 where
  pub keeps : KeepsMachine m
  pub can : CanStep m.capacity m.roles step
  pub of_seat : seat ≡ seat_of step
  pub of_slot : slot ≡ slot_of step
  pub of_role : role ≡ get_or m.roles seat role

-- then it has found a word, and says what it puts there, what the seat is then, and what the step answers
pub record HasFound (m : Machine) (slot : ℕ) (role : Role) (word found put : ℕ) (next : Role) (reply : StepReply) : Type 0 where
  pub at_word : word ≡ word_of_role m.capacity slot role
  pub of_word : found ≡ get_or m.words word found
  pub of_put : put ≡ put_by_role m.capacity role found
  pub of_next : next ≡ next_role m.capacity slot role found
  pub of_reply : reply ≡ reply_of_role m.capacity role found

pub has_read : {m : Machine} {roles : List Role} (step : Step) {seat slot : ℕ} {role : Role} → KeepsMachine m → roles ≡ m.roles →
    CanStep m.capacity roles step × (seat ≡ seat_of step) × (slot ≡ slot_of step) → role ≡ get_or m.roles seat role
    → HasRead m step seat slot role
has_read {m} {roles} step {seat} {slot} {role} K same told of_role = grind arith

pub has_found : {m : Machine} {slot : ℕ} {role : Role} {word found put : ℕ} {next : Role} {reply : StepReply} →
    word ≡ word_of_role m.capacity slot role → found ≡ get_or m.words word found → put ≡ put_by_role m.capacity role found
    → next ≡ next_role m.capacity slot role found → reply ≡ reply_of_role m.capacity role found →
    HasFound m slot role word found put next reply
has_found at_word of_word of_put of_next of_reply = grind arith

module _ {m : Machine} {step : Step} {seat slot : ℕ} {x : Role} (read : HasRead m step seat slot x) where
  low : seat < length m.roles
  low = let a = seat_in m.capacity m.roles step read.can in let b = read.of_seat in let d = read.keeps.seated in omega arith

  role_is : get_or m.roles seat Idle ≡ x
  role_is = read_role m.roles seat x read.of_role low

  slot_in : slot ≤ m.capacity
  slot_in = let a = slot_low m.capacity m.roles step read.can in let b = read.of_slot in omega arith

  range : InRange m.capacity x
  range = subst (InRange m.capacity) role_is
      (∥∥₁_elim read.keeps.reached (in_range_prop m.capacity _) (λ r. range_there m seat (let a = read.keeps.seated in let b = low in
      omega arith) r))

  pub may_touch : (m.capacity < 2 ^ 62) × (slot ≤ m.capacity) × InRange m.capacity x
  may_touch = (read.keeps.sized, slot_in, range)

  pub may_put : (m.capacity < 2 ^ 62) × InRange m.capacity x
  may_put = (read.keeps.sized, range)

  pub word_low : (word : ℕ) → word ≡ word_of_role m.capacity slot x → word < length m.words
  word_low word is = let a = word_range m.capacity slot x slot_in range in let b = read.keeps.wide in omega arith

  module _ {word found put : ℕ} {next : Role} {reply : StepReply} (did : HasFound m slot x word found put next reply) where
    abbrev pub now : Machine
    now = record { capacity = m.capacity; words = set m.words word put; roles = set m.roles seat next }

    role_at_seat : x ≡ get_or m.roles (seat_of step) Idle
    role_at_seat = sym role_is ∙ ap (λ (k : ℕ). get_or m.roles k Idle) read.of_seat

    word_at : word ≡ word_of_role m.capacity (slot_of step) (get_or m.roles (seat_of step) Idle)
    word_at = did.at_word ∙ (λ k. word_of_role m.capacity (read.of_slot k) (role_at_seat k))

    found_there : found ≡ get_or m.words (word_of_role m.capacity (slot_of step) (get_or m.roles (seat_of step) Idle)) 0
    found_there = grind (arith, get_or_default_zero, word_low, word_at)

    pub makes_step : MakesStep m step now reply
    makes_step = grind (arith, word_at, role_at_seat, found_there)

    pub leads_there : LeadsOn m step now reply
    leads_there = leads_on m now step reply read.can makes_step

    pub keeps_now : KeepsMachine now
    keeps_now = record {
      sized = read.keeps.sized;
      wide = length-set m.words word put ∙ read.keeps.wide;
      seated = length-set m.roles seat next ∙ read.keeps.seated;
      reached = ∥∥₁_elim read.keeps.reached ∥∥₁_prop (λ r. ∣ (r.0 ++ step ∷ [], (leads_there r.0 r.1).0) ∣₁);
    }
