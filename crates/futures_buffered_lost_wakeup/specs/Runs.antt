-- The steps of the law are those of the calls: each shape of steps that a contract allows to a call is a run of one agent
-- of the law, from where the call begins to where it ends.
use Rattle.std.specs.Prelude.{◌≡◌, ℕ, Bool, List, [], ◌∷◌, Option, Some, None, map}
use Rattle.futures_buffered_table.specs.declared.answer.Taken.{Taken as TakenAnswer}
use Rattle.futures_buffered_table.specs.declared.answer.Woke.{Woke as WokeAnswer}
use Rattle.futures_buffered_table.specs.declared.step.StepReply.{StepReply}
use Rattle.futures_buffered_table.specs.declared.step.StepReply.TheVariants.{More, Woke, Taken}
use Rattle.futures_buffered_table.specs.declared.view.AtomicStep.{AtomicStep}
use Rattle.futures_buffered_table.specs.declared.view.Phase.TheVariants.{Start}
use Rattle.futures_buffered_table.specs.declared.view.Role.{Role}
use Rattle.futures_buffered_table.specs.declared.view.Role.TheVariants.{Idle, Polls}
use Rattle.futures_buffered_table.specs.Effect.{next_role, reply_of_role, step_of_role}
use Rattle.futures_buffered_table.specs.Taking.{IsTaking}
use Rattle.futures_buffered_table.specs.Waking.{IsWake}
use Rattle.futures_buffered_place.specs.declared.place.Put.{Put as Answer}
use Rattle.futures_buffered_place.specs.declared.place.Put.TheVariants.{Kept, Busy}
use Rattle.futures_buffered_place.specs.declared.view.Deed.{Deed}
use Rattle.futures_buffered_place.specs.declared.view.Deed.TheVariants.{Look, Win, WinFree, Lose, Put, Leave}
use Rattle.futures_buffered_place.specs.History.{IsPutIn, IsTakeOut}
use Rattle.futures_buffered_lost_wakeup.specs.Agents.{Act, Errand, Rests, Looks, Wakes, Turn, Registers, Asks, Met, Sibling, Away, LetsGo}
use Rattle.futures_buffered_lost_wakeup.specs.Agents.{IsRight, sibling_after, turn_after, wake_after, wanted_by_sibling, wanted_by_turn}

-- an agent that has a waker of the task `own`, or none, goes by these steps from here to there
abbrev pub IsRun : {A : Type 0} → (A → Act → Option A) → (A → ℕ) → Option ℕ → A → List Act → A → Type 0
IsRun after wanted own here [] there = here ≡ there
IsRun after wanted own here (act ∷ acts) there = IsRight (wanted here) own act
    × ((next : _) × (after here act ≡ Some next) × IsRun after wanted own next acts there)

-- each waker wakes a task
module _ {O : Type 0} (task_of : O → ℕ) where
  -- a step that a contract names, with the task of its waker
  abbrev pub act_of : Deed O → Act
  act_of (Look n) = Look n
  act_of (Win x) = Win (task_of x)
  act_of WinFree = WinFree
  act_of (Lose n) = Lose n
  act_of (Put x) = Put (task_of x)
  act_of Leave = Leave

  -- a wake that took a waker wakes its task next; one that took none rests
  abbrev pub errand_with : Option O → Errand
  errand_with None = Rests
  errand_with (Some x) = Wakes (task_of x)

  -- a poller that put its waker in polls the list; one that met another call wakes its waker next
  abbrev pub turn_with : Answer O → Turn
  turn_with (Kept before) = Asks
  turn_with (Busy same) = Met (task_of same)

  -- a sibling that replaced a waker drops it next; one that met another call wakes its own
  abbrev pub sibling_with : Answer O → Sibling
  sibling_with (Kept None) = Away
  sibling_with (Kept (Some x)) = LetsGo (task_of x)
  sibling_with (Busy same) = LetsGo (task_of same)

-- a seat of the list goes by these steps from one role to another; the last of them replies, and no other does
abbrev pub IsListRun : ℕ → ℕ → StepReply → Role → List AtomicStep → StepReply → Role → Type 0
IsListRun n slot said role [] reply there = (said ≡ reply) × (role ≡ there)
IsListRun n slot said role (step ∷ steps) reply there = (said ≡ More)
    × ((found : ℕ) × (step ≡ step_of_role n slot role found)
    × IsListRun n slot (reply_of_role n role found) (next_role n slot role found) steps reply there)

-- every call that makes steps at the list or at the place
pub record CallsAreRuns (O : Type 0) (task_of : O → ℕ) : Type 0 where
  -- a wake, at the list
  pub wake : (n i : ℕ) (shape : List AtomicStep) (woke : WokeAnswer) → IsWake i shape woke
      → IsListRun n i More Idle shape (Woke woke) Idle
  -- a taking
  pub taking : (n h : ℕ) (shape : List AtomicStep) (answer : TakenAnswer) (head : ℕ) → IsTaking n h shape answer head
      → IsListRun n 0 More (Polls h Start) shape (Taken answer) (Polls head Start)
  -- a fresh wake, at the place
  pub wake_at_place : (shape : List (Deed O)) (outer : Option O) → IsTakeOut shape outer
      → IsRun wake_after (λ _. 1) None Looks (map (act_of task_of) shape) (errand_with task_of outer)
  -- a registration
  pub takes_back : (alone : Bool) (own : Option ℕ) (shape : List (Deed O)) (outer : Option O) → IsTakeOut shape outer
      → IsRun (turn_after alone own) wanted_by_turn own Registers (map (act_of task_of) shape) Registers
  -- a poller that puts its waker in before Empty
  pub puts_in : (alone : Bool) (x : O) (shape : List (Deed O)) (answer : Answer O) → IsPutIn alone x shape answer → let own = Some (task_of x) in
      IsRun (turn_after alone own) wanted_by_turn own Asks (map (act_of task_of) shape) (turn_with task_of answer)
  -- a sibling that puts a waker in, and a poller between two polls
  pub sibling_puts_in : (alone : Bool) (x : O) (shape : List (Deed O)) (answer : Answer O) → IsPutIn alone x shape answer → let mine = task_of x in
      IsRun (sibling_after alone mine) wanted_by_sibling (Some mine) Away (map (act_of task_of) shape) (sibling_with task_of answer)
