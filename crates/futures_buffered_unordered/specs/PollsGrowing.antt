-- What one poll of groups makes of them and of the task that polls them. A clause says how one group is polled by the
-- ghost members of a type, `R.can_poll R.asks`, and names the rule and the source of a set, `R.PollOne S.ReadySource`.
use Rattle.std.specs.Prelude.{◌≡◌, ◌↔◌, ℕ, ◌+◌, Bool, false, length, Option, None}
use Rattle.std.specs.List.{All}
use Rattle.futures.specs.Task.{Covers, Keeps}
use Rattle.futures.specs.Poll.{OnPending}
use Rattle.futures.specs.declared.task.context.Context.{Context}
use Rattle.futures.specs.declared.task.Poll.{Poll}
use Rattle.futures.specs.declared.task.Poll.TheVariants.{Ready}
use Rattle.futures_buffered_unordered.specs.FuturesUnorderedBounded.{Bounded}
use Rattle.futures_buffered_unordered.specs.PollsBounded.{PollOneOf, PollsBounded, ReadySourceOf, unless_registered}
use Rattle.futures_buffered_unordered.specs.Groups.{AsksInTurn, outputs_in}
use Rattle.futures_buffered_unordered.specs.FuturesUnordered.{AnyNeeds, EachHeld, Growing, held_in_all}

-- One poll of groups, which takes them from `old` to `new` and the task from `cx` to `left`. `asks` says how one group
-- is polled, by whether the task is registered already.
pub record PollsGroups
    {F S A : Type 0}
    (can_poll : F → Type 0)
    (asks : Bool → Bounded F S → Poll (Option A) → Bounded F S → Context → Context → Type 0)
    (needs : S → ℕ → Type 0)
    (old : Growing F S)
    (answer : Poll (Option A))
    (new : Growing F S)
    (cx left : Context)
    : Type 0 where
  -- Each group is polled, in turn from the next place, until one returns an output. The task is registered already if
  -- an earlier group is pending. A group that returns `None` leaves, unless it is the last of the list.
  pub gave : AsksInTurn asks (length old.groups.listed) false old.groups answer new.groups cx left
  -- the limit does not change
  pub limit : new.limit ≡ old.limit
  -- the task of pending groups is registered where each of their sources waits, or is woken
  pub covered : OnPending answer (All (λ group. Covers left (needs group.source)) new.groups.listed)
  -- the task keeps each earlier registration and wake
  pub kept : Keeps cx left
  -- each value in the groups may be polled again
  pub pollable : EachHeld can_poll new.groups.listed

module _
    {R F W A S : Type 0}
    (rule : PollOneOf R F W A)
    (source : ReadySourceOf S W)
  where
    -- One poll of a growing set, which takes the set from `old` to `new` and the task from `cx` to `left`.
    pub record PollsGrowing
        (old : Growing F S)
        (answer : Poll (Option A))
        (new : Growing F S)
        (cx left : Context)
        : Type 0 where
      -- the poll of the set is a poll of its groups, each polled as a bounded set is
      pub groups : PollsGroups rule.can_poll
          (λ is_registered. PollsBounded rule (unless_registered is_registered source)) source.needs
          old answer new cx left
      -- the result is `None` if and only if the set was empty
      pub ends : (answer ≡ Ready None) ↔ (held_in_all old.groups.listed ≡ 0)
      -- an output leaves one future fewer, and any other result leaves as many as before
      pub count : held_in_all new.groups.listed + outputs_in answer ≡ held_in_all old.groups.listed
      -- the task of a pending set is registered where each group that holds a future waits, or is woken
      pub registered : OnPending answer (Covers left (AnyNeeds source.needs new.groups.listed))
