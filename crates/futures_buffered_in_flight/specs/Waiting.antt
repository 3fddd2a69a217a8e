-- What a poll is to a task that waits for an output of a set, a queue or a merge in flight.
use Rattle.futures.specs.declared.task.Poll.{Poll}
use Rattle.futures.specs.declared.task.Poll.TheVariants.{Ready, Pending}

-- One poll, on the way to an output or `None`. Either that comes, as `came` says, or the poll is pending, and what may
-- come then might have come of the old value.
abbrev pub PollsUntil : {S B : Type 0} → (S → B → S → Type 0) → S → Poll B → S → Type 0
PollsUntil came old (Ready o) new = came old o new
PollsUntil {S} {B} came old Pending new = (o : B) (last : S) → came new o last → came old o last
