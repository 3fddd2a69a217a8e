-- What one poll of a future that is ready from the start makes of it.
use Rattle.std.specs.Prelude.{◌≡◌, Option, Some, None}
use Rattle.futures.specs.declared.task.Poll.{Poll}
use Rattle.futures.specs.declared.task.Poll.TheVariants.{Ready, Pending}

-- the poll takes the value and returns it; if there is no value, the poll is pending
abbrev pub GivesValue : {T : Type 0} → Option T → Poll T → Option T → Type 0
GivesValue (Some value) answer new = (answer ≡ Ready value) × (new ≡ None)
GivesValue None answer new = (answer ≡ Pending) × (new ≡ None)
