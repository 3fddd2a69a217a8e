-- What a buffer returns last if its drain returns a `Result`.
use Rattle.std.specs.Prelude.{Option, Some, None, Result, Ok, Err}

-- what a buffer returns last if its drain returns this: `None`, or the error
abbrev pub last_of_result : {E : Type 0} → Result (Unit {0}) E → Option (Result (Unit {0}) E)
last_of_result (Ok _) = None
last_of_result (Err error) = Some (Err error)
