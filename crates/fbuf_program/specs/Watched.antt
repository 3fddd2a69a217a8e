-- What a contract sees of a watched reader or writer.
use Rattle.std.specs.Prelude.{ℕ, Bool, true, List, length, Result, Ok, Err, ◌&&◌, ◌==◌, not}

-- the wrapped value, and whether a read, a write or a flush has failed
pub record Watch (T : Type 0) : Type 0 where
  pub inner : T
  pub failed : Bool

-- whether a write failed: it returned an error, or wrote none of some bytes
abbrev pub write_failed : {E : Type 0} → Result ℕ E → List ℕ → Bool
write_failed (Ok count) bytes = (count == 0) && not (length bytes == 0)
write_failed (Err error) bytes = true
