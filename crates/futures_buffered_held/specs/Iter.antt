-- What one poll of a stream of an iterator's items makes of it.
use Rattle.std.specs.Prelude.{◌≡◌, Option}
use Rattle.futures.specs.declared.task.Poll.{Poll}
use Rattle.futures.specs.declared.task.Poll.TheVariants.{Ready}

-- the iterator is called once, and the poll is ready with what it returns
abbrev pub GivesNext : {I A : Type 0} → (I → Option A → I → Type 0) → I → Poll (Option A) → I → Type 0
GivesNext {I} {A} gives old answer new = (item : Option A) × gives old item new × (answer ≡ Ready item)
