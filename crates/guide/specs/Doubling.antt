-- What a poll of a `Doubling` answers.
use Rattle.std.specs.Prelude.{◌≡◌, ℕ, ◌*◌}
use Rattle.futures.specs.declared.task.Poll.{Poll}
use Rattle.futures.specs.declared.task.Poll.TheVariants.{Ready}
use Rattle.guide.specs.declared.proved.doubling.Doubling.{Doubling}

-- it is ready, with twice the number
abbrev pub Doubles : Doubling → Poll ℕ → Doubling → Type 0
Doubles future answer _ = answer ≡ Ready (2 * future.number)
