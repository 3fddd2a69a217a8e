-- What one poll makes of an `Either`.
use Rattle.std.specs.Prelude.{◌≡◌}
use Rattle.futures.specs.declared.task.Poll.{Poll}
use Rattle.futures_buffered_held.specs.declared.either.Either.{Either}
use Rattle.futures_buffered_held.specs.declared.either.Either.TheVariants.{Left, Right}

-- the value on the side of `old` is polled once, and `new` is on the same side
abbrev pub PollsSide : {A B O : Type 0} → (A → Poll O → A → Type 0) → (B → Poll O → B → Type 0)
    → Either A B → Poll O → Either A B → Type 0
PollsSide {A} left right (Left a) answer new = (next : A) × left a answer next × (new ≡ Left next)
PollsSide {A} {B} left right (Right b) answer new = (next : B) × right b answer next × (new ≡ Right next)
