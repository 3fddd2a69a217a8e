-- What one poll makes of a future that is followed by another.
use Rattle.std.specs.Prelude.{◌≡◌, ◌⊎◌}
use Rattle.futures.specs.declared.task.Poll.{Poll}
use Rattle.futures.specs.declared.task.Poll.TheVariants.{Ready, Pending}
use Rattle.futures_buffered_held.specs.declared.then.Then.{Then}
use Rattle.futures_buffered_held.specs.declared.then.Then.TheVariants.{First, Second, Gone}

module _
    {F B C A O : Type 0}
    (first_polled : F → Poll A → F → Type 0)
    (second_polled : B → Poll O → B → Type 0)
    (post : C → A → B → Type 0)
  where
    -- the first future is ready, the closure makes the second of its output, and the second is polled once
    abbrev pub ThenGoesOn : F → C → Poll O → Then F B C → Type 0
    ThenGoesOn future change answer new = (x : A) × (left : F) × (second after : B)
        × first_polled future (Ready x) left × post change x second
        × second_polled second answer after × (new ≡ Second after)

    -- one poll: a pending first future stays, and a ready one is followed by the second; a second future is polled
    -- once; `Gone` is pending
    abbrev pub Follows : Then F B C → Poll O → Then F B C → Type 0
    Follows (First future change) (Ready y) new = ThenGoesOn future change (Ready y) new
    Follows (First future change) Pending new = ThenGoesOn future change Pending new
        ⊎ ((left : F) × first_polled future Pending left × (new ≡ First left change))
    Follows (Second second) answer new = (after : B) × second_polled second answer after × (new ≡ Second after)
    Follows Gone answer new = (answer ≡ Pending) × (new ≡ Gone)
