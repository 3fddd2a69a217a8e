-- What one poll of a future of a closure makes of it.
use Rattle.std.specs.Fn.{Mut, Called}
use denote.Ref.{Bor}
use Rattle.futures.specs.declared.task.Poll.{Poll}

-- the closure is called once with a waker of which `is_its_own` holds, and the poll returns what that call returns
abbrev pub CallsWith : {C W T : Type 0} → (W → Type 0) → Mut C (Bor W × Unit {0}) (Poll T) → C → Poll T → C → Type 0
CallsWith {C} {W} is_its_own g old answer new =
    (waker : Bor W) × is_its_own waker.now × Called g old (waker, tt) answer new
