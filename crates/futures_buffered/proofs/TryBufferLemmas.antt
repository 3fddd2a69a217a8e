-- What a push adds to what may come from a queue to which errors are given as well.
use Rattle.futures_buffered.proofs.Common.{Bool, false, Option, Some, None, Result, Ok, Err, refl, Runs, PushAddsOutput, TryItemGives}
use Rattle.futures_buffered.proofs.BufferLemmas.{adds_anywhere}

-- a future was pushed
pub ok_adds : {F T E Q : Type 0} (in_order : Bool) (yields : Q → Runs (Result T E)) (gives : F → Result T E → Type 0) (old new : Q) (f : F) (given : Option (Result T E)) → PushAddsOutput in_order yields (gives f) old given new
    → PushAddsOutput false yields (TryItemGives gives (Ok f)) old given new
ok_adds in_order yields gives old new f None push = record { adds = adds_anywhere (gives f) in_order (yields old) (yields new) push.adds; value = tt; overtakes = tt }
ok_adds in_order yields gives old new f (Some x) push = record { adds = tt; value = push.value; overtakes = refl }

-- an error was handed back
pub error_adds : {F T E Q : Type 0} (yields : Q → Runs (Result T E)) (gives : F → Result T E → Type 0) (q : Q) (e : E) → PushAddsOutput false yields (TryItemGives gives (Err e)) q (Some (Err e)) q
error_adds yields gives q e = record { adds = tt; value = refl; overtakes = refl }
