-- A queue of futures to which errors are pushed also: a push of an error returns it at once. The queue inside may be
-- any that has a push.
use Rattle.std.specs.Prelude.{◌≡◌, List, filter_map, map, Option, Some, Result, Ok, Err}
use Rattle.std.specs.Result.{result_ok}
use Rattle.futures_buffered_unordered.specs.Interleaves.{Interleaves}

-- a push of a future is a push of the queue inside; a push of an error returns the error and changes nothing
abbrev pub PushesOk : {F T E Q : Type 0} → (Q → F → Option (Result T E) → Q → Type 0)
    → Q → Result F E → Option (Result T E) → Q → Type 0
PushesOk pushes old (Ok future) given new = pushes old future given new
PushesOk pushes old (Err error) given new = (given ≡ Some (Err error)) × (new ≡ old)

-- a future gives one of its outputs, and an error gives itself
abbrev pub TryItemGives : {F T E : Type 0} → (F → Result T E → Type 0) → Result F E → Result T E → Type 0
TryItemGives gives (Ok future) x = gives future x
TryItemGives gives (Err error) x = x ≡ Err error

-- the futures among these items
abbrev pub futures_of : {F E : Type 0} → List (Result F E) → List F
futures_of = filter_map result_ok

-- `given` is the outputs, with some errors between them, each as an answer
abbrev pub WithErrors : {T E : Type 0} → List (Result T E) → List (Result T E) → Type 0
WithErrors {T} {E} outputs given = (errors : List E) × Interleaves outputs (map Err errors) given
