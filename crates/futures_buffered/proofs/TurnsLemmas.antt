-- What turns one after another leave.
use Rattle.futures_buffered.proofs.Common.{◌∙◌, None, Context, Poll, Ready, Pending, TurnsOf, TurnLeaves}

-- a turn after which another may follow
abbrev pub GoesOn : {V A : Type 0} → TurnsOf V A → V × Context → Unit {0} → V × Context → Type 0
GoesOn future old _ new = future.turns old.0 None new.0 old.1 new.1

-- what a turn leaves after others, the poll leaves
pub leaves_then : {V A : Type 0} (future : TurnsOf V A) (old now new : V) (answer : Poll A) (cx between left : Context) → TurnLeaves future old Pending now cx between → TurnLeaves future now answer new between left → TurnLeaves future old answer new cx left
leaves_then future old now new (Ready x) cx between left so last =
    record { value = so.same x last.value; ended = last.ended; same = tt; again = tt; limit = last.limit ∙ so.limit; kept = λ fact h. last.kept fact (so.kept fact h) }
leaves_then future old now new Pending cx between left so last =
    record { value = tt; ended = tt; same = λ x h. so.same x (last.same x h); again = last.again; limit = last.limit ∙ so.limit; kept = λ fact h. last.kept fact (so.kept fact h) }
