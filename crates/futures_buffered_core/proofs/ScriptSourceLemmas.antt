-- What a taking leaves of a list of answers.
use Rattle.futures_buffered_core.proofs.Common.{◌≡◌, ℕ, suc, List, ◌++◌, length, Option, Some, None, ap, arith, option_to_list, Taken, Slot, NamesAllBelow}

-- the answers after the first name slots below the capacity, as all did
pub NamesAllBelow-rest : (cap : ℕ) (answers rest : List Taken) (given : Option Taken) → NamesAllBelow Slot cap answers (length answers)
    → answers ≡ option_to_list given ++ rest → NamesAllBelow Slot cap rest (length rest)
NamesAllBelow-rest cap answers rest None all e p i below named = all p i (omega (arith, ap length e)) (rw e named)
NamesAllBelow-rest cap answers rest (Some first) all e p i below named = all (suc p) i (omega (arith, ap length e)) (rw e named)
