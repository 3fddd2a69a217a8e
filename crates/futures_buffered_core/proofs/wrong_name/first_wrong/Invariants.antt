use Rattle.futures_buffered_core.proofs.Common.{NamesAllBelow}
use Rattle.futures_buffered_core.proofs.wrong_name.first_wrong.Given as goal

abbrev pub invariant-loop-p : goal.invariant-loop-p
invariant-loop-p g l = NamesAllBelow g.X.NamesSlot.naming l.cap l.entries l.p
