-- What a rule makes of an output and of an answer, for each of the two rules.
use Rattle.std.specs.Prelude.{List, Vec, Result, Ok, Err}
use Rattle.std.specs.declared.alloc.Global.{Global}
use Rattle.futures_buffered_joins.specs.declared.join.AllOutputs.{AllOutputs}

-- what an answer shows: all that was kept, in the order of the places, or the error that ended the join
abbrev pub Outcome : Type 0 → Type 0 → Type 0
Outcome A E = Result (List A) E

-- each output is kept as it is, and none ends the join early
abbrev pub kept_as_it_is : {O : Type 0} → Result O AllOutputs → O
kept_as_it_is (Ok output) = output
kept_as_it_is (Err never) = elim never [ ]

-- an answer shows all outputs
abbrev pub shown_as_all : {O : Type 0} → Vec O Global → Outcome O AllOutputs
shown_as_all outputs = Ok outputs.items

-- an answer shows all that was kept, or the error that ended the join
abbrev pub shown_by_result : {A E : Type 0} → Result (Vec A Global) E → Outcome A E
shown_by_result (Ok outputs) = Ok outputs.items
shown_by_result (Err e) = Err e
