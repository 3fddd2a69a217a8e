-- What a contract sees of the bells of a set in flight.
use Rattle.std.specs.Arc.{arc_value}
use Rattle.atomic_table.specs.Seated.{TableId}
use Rattle.futures_buffered_in_flight.specs.declared.bells.Bells.{Bells}

-- the ledger whose notes the runs of these bells read
abbrev pub notes_of : Bells → TableId
notes_of bells = arc_value bells.notes
