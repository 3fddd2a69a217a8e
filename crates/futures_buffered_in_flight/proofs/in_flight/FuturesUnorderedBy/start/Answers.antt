use Rattle.futures_buffered_in_flight.proofs.Common.{◌++◌, ◌∷◌, [], List, ap₂, ◌∙◌, Waits}
use Rattle.futures_buffered_in_flight.proofs.InFlightLemmas.{left_waiting}
use Rattle.futures_buffered_in_flight.proofs.in_flight.FuturesUnorderedBy.start.Goals as goal

pub returns-in-Err : goal.returns-in-Err
returns-in-Err g c =
    left_waiting g.F.Future c.args.self.now _ c.args.value c.requires.waits c.requires.new
    (rw (← c.self.view_is) at c.in-Err.ensures.pollable)
    (rw (← c.self.view_is) at c.in-Err.ensures.refused)
    (rw (← c.self.view_is) at c.in-Err.ensures.no_more)
    (rw (← c.self.view_is) at c.in-Err.ensures.slots.0)
    (rw (← c.self.view_is) at c.in-Err.ensures.slots.1)
    (rw (← c.self.view_is) at c.in-Err.ensures.room.0)
    (c.push_back_reserved.ensures.items ∙ ap₂ (λ (ws : List (Waits g.row.F.Denot)) (w : Waits g.row.F.Denot). ws ++ w ∷ []) (rw (← c.self.view_is) at c.in-Err.ensures.room.1) c.in-Err.ensures.back)
