use Rattle.futures_buffered_joins.proofs.Common.{sym, ◌∙◌}
use Rattle.futures_buffered_joins.proofs.join_by.JoinByFuture.poll.Goals as goal

pub fill-requires : goal.fill-requires
fill-requires g c = record { waits = rw c.in-Some.is at c.self.invariant; held = rw (sym c.self.view_is ∙ c.in-Some.is) at c.requires }

pub returns-in-Ready-Err : goal.returns-in-Ready-Err
returns-in-Ready-Err g c =
    let ended = rw c.in-Ready-Err.field-0-is at c.in-Ready-Err.ensures in
    rw (sym c.self.view_is ∙ c.in-Some.is) (ended _ c.answer-in-Ready-Err.ensures)

pub returns-in-Some-take : goal.returns-in-Some-take
returns-in-Some-take g c =
    let filled = rw c.in-Ready-Ok.field-0-is at c.in-Ready-Ok.ensures in
    let taken = sym c.take.ensures.value ∙ c.in-Some-take.is in
    let gathered = c.gather.ensures in
    rw (sym c.self.view_is ∙ c.in-Some.is, c.take.ensures.after) (filled.1 _ c.gather.result.items (cc) c.answer-in-Some-take.ensures)
