use Rattle.fbuf_program.proofs.Common.{ap, refl, ◌∙◌, times_in}
use Rattle.fbuf_program.proofs.threads.outputs_of.Goals as goal

pub returns-in-Ok-Ok-clause-numbers : goal.returns-in-Ok-Ok-clause-numbers
returns-in-Ok-Ok-clause-numbers g c =
    let gathered =
    rw (c.in-Ok-Ok.field-0-is, c.collect.ensures.0, c.collect.ensures.1) at c.in-Ok-Ok.ensures in
    λ k. ap (λ numbers. times_in numbers k) gathered.2 ∙ gathered.1.each refl k
