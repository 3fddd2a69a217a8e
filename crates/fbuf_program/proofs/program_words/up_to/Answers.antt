use Rattle.fbuf_program.proofs.Common.{◌≡◌, sym, ◌∙◌, arith, decimal_injective}
use Rattle.fbuf_program.proofs.program_words.up_to.Goals as goal
use Rattle.fbuf_program.proofs.program_words.up_to.Goals.{then-n-eq0-via-then-n-eq0}
use Rattle.fbuf_program.proofs.program_words.up_to.Goals.{then-n-eq0-via-else-n-eq0+then-n-most}

pub returns-then-n-eq0-clause-none : goal.returns-then-n-eq0-clause-none
returns-then-n-eq0-clause-none c = λ m low high is.
    let same : c.in_ok-n.n ≡ m = decimal_injective c.in_ok-n.n m (search) (omega (arith, c.ranges.most.fits)) (sym c.in_ok-n.ensures.some ∙ is) in
    elim c.then-n-eq0.branch [
      | then-n-eq0-via-then-n-eq0 w ↦ omega (arith, w.if-n-eq0)
      | then-n-eq0-via-else-n-eq0+then-n-most w ↦ omega (arith, w.if-n-most)
    ]
