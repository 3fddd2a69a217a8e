use Rattle.fbuf_lines.proofs.CommandLemmas.{rest_is, two_parts}
use Rattle.fbuf_lines.proofs.command.two.Goals as goal

pub returns-in_err-number-clause-none : goal.returns-in_err-number-clause-none
returns-in_err-number-clause-none c =
    rw (c.from_residual-in_err-number.ensures, c.in_ok-rest.was)
    (λ m n fits_m fits_n e. c.in_err-number.ensures.none m fits_m ((two_parts c.in_ok-rest.field-0.now c.cut.result.0.now _ c.cut.ensures.word (rest_is c.cut.result.1) c.cut.ensures.whole m n fits_m e).0))

pub returns-in_err-number-2-clause-none : goal.returns-in_err-number-2-clause-none
returns-in_err-number-2-clause-none c =
    rw (c.from_residual-in_err-number-2.ensures, c.in_ok-rest.was)
    (λ m n fits_m fits_n e.
    let parts = two_parts c.in_ok-rest.field-0.now c.cut.result.0.now _ c.cut.ensures.word (rest_is c.cut.result.1) c.cut.ensures.whole m n fits_m e in
    let rest = rw c.in_ok-second.was at parts.1 in
    c.in_err-number-2.ensures.none n fits_n (cc))
