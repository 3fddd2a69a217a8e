use Rattle.fbuf_lines.proofs.CommandLemmas.{decimal_starts, number_some, number_none, not_utf8}
use Rattle.fbuf_lines.proofs.CommandLemmas.{same_text}
use Rattle.std.proofs.Common.{sym, ◌∙◌}
use Rattle.fbuf_lines.proofs.command.number.Goals as goal

pub returns-then-not-starts_as_number-clause-none : goal.returns-then-not-starts_as_number-clause-none
returns-then-not-starts_as_number-clause-none c = λ n fits same.
    let starts = c.starts_as_number.ensures.1 (rw same (decimal_starts n fits)) in
    let not = c.if-not-starts_as_number.true in
    cc

pub returns-in_err-ok-clause-none : goal.returns-in_err-ok-clause-none
returns-in_err-ok-clause-none c = rw c.from_residual.ensures (not_utf8 c.args.text.now _ _ _ (sym c.ok.ensures.value ∙ c.in_err-ok.was) c.from_utf8.ensures.cases)

pub returns-clause-some : goal.returns-clause-some
returns-clause-some c =
    let same = same_text c.args.text.now _ _ _ c.in_ok-ok.field-0 (sym c.ok.ensures.value ∙ c.in_ok-ok.was) c.from_utf8.ensures.cases in
    rw c.ok-2.ensures.value
    (number_some c.args.text.now c.parse.result (c.starts_as_number.ensures.0 c.if-not-starts_as_number.false) (rw same at c.parse.ensures.value.0))

pub returns-clause-none : goal.returns-clause-none
returns-clause-none c =
    let same = same_text c.args.text.now _ _ _ c.in_ok-ok.field-0 (sym c.ok.ensures.value ∙ c.in_ok-ok.was) c.from_utf8.ensures.cases in
    rw c.ok-2.ensures.value (number_none c.args.text.now c.parse.result (rw same at c.parse.ensures.value.0))
