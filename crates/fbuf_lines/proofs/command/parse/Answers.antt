use Rattle.std.proofs.Common.{sym, ◌∙◌}
use Rattle.fbuf_lines.proofs.CommandLemmas.{no_bare_word, other_word}
use Rattle.fbuf_lines.proofs.command.parse.Goals as goal

pub returns-then-is_some : goal.returns-then-is_some
returns-then-is_some c = λ command writable e.
    no_bare_word c.args.line.now c.cut.result.0.now c.cut.result.1 c.cut.ensures.word c.cut.ensures.whole (sym c.is_some.ensures ∙ c.if-is_some.true)
    (other_word c.cut.result.0.now _ _ _ c.eq.ensures c.if-eq.false c.as_slice.ensures)
    (other_word c.cut.result.0.now _ _ _ c.eq-2.ensures c.if-eq-2.false c.as_slice-2.ensures)
    (other_word c.cut.result.0.now _ _ _ c.eq-3.ensures c.if-eq-3.false c.as_slice-3.ensures)
    (other_word c.cut.result.0.now _ _ _ c.eq-4.ensures c.if-eq-4.false c.as_slice-4.ensures)
    (other_word c.cut.result.0.now _ _ _ c.eq-5.ensures c.if-eq-5.false c.as_slice-5.ensures)
    (other_word c.cut.result.0.now _ _ _ c.eq-6.ensures c.if-eq-6.false c.as_slice-6.ensures)
    (other_word c.cut.result.0.now _ _ _ c.eq-7.ensures c.if-eq-7.false c.as_slice-7.ensures)
    (other_word c.cut.result.0.now _ _ _ c.eq-8.ensures c.if-eq-8.false c.as_slice-8.ensures)
    (other_word c.cut.result.0.now _ _ _ c.eq-9.ensures c.if-eq-9.false c.as_slice-9.ensures)
    (other_word c.cut.result.0.now _ _ _ c.eq-10.ensures c.if-eq-10.false c.as_slice-10.ensures)
    (other_word c.cut.result.0.now _ _ _ c.eq-11.ensures c.if-eq-11.false c.as_slice-11.ensures)
    command e
