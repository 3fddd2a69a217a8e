use Rattle.std.proofs.Common.{arith, add-one, length, ◌+◌}
use Rattle.std.proofs.lemmas.List.{take_rest}
use Rattle.std.proofs.Math.Seq.{drop-length}
use Rattle.std.proofs.lemmas.Bool.Decides.{nat_tests}
use Rattle.fbuf_lines.proofs.LinesLemmas.{lines_of-feed, lines_of-last}
use Rattle.fbuf_lines.proofs.lines.first_line.Goals as goal

pub returns-in-Some-clause-first : goal.returns-in-Some-clause-first
returns-in-Some-clause-first c =
    let found = c.in-Some.ensures in
    rw (take_rest c.args.text.now (c.in-Some.end + 1), add-one)
    (lines_of-feed c.args.text.now c.in-Some.end found.0.high found.0.before found.1)

pub returns-in-None-clause-first : goal.returns-in-None-clause-first
returns-in-None-clause-first c =
    rw (take_rest c.args.text.now (length c.args.text.now), drop-length c.args.text.now)
    (lines_of-last c.args.text.now (grind (arith, nat_tests, c.is_empty.ensures, c.if-is_empty.false)) c.in-None.ensures)
