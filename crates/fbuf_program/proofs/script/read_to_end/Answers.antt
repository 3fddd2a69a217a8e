use Rattle.fbuf_program.proofs.Common.{arith, [], ◌++◌, append-nil, sym, Consumes-trans, Consumes-all}
use Rattle.fbuf_program.proofs.script.read_to_end.Goals as goal

pub returns-then-count-eq0-clause-ok : goal.returns-then-count-eq0-clause-ok
returns-then-count-eq0-clause-ok g c =
    let none = c.if-count-eq0.true in
    let read = rw none at c.in-Ok.ensures.bytes.0 in
    let bytes = c.loop.bytes.items in
    Consumes-all _ _ (bytes ++ []) [] bytes (Consumes-trans _ _ _ bytes [] c.loop.invariant.read read)
    (c.in-Ok.ensures.bytes.1 none (omega arith)) (sym (append-nil bytes))
