use Rattle.fbuf_program.proofs.Common.{◌++◌, take, flat_map, Appends, spaced_number, threads_text}
use Rattle.fbuf_program.proofs.threads.write_line.Given as goal

abbrev pub invariant-loop-number : goal.invariant-loop-number
invariant-loop-number g l =
    Appends (g.W.Write.contents l.fn.output) (g.W.Write.contents l.output)
    (threads_text l.fn.n l.fn.made ++ flat_map spaced_number (take l.number-index l.outputs))
