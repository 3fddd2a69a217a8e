use Rattle.fbuf_program.proofs.Common.{◌≡◌, length}
use Rattle.futures.specs.Task.{Keeps}
use Rattle.fbuf_program.proofs.ScriptLemmas.{RepliesSoFar}
use Rattle.fbuf_program.proofs.script.answer_all.Given as goal

abbrev pub invariant-loop-line : goal.invariant-loop-line
invariant-loop-line g l =
    record {
      so_far : RepliesSoFar l.bytes l.rest l.session (g.W.Write.contents l.fn.output.inner)
          (g.W.Write.contents l.output.inner) l.replies.items;
      unfailed : l.output.failed ≡ l.fn.output.failed;
      kept : Keeps l.fn.cx l.cx;
    }

abbrev pub decreases-loop-line : goal.decreases-loop-line
decreases-loop-line g l = length l.rest
