use Rattle.fbuf_program.proofs.Common.{◌≡◌, ℕ, length, take, drop, Appends}
use Rattle.fbuf_program.proofs.script.write_all.Given as goal

abbrev pub invariant-loop-rest : goal.invariant-loop-rest
invariant-loop-rest g l =
    record {
      written : (count : ℕ) × (l.rest ≡ drop count l.text)
          × Appends (g.W.Write.contents l.fn.output.inner) (g.W.Write.contents l.output.inner)
          (take count l.text);
      unfailed : l.output.failed ≡ l.fn.output.failed;
    }

abbrev pub decreases-loop-rest : goal.decreases-loop-rest
decreases-loop-rest g l = length l.rest
