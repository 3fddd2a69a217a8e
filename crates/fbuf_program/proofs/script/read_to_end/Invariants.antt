use Rattle.fbuf_program.proofs.Common.{◌≡◌, ◌≤◌, vec_len, Consumes}
use Rattle.fbuf_program.proofs.script.read_to_end.Given as goal

abbrev pub invariant-loop : goal.invariant-loop
invariant-loop g l =
    record {
      read : Consumes (g.R.Read.remaining l.fn.input.inner) (g.R.Read.remaining l.input.inner)
          l.bytes.items;
      unfailed : l.input.failed ≡ l.fn.input.failed;
      longer : l.counter ≤ vec_len l.bytes;
    }
