use Rattle.fbuf_program.proofs.Common.{◌≡◌, ◌+◌, ◌*◌, vec_len, vec_capacity, sum}
use Rattle.fbuf_program.proofs.threads.start.Given as goal

abbrev pub invariant-loop-thread : goal.invariant-loop-thread
invariant-loop-thread g l = record {
  len : vec_len l.started ≡ vec_len l.fn.started + l.thread;
  room : vec_capacity l.started ≡ vec_capacity l.fn.started;
  wakes : sum l.started.items ≡ sum l.fn.started.items + l.thread * l.m;
}
