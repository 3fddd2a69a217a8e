use Rattle.fbuf_program.proofs.Common.{◌≡◌, ◌+◌, ◌<◌, ◌^◌, vec_len, sum}
use Rattle.fbuf_program.proofs.waking_thread.join_each.Given as goal

abbrev pub invariant-loop-count : goal.invariant-loop-count
invariant-loop-count g l = record {
  left : vec_len l.threads + l._count ≡ vec_len l.fn.threads;
  made : sum l.fn.threads.items < 2 ^ 64 → l.all + sum l.threads.items ≡ sum l.fn.threads.items;
}
