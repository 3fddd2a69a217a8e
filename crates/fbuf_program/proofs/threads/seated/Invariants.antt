use Rattle.fbuf_program.proofs.Common.{◌≡◌, ◌+◌, ◌≤◌, length, vec_len, vec_capacity, range_with_len, AllHeld, HoldsNumbers}
use Rattle.fbuf_program.proofs.threads.seated.Given as goal

abbrev pub invariant-loop-number : goal.invariant-loop-number
invariant-loop-number g l = record {
  len : vec_len l.seats ≡ l.number;
  room : l.n ≤ vec_capacity l.seats;
  free : length l.set.slots.free + l.number ≡ l.n;
  numbers : HoldsNumbers l.set.slots (range_with_len 0 l.number);
  goals : AllHeld (λ future. future.goal ≡ l.m) l.set.slots;
}
