use Rattle.std.specs.Prelude.{◌≡◌, ◌+◌}
use Rattle.futures_buffered.specs.FuturesUnorderedBounded.{held_in, slots_in}
use Rattle.futures_buffered_tests.proofs.words.push_four.Given as goal

abbrev pub invariant-loop-number : goal.invariant-loop-number
invariant-loop-number l =
    record {
      held : held_in l.set ≡ held_in l.fn.set + l._number;
      slots : slots_in l.set ≡ slots_in l.fn.set;
    }
