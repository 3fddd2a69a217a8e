use Rattle.std.proofs.Common.{◌≡◌, ◌+◌}
use Rattle.futures_buffered.specs.FuturesUnorderedBounded.{held_in, slots_in}
use Rattle.guide.proofs.proved.callers.push_each.Given as goal

abbrev pub invariant-loop-at : goal.invariant-loop-at
invariant-loop-at l =
    record {
      held : held_in l.set ≡ held_in l.fn.set + l.at;
      slots : slots_in l.set ≡ slots_in l.fn.set;
    }
