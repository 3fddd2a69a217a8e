use Rattle.futures_buffered_core.proofs.Common.{◌≡◌, range_with_len, MarksEach}
use Rattle.futures_buffered_core.proofs.ready_source.NewSource.make_marked.Given as goal

abbrev pub invariant-slots : goal.invariant-slots
invariant-slots g l =
    record {
      marked : MarksEach g.Self.ReadySource.marks l.initial.source (range_with_len 0 l.i) l.source;
      same_size : g.Self.ReadySource.slots l.source ≡ l.cap;
    }
