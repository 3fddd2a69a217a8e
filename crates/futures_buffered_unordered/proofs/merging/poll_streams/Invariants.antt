use Rattle.futures_buffered_unordered.proofs.Common.{IsTrue, Covers, held_count, AllHeld, unless_registered}
use Rattle.futures_buffered_unordered.proofs.MergingLemmas.{GoesOn}
use Rattle.futures_buffered_unordered.proofs.merging.poll_streams.Given as goal

abbrev pub invariant-rounds : goal.invariant-rounds
invariant-rounds g l =
    let source = g.S.ReadySource in
    record {
      pollable : AllHeld g.St.SlotStream.can_poll l.set.slots;
      registered : IsTrue l.fn.is_registered → Covers l.cx (source.needs l.set.source);
      goes_on : GoesOn g.St.SlotStream (unless_registered l.fn.is_registered source) l.fn.set l.fn.cx l.set l.cx;
    }

abbrev pub decreases-rounds : goal.decreases-rounds
decreases-rounds g l = held_count l.set.slots
