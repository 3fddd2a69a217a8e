use Rattle.futures_buffered_unordered.proofs.Common.{arith}
use Rattle.futures_buffered_unordered.proofs.FuturesUnorderedLemmas.{covered_of}
use Rattle.futures_buffered_unordered.proofs.MergeUnboundedLemmas.{ends_of, held_of}
use Rattle.futures_buffered_unordered.proofs.merge_unbounded.MergeUnboundedStream.poll_next.Goals as goal

pub returns : goal.returns
returns g c =
    let source = g.S.ReadySource in
    let poll = c.poll_groups.ensures in
    record {
      groups = grind arith;
      ends = ends_of g.St.SlotStream source _ _ _ _ _ poll.gave;
      registered = covered_of source.needs c.poll_groups.new.cx c.poll_groups.result c.poll_groups.new.self.groups.listed poll.covered (held_of g.St.SlotStream source _ _ _ _ _ poll.gave);
    }
