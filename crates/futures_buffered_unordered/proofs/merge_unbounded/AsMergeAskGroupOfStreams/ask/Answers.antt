use Rattle.futures_buffered_unordered.proofs.Common.{◌≡◌, true, rules, unless_registered}
use Rattle.futures_buffered_unordered.proofs.FuturesUnorderedStreamLemmas.{unless_waits}
use Rattle.futures_buffered_unordered.proofs.MergeUnboundedLemmas.{alike_merged}
use Rattle.futures_buffered_unordered.proofs.MergingLemmas.{merged_leaves}
use Rattle.futures_buffered_unordered.proofs.merge_unbounded.AsMergeAskGroupOfStreams.ask.Goals as goal

pub returns-clause-keeps : goal.returns-clause-keeps
returns-clause-keeps g c =
    let source = g.S.ReadySource in
    let waits = g.met.S.NewSource.waits in
    let it = c.poll_streams.ensures in
    let b = c.args.is_registered in
    record {
      fewer = it.fewer;
      pending_holds = it.pending;
      ended_is_empty = it.ends;
      same_kind = record { same_slots = it.capacity; same_limit = it.limit; waits = alike_merged g.St.SlotStream (unless_registered b source) (unless_waits source b waits.register_waits) waits.mark_waits waits.take_waits _ _ _ _ _ it };
    }

pub returns-clause-polls : goal.returns-clause-polls
returns-clause-polls g c = c.poll_streams.ensures

pub returns-clause-covered : goal.returns-clause-covered
returns-clause-covered g c = c.poll_streams.ensures.covered

pub returns-clause-kept : goal.returns-clause-kept
returns-clause-kept g c = c.poll_streams.ensures.kept

pub returns-clause-leaves : goal.returns-clause-leaves
returns-clause-leaves g c registered =
    let already : c.args.is_registered ≡ true = search rules in
    merged_leaves g.St.SlotStream g.S.ReadySource _ _ _ _ _ (rw already at c.poll_streams.ensures)
