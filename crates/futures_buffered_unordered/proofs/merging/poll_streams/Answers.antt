use Rattle.futures_buffered_unordered.proofs.Common.{arith, rules, subst, sym, common_steps, Covers, Bounded, unless_registered}
use Rattle.futures_buffered_unordered.proofs.MergingLemmas.{polls_item, polls_none, polls_pending, round_ends}
use Rattle.futures_buffered_unordered.proofs.merging.poll_streams.Goals as goal

pub rounds-preserved : goal.rounds-preserved
rounds-preserved g c =
    let source = unless_registered c.args.is_registered g.S.ReadySource in
    let asks = rw c.in-Ready-default-None.field-0-1-is at c.in-Ready-default-None.ensures in
    let freed = c.empty_slot.ensures in
    record {
      pollable = grind (arith, common_steps);
      registered = λ _. subst (λ (b : Bounded g.row.St.Denot g.row.S.Denot). Covers c.poll_round.new.cx (g.S.ReadySource.needs b.source)) (sym freed.emptied) asks.takes.covered;
      goes_on = λ answer last after p. c.rounds.invariant.goes_on answer last after (round_ends g.St.SlotStream source _ _ _ (search rules) _ _ c.in-Ready-default-None.i asks freed.emptied freed.count freed.capacity answer last after p);
    }

pub returns-in-Ready-default-Some : goal.returns-in-Ready-default-Some
returns-in-Ready-default-Some g c =
    let source = unless_registered c.args.is_registered g.S.ReadySource in
    let marked = c.mark_slot-woke.ensures in
    c.rounds.invariant.goes_on _ _ _ (polls_item g.St.SlotStream source _ _ _ (search rules) _ _ c.in-Ready-default-Some.i c.in-Ready-default-Some.item c.mark_slot-woke.result (rw c.in-Ready-default-Some.field-0-1-is at c.in-Ready-default-Some.ensures) marked.marked marked.slots marked.limit)

pub returns-in-Pending : goal.returns-in-Pending
returns-in-Pending g c = c.rounds.invariant.goes_on _ _ _ (polls_pending g.St.SlotStream (unless_registered c.args.is_registered g.S.ReadySource) _ _ _ (search rules) _ c.in-Pending.ensures)

pub returns : goal.returns
returns g c = c.rounds.invariant.goes_on _ _ _ (polls_none g.St.SlotStream (unless_registered c.args.is_registered g.S.ReadySource) c.rounds.set _ (search rules) c.rounds.invariant.pollable)
