use Rattle.futures_buffered_ordered.proofs.Common.{common_steps, rules, arith}
use Rattle.futures_buffered_ordered.proofs.OrderedEntriesInvariantLemmas.{kept_is_numbered, kept_within, kept_yields}
use Rattle.futures_buffered_ordered.proofs.ordered_entries.OrderedEntries.keep_next.Goals as goal

pub index_mut-requires : goal.index_mut-requires
index_mut-requires g c =
    let set = g.Q.NumberedSet in
    let queue = c.self.inside in
    let within = kept_within set.with_number set.count set.keeps g.Q.NumberedPolls _ _ _ _ queue.outgoing queue.room _ c.in-Ready-Some.output queue.entries.items _ c.in-Ready-Some.field-0-is c.in-Ready-Some.ensures (search rules) (omega (arith, queue.entries.ok.0, queue.entries.small.0, queue.entries.small.1)) (rw (← c.self.view_is) at c.requires.numbered) in
    grind (arith, common_steps, within)

pub returns-in-Ready-Some-clause-gave : goal.returns-in-Ready-Some-clause-gave
returns-in-Ready-Some-clause-gave g c =
    let set = g.Q.NumberedSet in
    let queue = c.self.inside in
    let runs = rw (← c.self.view_is) at c.requires.runs in
    rw (← c.self.view_is) (_, kept_yields set.with_number set.count set.keeps g.Q.NumberedPolls _ _ _ _ queue.outgoing queue.room _ c.in-Ready-Some.output queue.entries.items _ c.in-Ready-Some.field-0-is c.in-Ready-Some.ensures (search rules) (omega (arith, queue.entries.ok.0, queue.entries.small.0, queue.entries.small.1)) (rw (← c.self.view_is) at c.requires.numbered) runs)

pub returns-in-Ready-Some-clause-numbered : goal.returns-in-Ready-Some-clause-numbered
returns-in-Ready-Some-clause-numbered g c =
    let set = g.Q.NumberedSet in
    let queue = c.self.inside in
    kept_is_numbered set.with_number set.count set.keeps g.Q.NumberedPolls _ _ _ _ queue.outgoing queue.room _ c.in-Ready-Some.output queue.entries.items _ c.in-Ready-Some.field-0-is c.in-Ready-Some.ensures (search rules) (omega (arith, queue.entries.ok.0, queue.entries.small.0, queue.entries.small.1)) (rw (← c.self.view_is) at c.requires.numbered)
