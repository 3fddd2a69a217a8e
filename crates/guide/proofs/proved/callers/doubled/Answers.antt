use Rattle.std.proofs.Common.{◌*◌, map, ap, ◌∙◌, rules}
use Rattle.futures_buffered.specs.BufferUnordered.{MayGiveInSlot}
use Rattle.futures_buffered.specs.FuturesOrderedBounded.{SetMayGive}
use Rattle.futures_buffered.specs.OrderedEntries.{ComesInOrder}
use Rattle.guide.specs.Doubling.{Doubles}
use Rattle.futures_buffered.proofs.StreamLemmas.{collected, gave_all}
use Rattle.guide.proofs.DoublingLemmas.{gives_twice}
use Rattle.guide.proofs.proved.callers.doubled.Goals as goal

pub returns : goal.returns
returns g c =
    let fresh = c.in_ok-outputs.ensures.made in
    let outputs = c.in_ok-outputs.outputs in
    let came = rw (c.in_ok-branch.was, c.collect.ensures.0, c.collect.ensures.1) at c.in_ok-block_on.ensures in
    let gave =
    collected (MayGiveInSlot (λ _. Doubles)) (λ job. 2 * job.number) (λ job x may. gives_twice job x may.1) _ outputs.stream _
    (ComesInOrder (SetMayGive (λ _. Doubles)) outputs.queue) came.0 fresh.same_stream
    (λ ys none. (rw fresh.new_queue.no_entries at none).0)
    came.1 in
    let given = gave_all c.iter.result.iter c.args.jobs.items gave.0 c.iter.ensures.0 (search rules) gave.1 in
    came.2 ∙ gave.2 ∙ ap (map (λ job. 2 * job.number)) given
