use Rattle.futures_buffered.proofs.StreamLemmas.{one_of_each}
use Rattle.guide.proofs.proved.callers.queue_outputs.Goals as goal

pub returns : goal.returns
returns g c =
    let collected = rw (c.in_ok-branch.was, c.collect.ensures.0, c.collect.ensures.1) at c.in_ok-block_on.ensures in
    let count = one_of_each _ _ _ collected.1 in
    cc
