use Rattle.guide.proofs.proved.callers.set_outputs.Goals as goal

pub returns : goal.returns
returns g c =
    let collected = rw (c.in_ok-branch.was, c.collect.ensures.0, c.collect.ensures.1) at c.in_ok-block_on.ensures in
    let count = collected.1.ends in
    cc
