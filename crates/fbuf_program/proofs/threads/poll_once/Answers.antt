use Rattle.fbuf_program.proofs.Common.{Ready, Pending}
use Rattle.fbuf_program.proofs.ThreadsLemmas.{poll_gave, poll_left}
use Rattle.fbuf_program.proofs.threads.poll_once.Goals as goal

pub returns-in-Ready-clause-numbers : goal.returns-in-Ready-clause-numbers
returns-in-Ready-clause-numbers g c =
    poll_gave _ _ c.args.set.now c.poll_with-polled.new.self (Ready c.in-Ready.first)
    _ _ c.in-Ready.ensures

pub returns-clause-numbers : goal.returns-clause-numbers
returns-clause-numbers g c =
    poll_left _ _ c.args.set.now c.poll_with-polled.new.self Pending
    _ _ c.in-Pending.ensures
