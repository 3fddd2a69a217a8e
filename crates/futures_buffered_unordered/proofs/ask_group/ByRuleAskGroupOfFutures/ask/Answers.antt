use Rattle.futures_buffered_unordered.proofs.Common.{◌≡◌, true, false, rules, unless_registered}
use Rattle.futures_buffered_unordered.proofs.FuturesUnorderedStreamLemmas.{keeps_polled, unless_waits}
use Rattle.futures_buffered_unordered.proofs.PollsBoundedLemmas.{poll_leaves}
use Rattle.futures_buffered_unordered.proofs.ask_group.ByRuleAskGroupOfFutures.ask.Goals as goal

pub returns-then-is_registered-clause-keeps : goal.returns-then-is_registered-clause-keeps
returns-then-is_registered-clause-keeps g c =
    let source = g.S.ReadySource in
    let waits = g.met.S.NewSource.waits in
    keeps_polled g.R.PollOne (unless_registered true source) (unless_waits source true waits.register_waits) waits.take_waits _ _ _ _ _ c.poll_registered.ensures

pub returns-else-is_registered-clause-keeps : goal.returns-else-is_registered-clause-keeps
returns-else-is_registered-clause-keeps g c =
    let waits = g.met.S.NewSource.waits in
    keeps_polled g.R.PollOne g.S.ReadySource waits.register_waits waits.take_waits _ _ _ _ _ c.poll_with.ensures

pub returns-then-is_registered-clause-polls : goal.returns-then-is_registered-clause-polls
returns-then-is_registered-clause-polls g c =
    let already : c.args.is_registered ≡ true = search rules in
    rw already c.poll_registered.ensures

pub returns-else-is_registered-clause-polls : goal.returns-else-is_registered-clause-polls
returns-else-is_registered-clause-polls g c =
    let new_one : c.args.is_registered ≡ false = search rules in
    rw new_one c.poll_with.ensures

pub returns-then-is_registered-clause-leaves : goal.returns-then-is_registered-clause-leaves
returns-then-is_registered-clause-leaves g c _ = poll_leaves g.R.PollOne g.S.ReadySource _ _ _ _ _ c.poll_registered.ensures
