use Rattle.futures_buffered_unordered.proofs.Common.{◌≡◌, true, false, rules}
use Rattle.futures_buffered_unordered.proofs.PollsBoundedLemmas.{takes_after, takes_registered}
use Rattle.futures_buffered_unordered.proofs.futures_unordered_bounded.BoundedSet.poll_round.Goals as goal

pub returns-then-is_registered : goal.returns-then-is_registered
returns-then-is_registered g c =
    let already : c.args.is_registered ≡ true = search rules in
    rw already (takes_registered g.R.PollOne g.S.ReadySource _ _ _ _ _ c.poll_first_registered.ensures)

pub returns : goal.returns
returns g c =
    let new_one : c.args.is_registered ≡ false = search rules in
    let registered = c.register.ensures in
    rw new_one (rw (← c.self.view_is) (takes_after g.R.PollOne g.S.ReadySource _ _ c.register.new.self _ _ _ _ registered.registered registered.poll registered.kept c.poll_first_registered-2.ensures))
