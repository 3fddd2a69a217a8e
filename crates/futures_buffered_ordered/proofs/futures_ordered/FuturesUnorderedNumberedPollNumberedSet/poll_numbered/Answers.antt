use Rattle.futures_buffered_ordered.proofs.Common.{rules}
use Rattle.futures_buffered_ordered.proofs.FuturesOrderedLemmas.{numbers_left}
use Rattle.futures_buffered_ordered.proofs.futures_ordered.FuturesUnorderedNumberedPollNumberedSet.poll_numbered.Goals as goal

pub returns : goal.returns
returns g c =
    let poll = c.poll_with.ensures in
    record {
      gave = poll;
      empty = search rules;
      fewer = poll.count;
      numbers = λ i. numbers_left g.R.PollOne g.S.ReadySource i _ _ _ _ _ poll;
      set = poll.groups.limit;
      covered = poll.registered;
      kept = poll.groups.kept;
      pollable = poll.groups.pollable;
    }
