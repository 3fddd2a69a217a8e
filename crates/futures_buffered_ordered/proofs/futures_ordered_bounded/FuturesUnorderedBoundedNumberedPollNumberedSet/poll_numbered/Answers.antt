use Rattle.futures_buffered_ordered.proofs.Common.{poll_counted}
use Rattle.futures_buffered_ordered.proofs.FuturesOrderedBoundedLemmas.{set_covered, set_empty}
use Rattle.futures_buffered_ordered.proofs.NumberedLemmas.{numbers_polled}
use Rattle.futures_buffered_ordered.proofs.futures_ordered_bounded.FuturesUnorderedBoundedNumberedPollNumberedSet.poll_numbered.Goals as goal

pub returns : goal.returns
returns g c =
    let source = g.S.ReadySource in
    let poll = c.poll_with.ensures in
    record {
      gave = poll;
      empty = set_empty _ source _ _ _ _ _ poll;
      fewer = poll_counted _ source _ _ _ _ _ poll;
      numbers = λ i. numbers_polled i g.R.PollOne source _ _ _ _ _ poll;
      set = record { capacity = poll.capacity; limit = poll.limit };
      covered = set_covered _ source _ _ _ _ _ poll;
      kept = poll.kept;
      pollable = poll.pollable;
    }
