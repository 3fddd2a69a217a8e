use Rattle.futures_buffered_ordered.proofs.Common.{arith}
use Rattle.futures_buffered_ordered.proofs.OrderedEntriesInvariantLemmas.{numbered-length, once_numbered}
use Rattle.futures_buffered_ordered.proofs.ordered_entries.OrderedEntries.len.Goals as goal

pub returns : goal.returns
returns g c =
    let queue = c.self.inside in
    let items = queue.entries in
    rw (← c.self.view_is) (record {
      value = omega (arith, c.len.ensures, items.ok.0, numbered-length queue.outgoing items.items);
      once = once_numbered queue.outgoing items.items (omega (arith, items.ok.0, items.small.0, items.small.1));
    })
