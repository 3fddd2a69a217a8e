use Rattle.futures_buffered_unordered.proofs.Common.{◌≡◌, ◌≤◌, Covers, slot_count}
use Rattle.futures_buffered_unordered.proofs.PollsBoundedLemmas.{SoFar}
use Rattle.futures_buffered_unordered.proofs.futures_unordered_bounded.BoundedSet.poll_first_registered.Given as goal

abbrev pub invariant-names : goal.invariant-names
invariant-names g l =
    let source = g.S.ReadySource in
    record {
      so_far : SoFar g.R.PollOne source l.fn.self l._count l.self-inside.slots l.self-inside.source;
      same_size : source.slots l.self-inside.source ≡ slot_count l.self-inside.slots;
      some_names : 1 ≤ l.self-inside.limit;
      same_limit : l.self-inside.limit ≡ l.fn.self.limit;
      covers : Covers l.cx (source.needs l.self-inside.source);
      same_context : l.cx ≡ l.fn.cx;
    }
