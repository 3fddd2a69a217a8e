use Rattle.futures_buffered_table.proofs.Common.{◌≡◌, entry_before, words_in_order}
use Rattle.futures_buffered_table.proofs.words.mark_in_order.Given as goal

abbrev pub invariant-slots : goal.invariant-slots
invariant-slots l =
    record {
      written : l.words ≡ words_in_order l.capacity l.slot;
      before : l.before ≡ entry_before l.capacity l.slot;
    }
