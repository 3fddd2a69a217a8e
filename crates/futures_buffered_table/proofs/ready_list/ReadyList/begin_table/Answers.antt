use Rattle.futures_buffered_table.proofs.Common.{rules, ◌≡◌, arith, words_at_first, take-replicate}
use Rattle.futures_buffered_table.proofs.BeginningLemmas.{begins}
use Rattle.futures_buffered_table.proofs.ready_list.ReadyList.begin_table.Goals as goal

pub of_words-requires : goal.of_words-requires
of_words-requires c = begins c.args.key c.as_slice.result.now
    (let a : c.as_slice.result.now ≡ words_at_first c.args.key = search rules in a)

pub fill_words-requires : goal.fill_words-requires
fill_words-requires c = (c.requires, take-replicate _ 10 0 (let a = c.if-key-gt-FEW.false in omega arith))

pub of_words-requires-2 : goal.of_words-requires-2
of_words-requires-2 c = begins c.args.key c.fill_words.new.words c.fill_words.ensures
