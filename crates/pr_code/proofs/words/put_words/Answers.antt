use Rattle.std.proofs.Common.{◌++◌, arith, get_or, refl}
use Rattle.pr_code.specs.Spelling.{bytes_of_words}
use Rattle.pr_code.proofs.WritingLemmas.{word_more, words_done}
use Rattle.pr_code.proofs.words.put_words.Goals as goal

pub loop-word-preserved : goal.loop-word-preserved
loop-word-preserved c =
    rw c.in_ok-put_word.ensures (word_more c.loop-word.out.items (c.args.out.now.items ++ bytes_of_words c.args.words.now) c.args.words.now c.loop-word.word-index (get_or c.args.words.now c.loop-word.word-index 0) c.loop-word-test.true refl c.loop-word.invariant)

pub returns : goal.returns
returns c = words_done c.loop-word.out.items (c.args.out.now.items ++ bytes_of_words c.args.words.now) c.args.words.now c.loop-word.word-index (omega arith) c.loop-word.invariant
