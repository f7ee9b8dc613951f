use Rattle.std.proofs.Common.{◌++◌, ◌∷◌, [], length, arith, refl}
use Rattle.pr_code.specs.Spelling.{bytes_of_words}
use Rattle.pr_code.proofs.WritingLemmas.{goes_on, word_more, words_done}
use Rattle.pr_code.proofs.encoding.put_inputs.Goals as goal

pub loop-width-init : goal.loop-width-init
loop-width-init c =
    rw c.in_ok-put_word.ensures (goes_on c.args.out.now.items (c.args.out.now.items ++ bytes_of_words (length c.args.widths.now ∷ c.args.widths.now)) (length c.args.widths.now ∷ []) c.args.widths.now refl)

pub loop-width-preserved : goal.loop-width-preserved
loop-width-preserved c = rw c.in_ok-put_word-2.ensures (word_more c.loop-width.out.items (c.args.out.now.items ++ bytes_of_words (length c.args.widths.now ∷ c.args.widths.now)) c.args.widths.now c.loop-width.width-index c.from.result c.loop-width-test.true c.from.ensures c.loop-width.invariant)

pub returns : goal.returns
returns c = words_done c.loop-width.out.items (c.args.out.now.items ++ bytes_of_words (length c.args.widths.now ∷ c.args.widths.now)) c.args.widths.now c.loop-width.width-index (omega arith) c.loop-width.invariant
