use Rattle.pr_lens_why.specs.Syntax.{word_piece}
use Rattle.pr_lens_why.proofs.SyntaxLemmas.{pieces_text, pieces_first, pieces_all, firsts_all}
use Rattle.pr_lens_why.proofs.syntax.put_words.Goals as goal

pub loop-keyword-preserved : goal.loop-keyword-preserved
loop-keyword-preserved c =
    let at = c.loop-keyword in
    let put = c.in_ok-put_word.ensures in
    record {
      text = pieces_text (word_piece c.args.number) c.args.keywords.now at.keyword-index _ at.first c.put_word.new.first at.message.items c.put_word.new.message.items _ c.loop-keyword-test.true put.text put.first at.invariant.text;
      pieces = pieces_first (word_piece c.args.number) c.args.keywords.now at.keyword-index _ at.first c.put_word.new.first _ c.loop-keyword-test.true put.first at.invariant.pieces;
    }

pub returns-clause-text : goal.returns-clause-text
returns-clause-text c = pieces_all (word_piece c.args.number) c.args.keywords.now c.loop-keyword.keyword-index c.loop-keyword.first c.loop-keyword.message.items _ c.loop-keyword-test.false c.loop-keyword.invariant.text

pub returns-clause-first : goal.returns-clause-first
returns-clause-first c = firsts_all (word_piece c.args.number) c.args.keywords.now c.loop-keyword.keyword-index c.loop-keyword.first _ c.loop-keyword-test.false c.loop-keyword.invariant.pieces
