use Rattle.pr_lens_why.specs.Syntax.{symbol_piece}
use Rattle.pr_lens_why.proofs.SyntaxLemmas.{pieces_text, pieces_first, pieces_all, firsts_all}
use Rattle.pr_lens_why.proofs.syntax.put_symbols.Goals as goal

pub loop-symbol-preserved : goal.loop-symbol-preserved
loop-symbol-preserved c =
    let at = c.loop-symbol in
    let put = c.in_ok-put_symbol.ensures in
    record {
      text = pieces_text (symbol_piece c.args.number) c.args.symbols.now at.symbol-index _ at.first c.put_symbol.new.first at.message.items c.put_symbol.new.message.items _ c.loop-symbol-test.true put.text put.first at.invariant.text;
      pieces = pieces_first (symbol_piece c.args.number) c.args.symbols.now at.symbol-index _ at.first c.put_symbol.new.first _ c.loop-symbol-test.true put.first at.invariant.pieces;
    }

pub returns-clause-text : goal.returns-clause-text
returns-clause-text c = pieces_all (symbol_piece c.args.number) c.args.symbols.now c.loop-symbol.symbol-index c.loop-symbol.first c.loop-symbol.message.items _ c.loop-symbol-test.false c.loop-symbol.invariant.text

pub returns-clause-first : goal.returns-clause-first
returns-clause-first c = firsts_all (symbol_piece c.args.number) c.args.symbols.now c.loop-symbol.symbol-index c.loop-symbol.first _ c.loop-symbol-test.false c.loop-symbol.invariant.pieces
