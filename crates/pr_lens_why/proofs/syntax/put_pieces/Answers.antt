use Rattle.std.proofs.Common.{codes}
use Rattle.std.specs.List.{flat_map, list_any}
use Rattle.std.proofs.lemmas.Result.{on_ok_weaker}
use Rattle.pr_lens_why.specs.Syntax.{expected_pieces, is_operator, operand_pieces, operator_text, piece_where, symbol_piece, word_piece}
use Rattle.pr_lens_why.proofs.SyntaxLemmas.{five_joined}
use Rattle.pr_lens_why.proofs.syntax.put_pieces.Goals as goal

pub returns : goal.returns
unfolding expected_pieces
returns c =
    let e = c.args.expected.now in
    let symbols = e.symbols.items in
    on_ok_weaker c.put_piece.result (λ h. five_joined c.args.message.now.items (operand_pieces e.number e.name symbols) (flat_map (symbol_piece e.number) symbols) (piece_where (list_any is_operator symbols) (operator_text symbols)) (flat_map (word_piece e.number) e.keywords.items) (piece_where e.end (codes "the end of the text"))
    c.put_operands.new.message.items c.put_symbols.new.message.items c.put_operators.new.message.items c.put_words.new.message.items c.put_piece.new.message.items c.put_operands.new.first c.put_symbols.new.first c.put_operators.new.first c.put_words.new.first
    c.in_ok-put_operands.ensures.text c.in_ok-put_operands.ensures.first
    (rw c.deref.ensures.value at c.in_ok-put_symbols.ensures.text) (rw c.deref.ensures.value at c.in_ok-put_symbols.ensures.first)
    (rw c.deref-2.ensures.value at c.in_ok-put_operators.ensures.text) (rw c.deref-2.ensures.value at c.in_ok-put_operators.ensures.first)
    (rw c.deref-3.ensures.value at c.in_ok-put_words.ensures.text) (rw c.deref-3.ensures.value at c.in_ok-put_words.ensures.first) h) c.put_piece.ensures.text
