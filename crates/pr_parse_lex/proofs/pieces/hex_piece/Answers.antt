use Rattle.std.proofs.Common.{ap, ◌∙◌}
use Rattle.std.proofs.lemmas.List.{take_rest}
use Rattle.std.specs.List.{prefix_len}
use Rattle.pr_lang.specs.Spelling.{is_hex_digit}
use Rattle.pr_parse_lex.proofs.Scans.{hex_is}
use Rattle.pr_parse_lex.proofs.pieces.hex_piece.Goals as goal

pub returns : goal.returns
returns c = hex_is c.args.text.now c.run_of-count.result _ c.if-count-eq0.false (c.run_of-count.ensures.value ∙ ap (prefix_len is_hex_digit) (take_rest c.args.text.now 2)) c.number_piece.ensures
