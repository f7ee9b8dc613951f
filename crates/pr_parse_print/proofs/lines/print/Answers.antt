use Rattle.std.proofs.Common.{◌≡◌, ◌∙◌, ap, subst, sym}
use Rattle.pr_lang.specs.Word.{words_of}
use Rattle.pr_lang.specs.Syntax.{IsProgram}
use Rattle.pr_lang.specs.Printed.{printed}
use Rattle.pr_lang.specs.Shape.{item_shape, program_shape}
use Rattle.pr_parse_print.proofs.Lists.{line_more, all_lines}
use Rattle.pr_parse_print.proofs.Back.{print_back, same_program}
use Rattle.pr_parse_print.proofs.lines.print.Goals as goal

pub loop-item-preserved : goal.loop-item-preserved
loop-item-preserved c = line_more item_shape c.as_slice-item-items.result.now c.loop-item.item-index c.item-item.result _ _ c.item-item.is c.loop-item-test.true c.loop-item.invariant c.in_ok-put_line.ensures

text_is : (c : goal.After-loop-item) → c.loop-item.text.items ≡ printed (program_shape c.args.program.now)
text_is c = all_lines item_shape c.as_slice-item-items.result.now c.args.program.now.items.items c.loop-item.item-index c.loop-item.text.items c.as_slice-item-items.ensures.value c.loop-item-test.false c.loop-item.invariant

pub returns-clause-same : goal.returns-clause-same
returns-clause-same c from is = subst (λ text. IsProgram text (program_shape c.args.program.now)) (sym (text_is c)) (same_program from (program_shape c.args.program.now) is)

pub returns-clause-tokens : goal.returns-clause-tokens
returns-clause-tokens c from is = ap words_of (text_is c) ∙ print_back from (program_shape c.args.program.now) is
