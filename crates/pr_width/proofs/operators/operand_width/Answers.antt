use Rattle.std.proofs.Common.{sym, ◌∙◌, ap, arith}
use Rattle.pr_flat.specs.Widths.{operand_width}
use Rattle.pr_width.proofs.OperandLemmas.{const_width}
use Rattle.pr_width.proofs.operators.operand_width.Goals as goal

pub returns-in-Const : goal.returns-in-Const
returns-in-Const c = const_width c.in-Const.c c.from.result c.bits_of.result.bits c.get.result c.from.ensures c.bits_of.ensures c.get.ensures (omega arith) ∙ ap (λ a. operand_width c.args.widths.now a) (sym c.in-Const.is)
