use Rattle.std.proofs.Common.{arith}
use Rattle.pr_width.proofs.OperandLemmas.{choice_taken}
use Rattle.pr_width.proofs.operators.has_lawful_operands.Goals as goal

pub returns-in-Choose : goal.returns-in-Choose
returns-in-Choose c = choice_taken c.args.widths.now c.args.equation.now.op c.args.equation.now.args.items c.args.equation.now.kinds.items c.operand_width.result c.index.result.now c.in-Choose.is (omega (arith, c.requires.args, c.args.equation.now.args.ok.0)) (omega (arith, c.requires.kinds, c.args.equation.now.kinds.ok.0)) c.index.ensures c.operand_width.ensures
