use Rattle.std.proofs.Common.{arith, ◌∙◌}
use Rattle.pr_width.proofs.OperandLemmas.{form_read}
use Rattle.pr_cut_plan.proofs.equations.form_at.Goals as goal

pub returns : goal.returns
returns c = form_read c.args.widths.now c.args.equation.now.args.items c.args.equation.now.kinds.items c.args.place c.from.result c.index-2.result.now c.index.result.now (omega (arith, c.args.equation.now.args.ok.0)) (omega (arith, c.args.equation.now.kinds.ok.0)) c.index-2.ensures c.index.ensures (c.from.ensures ∙ c.operand_width.ensures)
