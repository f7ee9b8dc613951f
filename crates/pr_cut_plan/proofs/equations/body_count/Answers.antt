use Rattle.std.proofs.Common.{◌≡◌, length, ap, arith, ◌∙◌}
use Rattle.pr_flat.specs.Shape.{equation_shape}
use Rattle.pr_flat.specs.Widths.{forms_in}
use Rattle.pr_cut_units.specs.Counts.{widening_count}
use Rattle.pr_width.proofs.OperandLemmas.{length-operand_forms}
use Rattle.pr_cut_plan.proofs.EquationLemmas.{body_one, body_none}
use Rattle.pr_cut_plan.proofs.equations.body_count.Goals as goal

pub returns-then-len-ne1-clause-is : goal.returns-then-len-ne1-clause-is
returns-then-len-ne1-clause-is c =
    let x = c.args.equation.now in
    body_none c.args.w (forms_in c.args.widths.now (equation_shape x)) (length x.args.items) (length-operand_forms c.args.widths.now x.args.items x.kinds.items (omega (arith, x.args.ok.0, x.kinds.ok.0))) (λ e. c.if-len-ne1.true (omega (arith, x.args.ok.0, e)))

pub returns-clause-is : goal.returns-clause-is
returns-clause-is c =
    let x = c.args.equation.now in
    let long : length (forms_in c.args.widths.now (equation_shape x)) ≡ 1 = length-operand_forms c.args.widths.now x.args.items x.kinds.items (omega (arith, x.args.ok.0, x.kinds.ok.0)) ∙ omega (arith, x.args.ok.0) in
    body_one c.args.w (forms_in c.args.widths.now (equation_shape x)) c.form_at.result c.widening_count.result long c.form_at.ensures (c.widening_count.ensures.is ∙ ap (widening_count c.form_at.result) c.from.ensures)
