use Rattle.std.proofs.Common.{◌≡◌, true, List, length, subst, sym, ap, ◌∙◌, arith}
use Rattle.std.specs.Prelude.{All}
use Rattle.pr_flat.specs.declared.forms.Form.{Form}
use Rattle.pr_flat.specs.Forms.{IsForm}
use Rattle.pr_flat.specs.Rows.{takes}
use Rattle.pr_flat.specs.Shape.{equation_shape}
use Rattle.pr_flat.specs.Widths.{forms_in}
use Rattle.pr_width.proofs.OperandLemmas.{length-operand_forms, one_form, two_forms, arity-le}
use Rattle.pr_cut_units.specs.Counts.{count_at}
use Rattle.pr_cut_plan.proofs.EquationLemmas.{three_forms}
use Rattle.pr_cut_plan.proofs.equations.operator_count.Goals as goal

pub count_at-requires-in-1-clause-takes : goal.count_at-requires-in-1-clause-takes
count_at-requires-in-1-clause-takes c =
    let x = c.args.equation.now in
    let long : length (forms_in c.args.widths.now (equation_shape x)) ≡ 1 = length-operand_forms c.args.widths.now x.args.items x.kinds.items (omega (arith, x.args.ok.0, x.kinds.ok.0)) ∙ omega (arith, x.args.ok.0) in
    subst (λ (fs : List Form). takes x.op fs ≡ true) (one_form (forms_in c.args.widths.now (equation_shape x)) c.form_at.result long c.form_at.ensures) c.requires.takes

pub count_at-requires-in-2-clause-forms : goal.count_at-requires-in-2-clause-forms
count_at-requires-in-2-clause-forms c =
    let x = c.args.equation.now in
    let long : length (forms_in c.args.widths.now (equation_shape x)) ≡ 2 = length-operand_forms c.args.widths.now x.args.items x.kinds.items (omega (arith, x.args.ok.0, x.kinds.ok.0)) ∙ omega (arith, x.args.ok.0) in
    subst (λ (fs : List Form). All IsForm fs) (two_forms (forms_in c.args.widths.now (equation_shape x)) c.form_at-in-2.result c.form_at-in-2-2.result long c.form_at-in-2.ensures c.form_at-in-2-2.ensures) c.requires.forms

pub count_at-requires-in_default-clause-forms : goal.count_at-requires-in_default-clause-forms
count_at-requires-in_default-clause-forms c =
    let x = c.args.equation.now in
    let few = arity-le x.op in
    let long : length (forms_in c.args.widths.now (equation_shape x)) ≡ 3 = length-operand_forms c.args.widths.now x.args.items x.kinds.items (omega (arith, x.args.ok.0, x.kinds.ok.0)) ∙ omega (arith, x.args.ok.0) in
    subst (λ (fs : List Form). All IsForm fs) (three_forms (forms_in c.args.widths.now (equation_shape x)) c.form_at-c.result c.form_at-a.result c.form_at-b.result long c.form_at-c.ensures c.form_at-a.ensures c.form_at-b.ensures) c.requires.forms

pub count_at-requires-in_default-clause-takes : goal.count_at-requires-in_default-clause-takes
count_at-requires-in_default-clause-takes c =
    let x = c.args.equation.now in
    let few = arity-le x.op in
    let long : length (forms_in c.args.widths.now (equation_shape x)) ≡ 3 = length-operand_forms c.args.widths.now x.args.items x.kinds.items (omega (arith, x.args.ok.0, x.kinds.ok.0)) ∙ omega (arith, x.args.ok.0) in
    subst (λ (fs : List Form). takes x.op fs ≡ true) (three_forms (forms_in c.args.widths.now (equation_shape x)) c.form_at-c.result c.form_at-a.result c.form_at-b.result long c.form_at-c.ensures c.form_at-a.ensures c.form_at-b.ensures) c.requires.takes

pub returns-in-1-clause-is : goal.returns-in-1-clause-is
returns-in-1-clause-is c =
    let x = c.args.equation.now in
    let long : length (forms_in c.args.widths.now (equation_shape x)) ≡ 1 = length-operand_forms c.args.widths.now x.args.items x.kinds.items (omega (arith, x.args.ok.0, x.kinds.ok.0)) ∙ omega (arith, x.args.ok.0) in
    c.count_at-in-1.ensures.is ∙ ap (count_at c.args.w x.op) (sym (one_form (forms_in c.args.widths.now (equation_shape x)) c.form_at.result long c.form_at.ensures))

pub returns-in-2-clause-is : goal.returns-in-2-clause-is
returns-in-2-clause-is c =
    let x = c.args.equation.now in
    let long : length (forms_in c.args.widths.now (equation_shape x)) ≡ 2 = length-operand_forms c.args.widths.now x.args.items x.kinds.items (omega (arith, x.args.ok.0, x.kinds.ok.0)) ∙ omega (arith, x.args.ok.0) in
    c.count_at-in-2.ensures.is ∙ ap (count_at c.args.w x.op) (sym (two_forms (forms_in c.args.widths.now (equation_shape x)) c.form_at-in-2.result c.form_at-in-2-2.result long c.form_at-in-2.ensures c.form_at-in-2-2.ensures))

pub returns-in_default-clause-is : goal.returns-in_default-clause-is
returns-in_default-clause-is c =
    let x = c.args.equation.now in
    let few = arity-le x.op in
    let long : length (forms_in c.args.widths.now (equation_shape x)) ≡ 3 = length-operand_forms c.args.widths.now x.args.items x.kinds.items (omega (arith, x.args.ok.0, x.kinds.ok.0)) ∙ omega (arith, x.args.ok.0) in
    c.count_at-in_default.ensures.is ∙ ap (count_at c.args.w x.op) (sym (three_forms (forms_in c.args.widths.now (equation_shape x)) c.form_at-c.result c.form_at-a.result c.form_at-b.result long c.form_at-c.ensures c.form_at-a.ensures c.form_at-b.ensures))
