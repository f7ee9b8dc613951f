use Rattle.std.proofs.Common.{◌≡◌, ◌<◌, length, arith, ◌∙◌}
use Rattle.pr_flat.specs.Shape.{equation_shape}
use Rattle.pr_flat.specs.Widths.{forms_in}
use Rattle.pr_flat.specs.Facts.{arity}
use Rattle.pr_width.specs.Reads.{form_of}
use Rattle.pr_width.proofs.OperandLemmas.{takes_one, natural_one, natural_two, natural_three, length-operand_forms, arity-le}
use Rattle.pr_width.proofs.operators.natural_width.Goals as goal

pub width_of_one-requires-clause-taken : goal.width_of_one-requires-clause-taken
width_of_one-requires-clause-taken c =
    let count : length (forms_in c.args.widths.now (equation_shape c.args.equation.now)) ≡ 1 = length-operand_forms c.args.widths.now c.args.equation.now.args.items c.args.equation.now.kinds.items (omega (arith, c.args.equation.now.args.ok.0, c.args.equation.now.kinds.ok.0)) ∙ omega (arith, c.args.equation.now.args.ok.0) in
    takes_one c.args.equation.now.op (forms_in c.args.widths.now (equation_shape c.args.equation.now)) (form_of c.read_at.result) count c.read_at.ensures c.requires.taken

pub returns-in-1 : goal.returns-in-1
returns-in-1 c =
    let count : length (forms_in c.args.widths.now (equation_shape c.args.equation.now)) ≡ 1 = length-operand_forms c.args.widths.now c.args.equation.now.args.items c.args.equation.now.kinds.items (omega (arith, c.args.equation.now.args.ok.0, c.args.equation.now.kinds.ok.0)) ∙ omega (arith, c.args.equation.now.args.ok.0) in
    natural_one c.args.equation.now.op (forms_in c.args.widths.now (equation_shape c.args.equation.now)) (form_of c.read_at.result) c.width_of_one.result count c.read_at.ensures c.width_of_one.ensures

pub returns-in-2 : goal.returns-in-2
returns-in-2 c =
    let count : length (forms_in c.args.widths.now (equation_shape c.args.equation.now)) ≡ 2 = length-operand_forms c.args.widths.now c.args.equation.now.args.items c.args.equation.now.kinds.items (omega (arith, c.args.equation.now.args.ok.0, c.args.equation.now.kinds.ok.0)) ∙ omega (arith, c.args.equation.now.args.ok.0) in
    natural_two c.args.equation.now.op (forms_in c.args.widths.now (equation_shape c.args.equation.now)) (form_of c.read_at-in-2.result) (form_of c.read_at-in-2-2.result) c.width_of_two.result count c.read_at-in-2.ensures c.read_at-in-2-2.ensures c.width_of_two.ensures

pub returns-in_default : goal.returns-in_default
returns-in_default c =
    let many : 2 < arity c.args.equation.now.op = omega (arith, c.requires.args, c.len.ensures) in
    let least = arity-le c.args.equation.now.op in
    let count : length (forms_in c.args.widths.now (equation_shape c.args.equation.now)) ≡ 3 = length-operand_forms c.args.widths.now c.args.equation.now.args.items c.args.equation.now.kinds.items (omega (arith, c.args.equation.now.args.ok.0, c.args.equation.now.kinds.ok.0)) ∙ omega (arith, c.args.equation.now.args.ok.0) in
    natural_three c.args.equation.now.op (forms_in c.args.widths.now (equation_shape c.args.equation.now)) (form_of c.read_at-in_default.result) (form_of c.read_at-in_default-2.result) c.width_of_choice.result many count c.read_at-in_default.ensures c.read_at-in_default-2.ensures c.width_of_choice.ensures
