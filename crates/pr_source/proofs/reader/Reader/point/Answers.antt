use Rattle.std.proofs.Common.{◌≡◌, ◌<◌, ◌≤◌, ◌^◌, ℕ, Some, length, sym, ◌∙◌, ap₂, subst, refl, arith}
use Rattle.std.proofs.lemmas.List.{length-map}
use Rattle.std.proofs.lemmas.Option.{slice_get_read, slice_get_within}
use Rattle.pr_flat.specs.Shape.{equation_shape, shapes_of}
use Rattle.pr_flat.specs.Widths.{operand_width}
use Rattle.pr_source.specs.Keeping.{kept}
use Rattle.pr_source.specs.Reading.{sight_of}
use Rattle.pr_source.proofs.Points.{operand_lawful, points_in-at}
use Rattle.pr_source.proofs.Whole.{operand_below}
use Rattle.pr_source.proofs.reader.Reader.point.Goals as goal

pub width-requires-clause-operand : goal.width-requires-clause-operand
width-requires-clause-operand c = operand_lawful (shapes_of c.args.self.now.flat.now.equations.items) c.args.self.now.flat.now.outputs.items c.args.self.now.widths.now (kept c.args.self.now.recent.now) c.args.self.now.row.now (equation_shape c.args.equation.now) c.args.place c.index-operand.result.now c.requires.ready c.requires.next (omega arith) c.index-operand.ensures

pub width-requires-clause-within : goal.width-requires-clause-within
width-requires-clause-within c = omega (arith, length-map c.args.self.now.flat.now.equations.items equation_shape, c.args.self.now.flat.now.equations.ok.0, slice_get_within (shapes_of c.args.self.now.flat.now.equations.items) (length c.args.self.now.row.now) (equation_shape c.args.equation.now) c.requires.next)

pub number-requires-clause-operand : goal.number-requires-clause-operand
number-requires-clause-operand c = operand_lawful (shapes_of c.args.self.now.flat.now.equations.items) c.args.self.now.flat.now.outputs.items c.args.self.now.widths.now (kept c.args.self.now.recent.now) c.args.self.now.row.now (equation_shape c.args.equation.now) c.args.place c.index-operand.result.now c.requires.ready c.requires.next (omega arith) c.index-operand.ensures

pub returns-clause-point : goal.returns-clause-point
returns-clause-point c sample =
    let args = c.args.equation.now.args.items in
    let kinds = c.args.equation.now.kinds.items in
    let a = c.index-operand.result.now in
    let here = slice_get_read args (length args) c.args.place a refl (omega arith) c.index-operand.ensures in
    let kind = slice_get_read kinds (length kinds) c.args.place c.index.result.now refl (omega arith) c.index.ensures in
    let width : operand_width c.args.self.now.widths.now a ≡ c.from.result = omega (arith, c.width.ensures, c.get.ensures, c.from.ensures) in
    points_in-at (sight_of c.args.self.now sample) args kinds c.args.place a c.index.result.now here kind
    ∙ ap₂ (λ (w n : ℕ). Some (record { form = record { signed = c.index.result.now; width = w }; number = n })) width (sym c.number.ensures)

pub returns-clause-lawful : goal.returns-clause-lawful
returns-clause-lawful c =
    let equations = shapes_of c.args.self.now.flat.now.equations.items in
    let a = c.index-operand.result.now in
    let width : operand_width c.args.self.now.widths.now a ≡ c.from.result = omega (arith, c.width.ensures, c.get.ensures, c.from.ensures) in
    let same : c.width.result.bits ≡ c.from.result = omega (arith, c.get.ensures, c.from.ensures) in
    let lawful = operand_lawful equations c.args.self.now.flat.now.outputs.items c.args.self.now.widths.now (kept c.args.self.now.recent.now) c.args.self.now.row.now (equation_shape c.args.equation.now) c.args.place a c.requires.ready c.requires.next (omega arith) c.index-operand.ensures in
    let below = operand_below equations c.args.self.now.flat.now.outputs.items c.args.self.now.widths.now (kept c.args.self.now.recent.now) c.args.self.now.row.now a c.requires.ready lawful in
    record {
      form = record { positive = subst (λ (w : ℕ). 1 ≤ w) same c.width.result.positive; greatest = subst (λ (w : ℕ). w ≤ 128) same c.width.result.greatest };
      below = subst (λ (w : ℕ). c.number.result < 2 ^ w) width (subst (λ (n : ℕ). n < 2 ^ operand_width c.args.self.now.widths.now a) (sym c.number.ensures) below);
    }
