use Rattle.std.proofs.Common.{◌≡◌, ◌<◌, ℕ, Some, List, length, get_or, sym, ◌∙◌, ap, subst, arith}
use Rattle.std.specs.List.{slice_get}
use Rattle.pr_flat.specs.declared.equations.Op.{Op}
use Rattle.pr_flat.specs.declared.equations.Equation.{Equation}
use Rattle.pr_flat.specs.declared.flat.Flat.{Flat}
use Rattle.pr_flat.specs.Shape.{EquationShape, equation_shape, shapes_of}
use Rattle.pr_flat.specs.Facts.{arity, is_input}
use Rattle.pr_flat.specs.Values.{number_in, points_in}
use Rattle.pr_flat.proofs.WidthLemmas.{one_equation}
use Rattle.pr_source.specs.Keeping.{kept}
use Rattle.pr_source.specs.Reading.{sight_of, IsReady}
use Rattle.pr_source.specs.declared.reader.Reader.{Reader}
use Rattle.pr_source.proofs.Points.{counts, delay_number, length_points, one_at, operand_lawful, operates_else, point_cut, recurrence_of, shape_at, Counts}
use Rattle.pr_source.proofs.Whole.{input_within}
use Rattle.pr_source.proofs.reader.Reader.next.Goals as goal

-- the next equation of a reader
next_there : (flat : Flat) (i : ℕ) (x : Equation) → i < flat.equations.len → x ≡ get_or flat.equations.items i x → slice_get (shapes_of flat.equations.items) i ≡ Some (equation_shape x)
next_there flat i x within is = shape_at flat.equations.items i x (omega (arith, flat.equations.ok.0)) is

next_counts : (r : Reader) (x : Equation) → IsReady r → slice_get (shapes_of r.flat.now.equations.items) (length r.row.now) ≡ Some (equation_shape x) → Counts (equation_shape x)
next_counts r x ready there = counts (shapes_of r.flat.now.equations.items) r.flat.now.outputs.items r.widths.now (kept r.recent.now) r.row.now (equation_shape x) ready there

-- what holds of its shape holds of the equation at its place
of_shape : (r : Reader) (sample : List ℕ) (x : Equation) (e : EquationShape) (n : ℕ) → slice_get (shapes_of r.flat.now.equations.items) (length r.row.now) ≡ Some (equation_shape x) → slice_get (shapes_of r.flat.now.equations.items) (length r.row.now) ≡ Some e → n ≡ number_in (sight_of r sample) (length r.row.now) x.op x.args.items x.kinds.items → n ≡ number_in (sight_of r sample) (length r.row.now) e.op e.args e.kinds
of_shape r sample x e n there at is = subst (λ (d : EquationShape). n ≡ number_in (sight_of r sample) (length r.row.now) d.op d.args d.kinds) (one_equation (shapes_of r.flat.now.equations.items) (length r.row.now) (equation_shape x) e there at) is

pub bounds-sample-input : goal.bounds-sample-input
bounds-sample-input c =
    let r = c.args.self.now in
    let x = c.index-equation.result.now in
    let there = next_there r.flat.now (length r.row.now) x c.requires.within c.index-equation.ensures in
    let low = input_within (shapes_of r.flat.now.equations.items) c.args.sample.now (length r.row.now) (equation_shape x) c.requires.sample there (ap is_input c.in-Input.is) in
    omega (arith, low, c.requires.input)

pub index-requires : goal.index-requires
index-requires c =
    let r = c.args.self.now in
    let x = c.index-equation.result.now in
    let n = next_counts r x c.requires.ready (next_there r.flat.now (length r.row.now) x c.requires.within c.index-equation.ensures) in
    let one : arity x.op ≡ 1 = ap arity c.in-Delay.is in
    omega (arith, n.args, x.args.ok.0)

pub earlier-requires-clause-operand : goal.earlier-requires-clause-operand
earlier-requires-clause-operand c =
    let r = c.args.self.now in
    let x = c.index-equation.result.now in
    let there = next_there r.flat.now (length r.row.now) x c.requires.within c.index-equation.ensures in
    let n = next_counts r x c.requires.ready there in
    let one : arity x.op ≡ 1 = ap arity c.in-Delay.is in
    let some : 0 < length x.args.items = omega (arith, n.args) in
    operand_lawful (shapes_of r.flat.now.equations.items) r.flat.now.outputs.items r.widths.now (kept r.recent.now) r.row.now (equation_shape x) 0 c.index.result.now c.requires.ready there some c.index.ensures

pub point-requires-clause-next : goal.point-requires-clause-next
point-requires-clause-next c = next_there c.args.self.now.flat.now (length c.args.self.now.row.now) c.index-equation.result.now c.requires.within c.index-equation.ensures

pub point-requires-clause-args : goal.point-requires-clause-args
point-requires-clause-args c =
    let r = c.args.self.now in
    let x = c.index-equation.result.now in
    let n = next_counts r x c.requires.ready (next_there r.flat.now (length r.row.now) x c.requires.within c.index-equation.ensures) in
    let one : arity x.op ≡ 1 = ap arity c.in-Rec.is in
    omega (arith, n.args, x.args.ok.0)

pub point-requires-clause-kinds : goal.point-requires-clause-kinds
point-requires-clause-kinds c =
    let r = c.args.self.now in
    let x = c.index-equation.result.now in
    let n = next_counts r x c.requires.ready (next_there r.flat.now (length r.row.now) x c.requires.within c.index-equation.ensures) in
    let one : arity x.op ≡ 1 = ap arity c.in-Rec.is in
    omega (arith, n.kinds, x.kinds.ok.0)

pub operated-requires : goal.operated-requires
operated-requires c =
    let r = c.args.self.now in
    let x = c.index-equation.result.now in
    let there = next_there r.flat.now (length r.row.now) x c.requires.within c.index-equation.ensures in
    let n = next_counts r x c.requires.ready there in
    record { ready = c.requires.ready; next = there; operator = operates_else x.op c.in_default.not-Input c.in_default.not-Delay c.in_default.not-Rec; args = omega (arith, n.args, x.args.ok.0); kinds = omega (arith, n.kinds, x.kinds.ok.0) }

pub returns-in-Input : goal.returns-in-Input
returns-in-Input c e at =
    let r = c.args.self.now in
    let x = c.index-equation.result.now in
    let there = next_there r.flat.now (length r.row.now) x c.requires.within c.index-equation.ensures in
    let sight = sight_of r c.args.sample.now in
    of_shape r c.args.sample.now x e _ there at (ap (λ (k : ℕ). get_or c.args.sample.now k 0) c.requires.input ∙ sym (ap (λ (o : Op). number_in sight (length r.row.now) o x.args.items x.kinds.items) c.in-Input.is))

pub returns-in-Delay : goal.returns-in-Delay
returns-in-Delay c e at =
    let r = c.args.self.now in
    let x = c.index-equation.result.now in
    let there = next_there r.flat.now (length r.row.now) x c.requires.within c.index-equation.ensures in
    let n = next_counts r x c.requires.ready there in
    let one : arity x.op ≡ 1 = ap arity c.in-Delay.is in
    let some : 0 < length x.args.items = omega (arith, n.args) in
    of_shape r c.args.sample.now x e _ there at (c.earlier.ensures ∙ delay_number (sight_of r c.args.sample.now) (length r.row.now) x.op x.args.items x.kinds.items c.index.result.now c.in-Delay.constant c.in-Delay.is some c.index.ensures)

pub returns-in-Rec : goal.returns-in-Rec
returns-in-Rec c e at =
    let r = c.args.self.now in
    let x = c.index-equation.result.now in
    let sight = sight_of r c.args.sample.now in
    let there = next_there r.flat.now (length r.row.now) x c.requires.within c.index-equation.ensures in
    let one : arity x.op ≡ 1 = ap arity c.in-Rec.is in
    let count : length (points_in sight x.args.items x.kinds.items) ≡ 1 = omega (arith, length_points (shapes_of r.flat.now.equations.items) r.flat.now.outputs.items sight (equation_shape x) c.requires.ready there) in
    let points = one_at _ c.point.result count (c.point.ensures.point c.args.sample.now) in
    of_shape r c.args.sample.now x e _ there at (recurrence_of sight (length r.row.now) x.op x.args.items x.kinds.items c.in-Rec.init c.in-Rec.first c.width_at.result.bits _ c.point.result c.in-Rec.is points c.width_at.ensures (point_cut c.point.result c.width_at.result.bits _ c.point.ensures.lawful c.fit.ensures))

pub plain-requires : goal.plain-requires
plain-requires c =
    let r = c.args.self.now in
    let x = c.index-equation.result.now in
    let there = next_there r.flat.now (length r.row.now) x c.requires.within c.index-equation.ensures in
    let n = next_counts r x c.requires.ready there in
    record { ready = c.requires.ready; next = there; args = omega (arith, n.args, x.args.ok.0); kinds = omega (arith, n.kinds, x.kinds.ok.0) }

pub returns-in-Some : goal.returns-in-Some
returns-in-Some c e at =
    let r = c.args.self.now in
    let x = c.index-equation.result.now in
    let there = next_there r.flat.now (length r.row.now) x c.requires.within c.index-equation.ensures in
    of_shape r c.args.sample.now x e _ there at (c.in-Some.ensures c.args.sample.now)

pub returns-in-None : goal.returns-in-None
returns-in-None c e at =
    let r = c.args.self.now in
    let x = c.index-equation.result.now in
    let there = next_there r.flat.now (length r.row.now) x c.requires.within c.index-equation.ensures in
    of_shape r c.args.sample.now x e _ there at (c.operated.ensures c.args.sample.now)
