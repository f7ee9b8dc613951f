use Rattle.std.proofs.Common.{◌≡◌, ◌<◌, ℕ, true, ◌++◌, length, subst, sym, ap, ◌∙◌, arith}
use Rattle.std.specs.Prelude.{slice_index, IfOk}
use Rattle.std.proofs.lemmas.Option.{slice_get_within}
use Rattle.std.proofs.lemmas.Grind.{get_or_default_zero}
use Rattle.pr_flat.specs.Facts.{arity, is_rec}
use Rattle.pr_flat.specs.Shape.{EquationShape, equation_shape}
use Rattle.pr_cut_units.specs.Parts.{Making}
use Rattle.pr_cut_units.specs.States.{held}
use Rattle.pr_cut_units.specs.Reached.{hold_count}
use Rattle.pr_cut_units.proofs.WideNets.{widths_some}
use Rattle.pr_cut_units.proofs.EndNets.{widths_most}
use Rattle.pr_cut_cells.specs.Arguments.{argument_of}
use Rattle.pr_cut.specs.Operators.{arguments_of, is_operator}
use Rattle.pr_cut.specs.Sources.{equations_in, plan_in}
use Rattle.pr_cut.proofs.ItemLemmas.{one_argument}
use Rattle.pr_cut.proofs.EquationLemmas.{rec_units, hold_some, operator_of, operator_units}
use Rattle.pr_cut.proofs.equations.equation_units.Goals as goal

pub held-requires-clause-some : goal.held-requires-clause-some
held-requires-clause-some c =
    let s = c.args.source.now in
    let number = c.args.turn.now.number in
    let e : EquationShape = equation_shape c.args.turn.now.equation.now in
    let there = c.requires.turn.there in
    let within : number < length s.plan.now.hold_counts.items = omega (arith, slice_get_within (equations_in s) number e there, c.requires.planned.plan.holds, s.plan.now.hold_counts.ok.0) in
    let count : c.index-k.result.now ≡ hold_count (equations_in s) number = c.index-k.ensures ∙ get_or_default_zero s.plan.now.hold_counts.items number c.index-k.result.now within ∙ c.requires.planned.plan.counts number e there (ap is_rec c.in-Rec.is) in
    omega (arith, count, hold_some (equations_in s) number)

pub held-requires-clause-fits : goal.held-requires-clause-fits
held-requires-clause-fits c =
    let s = c.args.source.now in
    let number = c.args.turn.now.number in
    let e : EquationShape = equation_shape c.args.turn.now.equation.now in
    let there = c.requires.turn.there in
    let within : number < length s.plan.now.hold_counts.items = omega (arith, slice_get_within (equations_in s) number e there, c.requires.planned.plan.holds, s.plan.now.hold_counts.ok.0) in
    let count : c.index-k.result.now ≡ slice_index s.plan.now.hold_counts.items number = c.index-k.ensures ∙ get_or_default_zero s.plan.now.hold_counts.items number c.index-k.result.now within in
    omega (arith, count, c.requires.holds (ap is_rec c.in-Rec.is), c.requires.few)

pub units_at-requires : goal.units_at-requires
units_at-requires c =
    let s = c.args.source.now in
    let number = c.args.turn.now.number in
    let e : EquationShape = equation_shape c.args.turn.now.equation.now in
    let there = c.requires.turn.there in
    let here = slice_get_within (equations_in s) number e there in
    let operator : is_operator c.args.turn.now.equation.now.op ≡ true = operator_of c.args.turn.now.equation.now.op c.in_default.not-Input c.in_default.not-Delay c.in_default.not-Rec in
    record {
      some = widths_some (equations_in s) s.flat.now.outputs.items s.widths.now s.flat.now.lawful c.requires.planned.widths number here;
      few = widths_most (equations_in s) s.flat.now.outputs.items s.widths.now s.flat.now.lawful c.requires.planned.widths number here;
      operator = operator;
      count = c.requires.count;
      takes = c.requires.takes operator;
      ends = s.flat.now.lawful.ends number e there;
      fits = omega (arith, c.requires.few);
    }

pub returns-in-Rec-clause-units : goal.returns-in-Rec-clause-units
returns-in-Rec-clause-units c =
    let s = c.args.source.now in
    let number = c.args.turn.now.number in
    let op = c.args.turn.now.equation.now.op in
    let e : EquationShape = equation_shape c.args.turn.now.equation.now in
    let there = c.requires.turn.there in
    let within : number < length s.plan.now.hold_counts.items = omega (arith, slice_get_within (equations_in s) number e there, c.requires.planned.plan.holds, s.plan.now.hold_counts.ok.0) in
    let count : c.index-k.result.now ≡ hold_count (equations_in s) number = c.index-k.ensures ∙ get_or_default_zero s.plan.now.hold_counts.items number c.index-k.result.now within ∙ c.requires.planned.plan.counts number e there (ap is_rec c.in-Rec.is) in
    let body = argument_of c.index-args-0-in-Rec.result in
    let one = one_argument c.args.args.now c.index-args-0-in-Rec.result (c.requires.count ∙ ap arity c.in-Rec.is) c.index-args-0-in-Rec.is in
    let w = slice_index s.widths.now number in
    let same = rec_units (plan_in s) number op c.in-Rec.init c.in-Rec.first (arguments_of c.args.args.now) body c.in-Rec.is one ∙ ap (λ (k : ℕ). held w c.in-Rec.init k body) (sym count) in
    subst (λ (m : Making). IfOk c.held.result (λ s. c.held.new.units.items ≡ c.args.units.now.items ++ (m (length c.args.units.now.items)).units)) (sym same) c.held.ensures.units

pub returns-in_default-clause-units : goal.returns-in_default-clause-units
returns-in_default-clause-units c =
    let same = operator_units (plan_in c.args.source.now) c.args.turn.now.number c.args.turn.now.equation.now.op (arguments_of c.args.args.now) c.in_default.not-Input c.in_default.not-Delay c.in_default.not-Rec in
    subst (λ (m : Making). IfOk c.units_at.result (λ s. c.units_at.new.units.items ≡ c.args.units.now.items ++ (m (length c.args.units.now.items)).units)) (sym same) c.units_at.ensures.units

pub returns-in_default-clause-slices : goal.returns-in_default-clause-slices
returns-in_default-clause-slices c =
    let same = operator_units (plan_in c.args.source.now) c.args.turn.now.number c.args.turn.now.equation.now.op (arguments_of c.args.args.now) c.in_default.not-Input c.in_default.not-Delay c.in_default.not-Rec in
    subst (λ (m : Making). IfOk c.units_at.result (λ s. s.items ≡ (m (length c.args.units.now.items)).slices)) (sym same) c.units_at.ensures.slices
