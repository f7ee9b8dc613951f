use Rattle.std.proofs.Common.{◌≡◌, ◌<◌, ℕ, suc, ◌+◌, List, ◌++◌, length, take, sym, ap, ap₂, ◌∙◌, arith}
use Rattle.std.proofs.lemmas.List.{length-map}
use Rattle.std.proofs.lemmas.Result.{IfOk-from_err}
use Rattle.std.specs.Prelude.{count_by}
use Rattle.pr_flat.specs.Shape.{EquationShape, equation_shape}
use Rattle.pr_flat.specs.Facts.{is_input}
use Rattle.pr_net.specs.declared.cells.Slice.{Slice}
use Rattle.pr_width.proofs.SolverLemmas.{shape_at}
use Rattle.pr_cut_units.specs.Equations.{next_units}
use Rattle.pr_cut.specs.Sources.{equations_in, plan_in}
use Rattle.pr_cut.proofs.StepLemmas.{cut_more, cut_units, cut_values, inputs_more}
use Rattle.pr_cut.proofs.nets.all_units.Goals as goal

pub loop-number-preserved : goal.loop-number-preserved
loop-number-preserved c =
    let s = c.args.source.now in
    let l = c.loop-number in
    let equations : List EquationShape = equations_in s in
    let e : EquationShape = equation_shape c.index-equation.result.now in
    let within : l.number < length s.flat.now.equations.items = omega (arith, c.loop-number-test.true, c.len-number-end.ensures, s.flat.now.equations.ok.0) in
    let there = shape_at s.flat.now.equations.items l.number c.index-equation.result.now within c.index-equation.ensures in
    let one : suc l.number ≡ l.number + 1 = omega arith in
    let us = l.units.items in
    record {
      before = ap₂ (λ (a b : ℕ). a + b) l.invariant.before c.input_count-before.ensures ∙ sym (inputs_more equations l.number e there) ∙ ap (λ (k : ℕ). count_by (λ (e : EquationShape). is_input e.op) (take k equations)) one;
      cut = cut_more (plan_in s) l.number e us c.next_units.new.units.items l.values.items c.push.new.self.items c.in_ok-slices.slices.items there l.invariant.cut
          (c.in_ok-slices.ensures.units ∙ ap (λ (vs : List (List Slice)). us ++ (next_units (plan_in s) (record { units = us; values = vs }) e (length us)).units) c.deref.ensures.value)
          (c.in_ok-slices.ensures.slices ∙ ap (λ (vs : List (List Slice)). (next_units (plan_in s) (record { units = us; values = vs }) e (length us)).slices) c.deref.ensures.value)
          c.in_ok-push.ensures.items;
    }

pub returns-in_err-units : goal.returns-in_err-units
returns-in_err-units c = let h = c.from_residual.ensures.0 in record { units = IfOk-from_err _ _ h; values = IfOk-from_err _ _ h }

pub returns-in_err-slices : goal.returns-in_err-slices
returns-in_err-slices c = let h = c.from_residual-in_err-slices.ensures.0 in record { units = IfOk-from_err _ _ h; values = IfOk-from_err _ _ h }

pub returns-in_err-push : goal.returns-in_err-push
returns-in_err-push c = let h = c.from_residual-in_err-push.ensures.0 in record { units = IfOk-from_err _ _ h; values = IfOk-from_err _ _ h }

pub returns-clause-units : goal.returns-clause-units
returns-clause-units c =
    let s = c.args.source.now in
    let l = c.loop-number in
    cut_units (plan_in s) l.number l.units.items l.values.items l.invariant.cut (omega (arith, length-map s.flat.now.equations.items equation_shape, c.loop-number-test.false, c.len-number-end.ensures, s.flat.now.equations.ok.0))

pub returns-clause-values : goal.returns-clause-values
returns-clause-values c =
    let s = c.args.source.now in
    let l = c.loop-number in
    cut_values (plan_in s) l.number l.units.items l.values.items l.invariant.cut (omega (arith, length-map s.flat.now.equations.items equation_shape, c.loop-number-test.false, c.len-number-end.ensures, s.flat.now.equations.ok.0))

pub next_units-requires-clause-cut : goal.next_units-requires-clause-cut
next_units-requires-clause-cut c = rw c.deref.ensures.value c.loop-number.invariant.cut
