use Rattle.std.proofs.Common.{◌≡◌, ℕ, true, Some, List, length, get_or, ap, subst, sym, ◌∙◌, ⊎_elim, arith}
use Rattle.std.specs.List.{list_all, slice_get}
use Rattle.std.proofs.lemmas.Bool.{cases_lt}
use Rattle.std.proofs.lemmas.List.{length-map}
use Rattle.std.proofs.lemmas.Option.{slice_get_within}
use Rattle.pr_flat.specs.Shape.{EquationShape, equation_shape, shapes_of}
use Rattle.pr_flat.proofs.WidthLemmas.{one_equation}
use Rattle.pr_source.specs.Keeping.{is_near}
use Rattle.pr_source.proofs.Points.{shape_at}
use Rattle.pr_source.proofs.Whole.{max_of, most_within}
use Rattle.pr_source.proofs.evaluator.slots_of.Goals as goal

pub loop-equation-preserved : goal.loop-equation-preserved
loop-equation-preserved c =
    let items = c.args.flat.now.equations.items in
    let equations = shapes_of items in
    let k = c.loop-equation.equation-index in
    let x = c.equation-item.result in
    let m = max_of c.loop-equation.slots c.slots_of_operands.result c.max-slots.result c.max-slots.ensures in
    let value : c.deref-equation-items.result.now ≡ items = c.deref-equation-items.ensures.value in
    let here : slice_get equations k ≡ Some (equation_shape x) = shape_at items k x (omega (arith, ap length value)) (c.equation-item.is ∙ ap (λ (xs : List _). get_or xs k x) value) in
    record {
      some = omega (arith, c.slots_of_operands.ensures.some, m);
      least = λ n one all. most_within c.loop-equation.slots c.slots_of_operands.result c.max-slots.result n c.max-slots.ensures
          (c.loop-equation.invariant.least n one (λ i e l there. all i e (omega (arith, l)) there))
          (c.slots_of_operands.ensures.least n one (ap (list_all (is_near n)) c.deref.ensures.value ∙ all k (equation_shape x) (omega arith) here));
      near = λ n i e more low there. ⊎_elim
          (λ less. c.loop-equation.invariant.near n i e (omega (arith, m, more)) less there)
          (λ same. let is : i ≡ k = omega (arith, low, same) in
          let shape : equation_shape x ≡ e = one_equation equations i (equation_shape x) e (subst (λ (j : ℕ). slice_get equations j ≡ Some (equation_shape x)) (sym is) here) there in
          subst (λ (d : EquationShape). list_all (is_near n) d.args ≡ true) shape (ap (list_all (is_near n)) (sym c.deref.ensures.value) ∙ c.slots_of_operands.ensures.near n (omega (arith, m, more))))
          (cases_lt i k);
    }

pub returns-clause-near : goal.returns-clause-near
returns-clause-near c i e there =
    let items = c.args.flat.now.equations.items in
    let within = slice_get_within (shapes_of items) i e there in
    c.loop-equation.invariant.near c.loop-equation.slots i e (omega arith) (omega (arith, within, length-map items equation_shape, ap length c.deref-equation-items.ensures.value)) there

pub returns-clause-least : goal.returns-clause-least
returns-clause-least c n one all = c.loop-equation.invariant.least n one (λ i e l there. all i e there)
