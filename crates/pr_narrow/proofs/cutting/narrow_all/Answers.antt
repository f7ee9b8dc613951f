use Rattle.std.proofs.Common.{◌≡◌, true, vec_len, arith, sym, ◌∙◌, ap, subst, Some, get_or}
use Rattle.std.proofs.lemmas.List.{length-set}
use Rattle.pr_flat.specs.declared.equations.Equation.{Equation}
use Rattle.pr_flat.specs.Facts.{arity, has_lawful_ends}
use Rattle.pr_flat.specs.Shape.{EquationShape, shapes_of, equation_shape}
use Rattle.pr_narrow.specs.Narrowed.{narrowed_shape, narrowed_by}
use Rattle.pr_narrow.proofs.BodyLemmas.{next_is, narrowed_step, cut_end}
use Rattle.pr_narrow.proofs.cutting.narrow_all.Goals as goal

pub narrow_equation-requires-clause-args : goal.narrow_equation-requires-clause-args
narrow_equation-requires-clause-args c =
    let x = c.index-equations-i.result in
    let n = next_is c.loop-i.equations c.args.equations.now c.args.demand.now c.args.news.now c.loop-i.i x c.requires.demand c.requires.news c.loop-i.invariant.count (omega (arith, c.loop-i.invariant.count, c.loop-i-test.true)) c.index-equations-i.is c.loop-i.invariant.made in
    let P : Equation → Type 0 = λ y. vec_len y.args ≡ arity y.op in
    let count = c.requires.can.args c.loop-i.i (equation_shape x) n.there in subst P c.index-equations-i.is (omega (arith, count, x.args.ok.0))

pub narrow_equation-requires-clause-kinds : goal.narrow_equation-requires-clause-kinds
narrow_equation-requires-clause-kinds c =
    let x = c.index-equations-i.result in
    let n = next_is c.loop-i.equations c.args.equations.now c.args.demand.now c.args.news.now c.loop-i.i x c.requires.demand c.requires.news c.loop-i.invariant.count (omega (arith, c.loop-i.invariant.count, c.loop-i-test.true)) c.index-equations-i.is c.loop-i.invariant.made in
    let P : Equation → Type 0 = λ y. vec_len y.kinds ≡ arity y.op in
    let count = c.requires.can.kinds c.loop-i.i (equation_shape x) n.there in subst P c.index-equations-i.is (omega (arith, count, x.kinds.ok.0))

pub narrow_equation-requires-clause-ends : goal.narrow_equation-requires-clause-ends
narrow_equation-requires-clause-ends c =
    let x = c.index-equations-i.result in
    let n = next_is c.loop-i.equations c.args.equations.now c.args.demand.now c.args.news.now c.loop-i.i x c.requires.demand c.requires.news c.loop-i.invariant.count (omega (arith, c.loop-i.invariant.count, c.loop-i-test.true)) c.index-equations-i.is c.loop-i.invariant.made in
    let P : Equation → Type 0 = λ y. has_lawful_ends y.op ≡ true in
    subst P c.index-equations-i.is (c.requires.can.ends c.loop-i.i (equation_shape x) n.there)

pub loop-i-preserved : goal.loop-i-preserved
loop-i-preserved c =
    let x = c.index-equations-i.result in
    let n = next_is c.loop-i.equations c.args.equations.now c.args.demand.now c.args.news.now c.loop-i.i x c.requires.demand c.requires.news c.loop-i.invariant.count (omega (arith, c.loop-i.invariant.count, c.loop-i-test.true)) c.index-equations-i.is c.loop-i.invariant.made in
    let shape : Equation → EquationShape = λ y. narrowed_shape (get_or c.args.demand.now c.loop-i.i 0) (get_or c.args.news.now c.loop-i.i 0) (equation_shape y) in
    record {
      count = length-set c.loop-i.equations c.loop-i.i c.narrow_equation.new.equation ∙ c.loop-i.invariant.count;
      made = narrowed_step c.loop-i.equations (narrowed_by c.args.demand.now c.args.news.now (shapes_of c.args.equations.now)) (shapes_of c.args.equations.now) c.loop-i.i c.narrow_equation.new.equation n.long (n.changed ∙ ap Some (ap shape c.index-equations-i.is ∙ sym c.narrow_equation.ensures)) c.loop-i.invariant.made;
    }

pub returns : goal.returns
returns c = cut_end c.loop-i.equations c.args.equations.now c.args.demand.now c.args.news.now c.loop-i.i c.requires.demand c.requires.news (omega (arith, c.loop-i.invariant.count, c.loop-i-test.false)) c.loop-i.invariant.made
