use Rattle.std.proofs.Common.{arith, refl, ◌∙◌, ap, List, None, get_or}
use Rattle.std.proofs.lemmas.Option.{slice_get-get_or}
use Rattle.pr_flat.specs.declared.equations.Equation.{Equation}
use Rattle.pr_flat.specs.Shape.{shapes_of}
use Rattle.pr_width.proofs.SolverLemmas.{shape_at}
use Rattle.pr_narrow.proofs.BodyLemmas.{fold_end, folded_step}
use Rattle.pr_narrow.proofs.known.fold_known.Goals as goal

pub loop-i-preserved : goal.loop-i-preserved
loop-i-preserved c =
    let x = c.index-equations-i.result in
    let there = shape_at c.args.equations.now c.loop-i.i x c.loop-i-test.true c.index-equations-i.is in
    record {
      made = ap (λ (es : List Equation). shapes_of es) c.in_ok-push.ensures.items ∙ folded_step c.args.equations.now c.loop-i.folded.items c.args.widths.now c.args.known.now c.loop-i.i (get_or c.args.widths.now c.loop-i.i 0) x c.in_ok-equation.equation (get_or c.args.known.now c.loop-i.i None) c.requires.known c.requires.widths c.loop-i-test.true there (slice_get-get_or c.args.known.now c.loop-i.i None (omega (arith, c.requires.known, c.loop-i-test.true))) refl c.in_ok-equation.ensures c.loop-i.invariant.made;
    }

pub returns : goal.returns
returns c = fold_end c.args.equations.now c.loop-i.folded.items c.args.widths.now c.args.known.now c.loop-i.i c.requires.known c.requires.widths c.loop-i-test.false c.loop-i.invariant.made
