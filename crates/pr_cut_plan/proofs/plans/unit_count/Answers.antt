use Rattle.std.proofs.Common.{arith}
use Rattle.pr_flat.specs.Shape.{shapes_of}
use Rattle.pr_flat.proofs.WidthLemmas.{equation_at}
use Rattle.pr_cut_plan.proofs.ReachedLemmas.{shapes_few}
use Rattle.pr_cut_plan.proofs.PlanLemmas.{no_units, own_units}
use Rattle.pr_cut_plan.proofs.plans.unit_count.Goals as goal

pub returns-then-not-has_units-clause-is : goal.returns-then-not-has_units-clause-is
returns-then-not-has_units-clause-is c =
    let es = shapes_of c.args.flat.now.equations.items in
    let at = equation_at es c.args.i (omega (arith, shapes_few c.args.flat.now.equations.items, c.requires.there, c.args.flat.now.equations.ok.0)) in
    no_units es c.args.widths.now c.args.flat.now.outputs.items c.args.i at.0 c.args.has_units at.1 c.requires.reached c.if-not-has_units.true

pub returns-clause-is : goal.returns-clause-is
returns-clause-is c =
    let es = shapes_of c.args.flat.now.equations.items in
    let at = equation_at es c.args.i (omega (arith, shapes_few c.args.flat.now.equations.items, c.requires.there, c.args.flat.now.equations.ok.0)) in
    own_units es c.args.widths.now c.args.flat.now.outputs.items c.args.i c.own_count.result at.0 c.args.has_units at.1 c.requires.reached c.if-not-has_units.false (c.own_count.ensures.is at.0 at.1)
