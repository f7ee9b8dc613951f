use Rattle.std.proofs.Common.{refl, ◌∙◌, arith}
use Rattle.std.proofs.lemmas.Grind.{get_or_default_zero}
use Rattle.pr_flat.specs.Shape.{shapes_of}
use Rattle.pr_flat.proofs.WidthLemmas.{equation_at}
use Rattle.pr_cut_units.specs.Equations.{plan_of}
use Rattle.pr_cut_units.specs.Nets.{holds_from}
use Rattle.pr_cut_plan.proofs.ReachedLemmas.{shapes_few}
use Rattle.pr_cut_plan.proofs.HoldLemmas.{holds_next, holds_last}
use Rattle.pr_cut_plan.proofs.groups.holds_of.Goals as goal

pub loop-i-preserved : goal.loop-i-preserved
loop-i-preserved c = λ widths p.
    (let es = shapes_of c.args.flat.now.equations.items in
    let outs = c.args.flat.now.outputs.items in
    let few = shapes_few c.args.flat.now.equations.items in
    let end = c.len-i-end.ensures in
    let at = equation_at es c.loop-i.i (omega (arith, few, end, c.args.flat.now.equations.ok.0)) in
    holds_next c.args.plan.now es widths outs c.loop-i.i c.index.result.now c.index-in-loop-i.result.now at.0 c.has_holds-some.result c.loop-i.all.items c.push_where.new.all.items (holds_from (plan_of es widths outs) 0 es c.args.plan.now.reached.items) p at.1
    (c.index.ensures ∙ get_or_default_zero c.args.plan.now.hold_units.items c.loop-i.i c.index.result.now (omega (arith, end, c.requires.units, c.args.plan.now.hold_units.ok.0)))
    (c.index-in-loop-i.ensures ∙ get_or_default_zero c.args.plan.now.hold_counts.items c.loop-i.i c.index-in-loop-i.result.now (omega (arith, end, c.requires.counts, c.args.plan.now.hold_counts.ok.0)))
    (omega (arith, few, c.requires.flags, c.args.plan.now.reached.ok.0, c.args.flat.now.equations.ok.0)) (c.has_holds-some.ensures c.loop-i.i at.0 at.1 refl) c.in_ok-push_where.ensures (c.loop-i.invariant widths p))

pub returns : goal.returns
returns c = λ widths p.
    (let es = shapes_of c.args.flat.now.equations.items in
    let outs = c.args.flat.now.outputs.items in
    let few = shapes_few c.args.flat.now.equations.items in
    let end = c.len-i-end.ensures in
    holds_last (plan_of es widths outs) c.loop-i.i es c.args.plan.now.reached.items c.loop-i.all.items (holds_from (plan_of es widths outs) 0 es c.args.plan.now.reached.items) (omega (arith, few, end, c.args.flat.now.equations.ok.0)) (c.loop-i.invariant widths p))
