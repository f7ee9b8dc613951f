use Rattle.std.proofs.Common.{arith, length, sym, ◌∙◌}
use Rattle.pr_flat.specs.Shape.{equation_shape, shapes_of}
use Rattle.pr_flat.proofs.WidthLemmas.{below_put}
use Rattle.pr_width.proofs.SolverLemmas.{shape_at, lawful_at, stops_read, put_before, put_after}
use Rattle.pr_width.proofs.solver.fill.Goals as goal

pub width_of-requires-clause-args : goal.width_of-requires-clause-args
width_of-requires-clause-args c = let lawful = lawful_at c.args.flat.now.equations.items c.args.flat.now.outputs.items c.loop-i.i (length c.loop-i.widths) c.index.result.now c.args.flat.now.lawful c.loop-i.invariant.below.count (omega (arith, c.args.flat.now.equations.ok.0)) c.index.ensures in omega (arith, lawful.args, c.index.result.now.args.ok.0)

pub width_of-requires-clause-kinds : goal.width_of-requires-clause-kinds
width_of-requires-clause-kinds c = let lawful = lawful_at c.args.flat.now.equations.items c.args.flat.now.outputs.items c.loop-i.i (length c.loop-i.widths) c.index.result.now c.args.flat.now.lawful c.loop-i.invariant.below.count (omega (arith, c.args.flat.now.equations.ok.0)) c.index.ensures in omega (arith, lawful.kinds, c.index.result.now.kinds.ok.0)

pub width_of-requires-clause-ends : goal.width_of-requires-clause-ends
width_of-requires-clause-ends c = (lawful_at c.args.flat.now.equations.items c.args.flat.now.outputs.items c.loop-i.i (length c.loop-i.widths) c.index.result.now c.args.flat.now.lawful c.loop-i.invariant.below.count (omega (arith, c.args.flat.now.equations.ok.0)) c.index.ensures).ends

pub width_of-requires-clause-within : goal.width_of-requires-clause-within
width_of-requires-clause-within c = (lawful_at c.args.flat.now.equations.items c.args.flat.now.outputs.items c.loop-i.i (length c.loop-i.widths) c.index.result.now c.args.flat.now.lawful c.loop-i.invariant.below.count (omega (arith, c.args.flat.now.equations.ok.0)) c.index.ensures).within

pub returns-in-None-clause-stops : goal.returns-in-None-clause-stops
returns-in-None-clause-stops c = λ e low there. stops_read (shapes_of c.args.flat.now.equations.items) c.loop-i.i (equation_shape c.index.result.now) c.loop-i.widths c.width_of.result (shape_at c.args.flat.now.equations.items c.loop-i.i c.index.result.now (omega (arith, c.args.flat.now.equations.ok.0)) c.index.ensures) c.width_of.ensures c.in-None.is e there

pub loop-i-preserved : goal.loop-i-preserved
loop-i-preserved c =
    let there = shape_at c.args.flat.now.equations.items c.loop-i.i c.index.result.now (omega (arith, c.args.flat.now.equations.ok.0)) c.index.ensures in
    record {
      below = below_put (shapes_of c.args.flat.now.equations.items) c.args.flat.now.outputs.items c.loop-i.i (equation_shape c.index.result.now) c.loop-i.widths c.in-Some.width c.args.flat.now.lawful there (c.requires.closed c.loop-i.i (equation_shape c.index.result.now) there (omega arith) (omega arith)) (sym c.width_of.ensures ∙ c.in-Some.is) c.loop-i.invariant.below;
      before = put_before c.args.from c.loop-i.i c.in-Some.width c.args.widths.now c.loop-i.widths (omega arith) c.loop-i.invariant.before;
      after = put_after c.args.end c.loop-i.i c.in-Some.width c.args.widths.now c.loop-i.widths (omega arith) c.loop-i.invariant.after;
    }
