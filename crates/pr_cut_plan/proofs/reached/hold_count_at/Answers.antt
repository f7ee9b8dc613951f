use Rattle.std.proofs.Common.{arith}
use Rattle.pr_flat.specs.Shape.{equation_shape, shapes_of}
use Rattle.pr_width.proofs.SolverLemmas.{shape_at}
use Rattle.pr_cut_plan.proofs.ReachedLemmas.{no_rec}
use Rattle.pr_cut_plan.proofs.reached.hold_count_at.Goals as goal

pub hold_count-requires : goal.hold_count-requires
hold_count-requires c = record {
  equation = equation_shape c.index.result.now;
  there = shape_at c.args.flat.now.equations.items c.args.i c.index.result.now (omega (arith, c.args.flat.now.equations.ok.0)) c.index.ensures;
  init = c.in-Rec.init;
  op = c.in-Rec.is;
}

pub returns-in_default-clause-some : goal.returns-in_default-clause-some
returns-in_default-clause-some c = no_rec (shapes_of c.args.flat.now.equations.items) c.args.i (equation_shape c.index.result.now) (shape_at c.args.flat.now.equations.items c.args.i c.index.result.now (omega (arith, c.args.flat.now.equations.ok.0)) c.index.ensures) c.in_default.not-Rec
