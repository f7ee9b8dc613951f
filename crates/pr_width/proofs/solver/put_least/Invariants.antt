use Rattle.pr_flat.specs.Shape.{shapes_of}
use Rattle.pr_flat.specs.Widths.{AgreeBelow, AreWidthsBelow}
use Rattle.pr_width.specs.Parts.{HoldsFrom}
use Rattle.pr_width.proofs.solver.put_least.Given as goal

abbrev pub invariant-loop-width : goal.invariant-loop-width
invariant-loop-width l = record {
  below : AreWidthsBelow l.recurrence.first (shapes_of l.flat.equations.items) l.widths;
  before : AgreeBelow l.recurrence.first l.initial.widths l.widths;
  from : HoldsFrom (shapes_of l.flat.equations.items) l.recurrence l.initial.widths l.width;
}
