use Rattle.std.proofs.Common.{◌-◌, ◌≤◌, vec_len}
use Rattle.pr_flat.specs.Shape.{shapes_of}
use Rattle.pr_flat.specs.Widths.{AreWidthsBelow}
use Rattle.pr_width.specs.Parts.{BeginsPart}
use Rattle.pr_width.proofs.solver.put_all.Given as goal

abbrev pub invariant-loop-done : goal.invariant-loop-done
invariant-loop-done l = record {
  within : l.done ≤ vec_len l.flat.equations;
  below : AreWidthsBelow l.done (shapes_of l.flat.equations.items) l.widths;
  begins : BeginsPart (shapes_of l.flat.equations.items) l.done;
}

abbrev pub decreases-loop-done : goal.decreases-loop-done
decreases-loop-done l = vec_len l.flat.equations - l.done
