use Rattle.std.proofs.Common.{◌≡◌, map, take}
use Rattle.pr_flat.specs.Shape.{shapes_of}
use Rattle.pr_flat.specs.Values.{rows_of}
use Rattle.pr_source.specs.Outputs.{given}
use Rattle.pr_source.specs.Standing.{Stands}
use Rattle.pr_source.proofs.evaluation.eval.Given as goal

abbrev pub invariant-loop-sample : goal.invariant-loop-sample
invariant-loop-sample l = let equations = shapes_of l.flat.equations.items in record {
  stands : Stands equations l.widths (take l.sample-index l.samples) l.evaluator;
  rows : l.rows.items ≡ map (given equations l.flat.outputs.items) (rows_of equations l.widths (take l.sample-index l.samples));
}
