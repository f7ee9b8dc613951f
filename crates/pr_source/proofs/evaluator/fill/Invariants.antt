use Rattle.std.proofs.Common.{◌≡◌, count_by, drop, length, take}
use Rattle.pr_flat.specs.Facts.{is_input}
use Rattle.pr_flat.specs.Shape.{EquationShape, shapes_of}
use Rattle.pr_flat.specs.Values.{row_after, row_of}
use Rattle.pr_source.specs.Keeping.{kept}
use Rattle.pr_source.proofs.evaluator.fill.Given as goal

abbrev pub invariant-loop-i : goal.invariant-loop-i
invariant-loop-i l = let equations = shapes_of l.flat.equations.items in record {
  count : length l.numbers.items ≡ length equations;
  input : l.input ≡ count_by (λ (e : EquationShape). is_input e.op) (take l.i equations);
  row : row_after (record { equations = equations; widths = l.widths; before = kept l.recent; sample = l.sample; row = take l.i l.numbers.items }) (drop l.i equations) ≡ row_of equations l.widths (kept l.recent) l.sample;
}
