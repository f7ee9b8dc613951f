use Rattle.std.proofs.Common.{◌≡◌, ◌<◌, ℕ, true, false, Some, get_or, vec_len}
use Rattle.std.specs.List.{slice_get}
use Rattle.pr_flat.specs.Shape.{EquationShape, shapes_of}
use Rattle.pr_flat.specs.Facts.{is_rec}
use Rattle.pr_cut_units.specs.Reached.{hold_count}
use Rattle.pr_cut_plan.proofs.reached.hold_counts.Given as goal

abbrev pub invariant-loop-i : goal.invariant-loop-i
invariant-loop-i l = record {
  long : vec_len l.counts ≡ l.i;
  counts : (k : ℕ) (e : EquationShape) → slice_get (shapes_of l.flat.equations.items) k ≡ Some e → is_rec e.op ≡ true → k < l.i → get_or l.counts.items k 0 ≡ hold_count (shapes_of l.flat.equations.items) k;
  none : (k : ℕ) (e : EquationShape) → slice_get (shapes_of l.flat.equations.items) k ≡ Some e → is_rec e.op ≡ false → k < l.i → get_or l.counts.items k 0 ≡ 0;
}
