use Rattle.std.proofs.Common.{◌≡◌, ℕ, ◌≤◌, get_or}
use Rattle.pr_flat.specs.Shape.{shapes_of}
use Rattle.pr_flat.specs.Widths.{AgreeBelow, AreWidthsBelow}
use Rattle.pr_width.proofs.solver.fill.Given as goal

abbrev pub invariant-loop-i : goal.invariant-loop-i
invariant-loop-i l = record {
  below : AreWidthsBelow l.i (shapes_of l.flat.equations.items) l.widths;
  before : AgreeBelow l.fn.from l.initial.widths l.widths;
  after : (k : ℕ) → l.fn.end ≤ k → get_or l.widths k 0 ≡ get_or l.initial.widths k 0;
}
