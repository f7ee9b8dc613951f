use Rattle.std.proofs.Common.{◌≡◌, ◌<◌, ◌≤◌, ℕ, get_or, vec_len}
use Rattle.pr_flat.specs.Shape.{shapes_of}
use Rattle.pr_cut_units.specs.Equations.{plan_of, first_unit, hold_unit}
use Rattle.pr_cut_plan.proofs.plans.hold_units.Given as goal

abbrev pub invariant-loop-i : goal.invariant-loop-i
invariant-loop-i l = record {
  first : l.first ≡ first_unit (plan_of (shapes_of l.flat.equations.items) l.widths l.flat.outputs.items) l.i;
  few : l.first ≤ 32768;
  long : vec_len l.units ≡ l.i;
  units : (k : ℕ) → k < l.i → get_or l.units.items k 0 ≡ hold_unit (plan_of (shapes_of l.flat.equations.items) l.widths l.flat.outputs.items) k;
}
