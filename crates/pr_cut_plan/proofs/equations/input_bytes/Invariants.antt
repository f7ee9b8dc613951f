use Rattle.std.proofs.Common.{◌≡◌, ◌≤◌, ◌+◌, ◌*◌, drop}
use Rattle.pr_flat.specs.Shape.{shapes_of}
use Rattle.pr_cut_plan.proofs.EquationLemmas.{bytes_in}
use Rattle.pr_cut_plan.proofs.equations.input_bytes.Given as goal

abbrev pub invariant-loop-equation : goal.invariant-loop-equation
invariant-loop-equation l = record {
  is : l.bytes + bytes_in (shapes_of (drop l.equation-index l.flat.equations.items)) ≡ bytes_in (shapes_of l.flat.equations.items);
  few : l.bytes ≤ 32 * l.equation-index;
}
