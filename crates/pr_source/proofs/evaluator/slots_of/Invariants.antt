use Rattle.std.proofs.Common.{◌≡◌, ◌≤◌, ◌<◌, ℕ, true, Some}
use Rattle.std.specs.List.{list_all, slice_get}
use Rattle.pr_flat.specs.Shape.{EquationShape, shapes_of}
use Rattle.pr_source.specs.Keeping.{is_near}
use Rattle.pr_source.proofs.evaluator.slots_of.Given as goal

abbrev pub invariant-loop-equation : goal.invariant-loop-equation
invariant-loop-equation l = record {
  some : 1 ≤ l.slots;
  least : (n : ℕ) → 1 ≤ n → ((i : ℕ) (e : EquationShape) → i < l.equation-index → slice_get (shapes_of l.flat.equations.items) i ≡ Some e → list_all (is_near n) e.args ≡ true) → l.slots ≤ n;
  near : (n i : ℕ) (e : EquationShape) → l.slots ≤ n → i < l.equation-index → slice_get (shapes_of l.flat.equations.items) i ≡ Some e → list_all (is_near n) e.args ≡ true;
}
