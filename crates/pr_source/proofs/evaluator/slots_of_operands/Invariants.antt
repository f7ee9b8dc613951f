use Rattle.std.proofs.Common.{◌≡◌, ◌≤◌, ℕ, true, take}
use Rattle.std.specs.List.{list_all}
use Rattle.pr_source.specs.Keeping.{is_near}
use Rattle.pr_source.proofs.evaluator.slots_of_operands.Given as goal

abbrev pub invariant-loop-operand : goal.invariant-loop-operand
invariant-loop-operand l = record {
  some : 1 ≤ l.slots;
  least : (n : ℕ) → 1 ≤ n → list_all (is_near n) (take l.operand-index l.operands) ≡ true → l.slots ≤ n;
  near : (n : ℕ) → l.slots ≤ n → list_all (is_near n) (take l.operand-index l.operands) ≡ true;
}
