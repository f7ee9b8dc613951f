use Rattle.std.proofs.Common.{◌≡◌, ◌<◌, ℕ, ◌+◌, ◌||◌, false, length, drop, get_or}
use Rattle.std.specs.List.{list_any}
use Rattle.pr_flat.specs.Facts.{reads_equation}
use Rattle.pr_cut_plan.proofs.reached.mark.Given as goal

abbrev pub invariant-loop-operand : goal.invariant-loop-operand
invariant-loop-operand l = record {
  long : length l.flags ≡ length l.initial.flags;
  marks : (j : ℕ) → j < length l.initial.flags → (list_any (reads_equation (l.first + j)) (drop l.operand-index l.operands) || get_or l.flags j false) ≡ (list_any (reads_equation (l.first + j)) l.operands || get_or l.initial.flags j false);
}
