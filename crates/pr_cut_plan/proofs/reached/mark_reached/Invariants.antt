use Rattle.std.proofs.Common.{◌≡◌, ◌<◌, ℕ, ◌+◌, ◌-◌, false, length, get_or}
use Rattle.pr_flat.specs.Shape.{shapes_of}
use Rattle.pr_cut_plan.proofs.ReachedLemmas.{marked_from}
use Rattle.pr_cut_plan.proofs.reached.mark_reached.Given as goal

abbrev pub invariant-loop-done : goal.invariant-loop-done
invariant-loop-done l = record {
  long : length l.flags ≡ length l.fn.flags;
  marks : (j : ℕ) → j < length l.fn.flags → get_or l.flags j false ≡ marked_from (shapes_of l.flat.equations.items) l.operands (l.first + length l.fn.flags - l.done) (l.first + j);
}
