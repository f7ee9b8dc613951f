use Rattle.std.proofs.Common.{◌≡◌, ◌≤◌, ◌<◌, ℕ, get_or}
use Rattle.std.specs.Int.{bit_at}
use Rattle.pr_place.proofs.candidates.classes_of.Given as goal

abbrev pub invariant-loop-group : goal.invariant-loop-group
invariant-loop-group l = (g : ℕ) → l.from ≤ g → g < l.group → get_or l.ready g 0 < 64 → bit_at l.set (get_or l.ready g 0) ≡ 1
