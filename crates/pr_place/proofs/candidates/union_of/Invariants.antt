use Rattle.std.proofs.Common.{◌≡◌, ◌≤◌, ◌<◌, ℕ, get_or}
use Rattle.std.specs.Int.{bit_at}
use Rattle.pr_place.proofs.candidates.union_of.Given as goal

abbrev pub invariant-loop-at : goal.invariant-loop-at
invariant-loop-at l = (at k : ℕ) → l.from ≤ at → at < l.at → bit_at (get_or l.sets at 0) k ≡ 1 → bit_at l.set k ≡ 1
