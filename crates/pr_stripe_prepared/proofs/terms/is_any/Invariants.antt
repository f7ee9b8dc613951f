use Rattle.std.proofs.Common.{◌≡◌, ◌<◌, ◌≤◌, ℕ, false, get_or}
use Rattle.pr_stripe_prepared.proofs.terms.is_any.Given as goal

abbrev pub invariant-loop-k : goal.invariant-loop-k
invariant-loop-k l = l.any ≡ false → (j : ℕ) → j < l.k → 128 ≤ get_or l.picks j 0
