use Rattle.std.proofs.Common.{◌≡◌, ◌<◌, ℕ, get_or, bit_xor}
use Rattle.pr_stripe_prepared.proofs.elements.are_between.Given as goal

abbrev pub invariant-loop-k : goal.invariant-loop-k
invariant-loop-k l = (j : ℕ) → j < l.k → get_or l.other j 0 ≡ bit_xor (get_or l.one j 0) (get_or l.bits j 0)
