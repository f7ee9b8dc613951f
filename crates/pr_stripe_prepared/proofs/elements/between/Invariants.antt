use Rattle.std.proofs.Common.{◌≡◌, ◌<◌, ℕ, length, get_or, bit_xor}
use Rattle.pr_stripe_prepared.proofs.elements.between.Given as goal

abbrev pub invariant-loop-k : goal.invariant-loop-k
invariant-loop-k l = record {
  long : length l.row ≡ 16;
  each : (j : ℕ) → j < l.k → get_or l.other j 0 ≡ bit_xor (get_or l.one j 0) (get_or l.row j 0);
}
