use Rattle.std.proofs.Common.{◌≡◌, ◌/◌, ◌%◌, ◌<◌, ◌≤◌, ◌==◌, ℕ, get_or, if◌then◌else◌}
use Rattle.pr_stripe_prepared.proofs.terms.picks_in.Given as goal

abbrev pub invariant-loop-k : goal.invariant-loop-k
invariant-loop-k l = record {
  done : (j : ℕ) → j < l.k → get_or l.picks j 0 ≡ (if get_or l.places j 0 / 16 == l.block then get_or l.places j 0 % 16 else 128);
  rest : (j : ℕ) → l.k ≤ j → j < 32 → get_or l.picks j 0 ≡ 128;
}
