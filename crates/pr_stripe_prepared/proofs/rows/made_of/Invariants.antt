use Rattle.std.proofs.Common.{◌≡◌, ◌<◌, ℕ, length, get_or}
use Rattle.pr_stripe_prepared.proofs.rows.made_of.Given as goal

abbrev pub invariant-loop-k : goal.invariant-loop-k
invariant-loop-k g l = record {
  long : length l.row ≡ g.row.N;
  each : (e : _) (j : ℕ) (d : _) → j < l.k → goal.F-post g l.f j (get_or l.items j d) (get_or l.row j e);
}
