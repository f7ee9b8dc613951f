use Rattle.std.proofs.Common.{◌≡◌, ◌≤◌}
use Rattle.pr_stripe_tests.proofs.plans.five_stages_on_three_stripes.Given as goal

abbrev pub invariant-loop-time : goal.invariant-loop-time
invariant-loop-time g l = record { stages : l.plan.stages ≡ 5; time : l.plan.time ≤ l.time-index }
