use Rattle.std.proofs.Common.{◌≡◌, ◌≤◌}
use Rattle.pr_stripe_tests.proofs.plans.three_stages_stay.Given as goal

abbrev pub invariant-loop-event : goal.invariant-loop-event
invariant-loop-event g l = record { stages : l.plan.stages ≡ 3; time : l.plan.time ≤ l.event-index }
