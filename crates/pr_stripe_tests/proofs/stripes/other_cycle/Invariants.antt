use Rattle.std.proofs.Common.{◌≡◌}
use Rattle.pr_stripe_tests.proofs.stripes.other_cycle.Given as goal

abbrev pub invariant-loop-line : goal.invariant-loop-line
invariant-loop-line l = l.stripe.mark.stage ≡ l.fn.stripe.mark.stage
