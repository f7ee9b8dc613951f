use Rattle.std.proofs.Common.{◌≡◌}
use Rattle.pr_stripe_tests.proofs.queues.first_in_first_out.Given as goal

abbrev pub invariant-loop-k : goal.invariant-loop-k
invariant-loop-k g l = l.queue.size ≡ 2

abbrev pub invariant-loop-k-2 : goal.invariant-loop-k-2
invariant-loop-k-2 g l = l.queue.size ≡ 2
