use Rattle.std.proofs.Common.{◌<◌, ℕ, get_or}
use Rattle.pr_conf.specs.declared.pes.Pe.{Pe}
use Rattle.pr_stripe_prepared.specs.Rounds.{IsOrdered}
use Rattle.pr_stripe_prepared.proofs.levels.are_ordered.Given as goal

abbrev pub invariant-loop-k : goal.invariant-loop-k
invariant-loop-k l = (j : ℕ) (d : Pe) → j < l.k → IsOrdered l.levels l.rounds j (get_or l.pes j d)
