use Rattle.std.proofs.Common.{◌≡◌, ◌<◌, ℕ, false, get_or}
use Rattle.pr_conf.specs.declared.pes.Pe.{Pe}
use Rattle.pr_stripe_prepared.specs.Elements.{takes_carry}
use Rattle.pr_stripe_prepared.proofs.elements.any_sum.Given as goal

abbrev pub invariant-loop-k : goal.invariant-loop-k
invariant-loop-k l = (j : ℕ) (d : Pe) → j < l.k → takes_carry (get_or l.pes j d).mode (get_or l.pes j d).c ≡ false
