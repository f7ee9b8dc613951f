use Rattle.std.proofs.Common.{◌≡◌, ◌<◌, ℕ, get_or}
use Rattle.pr_conf.specs.declared.pes.Pe.{Pe}
use Rattle.pr_stripe_prepared.specs.Elements.{c_carry}
use Rattle.pr_stripe_prepared.proofs.elements.any_carry.Given as goal

abbrev pub invariant-loop-k : goal.invariant-loop-k
invariant-loop-k l = (j : ℕ) (d : Pe) → j < l.k → c_carry (get_or l.pes j d).c ≡ 0
