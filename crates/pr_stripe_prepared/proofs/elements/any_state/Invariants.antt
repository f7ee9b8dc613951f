use Rattle.std.proofs.Common.{◌≡◌, ◌<◌, ℕ, get_or}
use Rattle.pr_conf.specs.declared.pes.Pe.{Pe}
use Rattle.pr_stripe_prepared.specs.Elements.{output_of, a_of}
use Rattle.pr_stripe_prepared.proofs.elements.any_state.Given as goal

abbrev pub invariant-loop-k : goal.invariant-loop-k
invariant-loop-k l = (j : ℕ) (d : Pe) → j < l.k → (output_of (get_or l.pes j d) ≡ 0) × (a_of (get_or l.pes j d) ≡ 0)
