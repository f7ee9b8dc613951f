use Rattle.std.proofs.Common.{◌≡◌, ◌<◌, ℕ, get_or}
use Rattle.pr_conf.specs.declared.pes.Source.{Source}
use Rattle.pr_stripe_prepared.specs.Places.{here_in}
use Rattle.pr_stripe_prepared.proofs.places.any_here.Given as goal

abbrev pub invariant-loop-k : goal.invariant-loop-k
invariant-loop-k l = (j : ℕ) (d : Source) → j < l.k → here_in (get_or l.sources j d) ≡ 128
