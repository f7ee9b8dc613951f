use Rattle.std.proofs.Common.{◌≡◌, ◌<◌, ◌-◌, ℕ, length, get_or, nat_lt, if◌then◌else◌}
use Rattle.pr_conf.specs.declared.pes.Pe.{Pe}
use Rattle.pr_conf.specs.declared.pes.Source.{Source}
use Rattle.pr_stripe_prepared.specs.Elements.{c_source}
use Rattle.pr_stripe_prepared.proofs.elements.rest_sources.Given as goal

abbrev pub invariant-loop-k : goal.invariant-loop-k
invariant-loop-k l = record {
  long : length l.sources ≡ 32;
  each : (j : ℕ) (d : Source) (e : Pe) → j < l.k → get_or l.sources j d ≡ (if nat_lt j 16 then (get_or l.pes j e).lo else c_source (get_or l.pes (j - 16) e).c);
}
