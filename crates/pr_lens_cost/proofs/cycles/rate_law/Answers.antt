use Rattle.pr_lens_cost.proofs.RateLemmas.{rate_step}
use Rattle.pr_lens_cost.proofs.cycles.rate_law.Goals as goal

pub returns : goal.returns
returns c = λ v p n two some. rate_step v p n two some
