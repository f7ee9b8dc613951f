use Rattle.std.proofs.Common.{arith}
use Rattle.std.proofs.lemmas.Grind.{common_steps}
use Rattle.pr_lens_cost.proofs.counts.stage_costs.Goals as goal

pub loop-stage-preserved : goal.loop-stage-preserved
loop-stage-preserved g c = grind (arith, common_steps)
