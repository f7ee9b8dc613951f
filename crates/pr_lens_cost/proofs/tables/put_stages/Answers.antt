use Rattle.std.proofs.Common.{arith}
use Rattle.std.proofs.lemmas.Grind.{common_steps}
use Rattle.pr_lens_cost.specs.Texts.{stage_lines}
use Rattle.pr_lens_cost.proofs.tables.put_stages.Goals as goal

pub loop-number-preserved : goal.loop-number-preserved
unfolding stage_lines
loop-number-preserved c = grind (arith, common_steps)
