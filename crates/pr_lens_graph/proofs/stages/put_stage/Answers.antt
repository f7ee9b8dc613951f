use Rattle.std.proofs.Common.{arith}
use Rattle.std.proofs.lemmas.Grind.{common_steps}
use Rattle.pr_lens_graph.specs.Nodes.{stage_text}
use Rattle.pr_lens_graph.proofs.stages.put_stage.Goals as goal

pub returns : goal.returns
unfolding stage_text
returns c = grind (arith, common_steps)
