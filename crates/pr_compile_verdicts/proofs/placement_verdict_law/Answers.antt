use Rattle.pr_compile_verdicts.proofs.Placements.{some_placement}
use Rattle.pr_compile_verdicts.proofs.placement_verdict_law.Goals as goal

pub returns : goal.returns
returns c = some_placement
