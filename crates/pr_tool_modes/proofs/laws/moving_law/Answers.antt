use Rattle.pr_tool_modes.proofs.MarkLaws.{kept_mark, chained}
use Rattle.pr_tool_modes.proofs.MoveVerdicts.{goes_on}
use Rattle.pr_tool_modes.proofs.laws.moving_law.Goals as goal

pub returns : goal.returns
returns c = record {
  lines = goes_on;
  kept = kept_mark;
  chain = chained;
}
