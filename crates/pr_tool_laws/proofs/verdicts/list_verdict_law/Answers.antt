use Rattle.pr_tool_laws.proofs.Lists.{list_verdict}
use Rattle.pr_tool_laws.proofs.verdicts.list_verdict_law.Goals as goal

pub returns : goal.returns
returns c = list_verdict
