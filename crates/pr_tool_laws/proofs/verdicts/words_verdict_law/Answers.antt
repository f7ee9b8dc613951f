use Rattle.pr_tool_laws.proofs.Requests.{one_verdict}
use Rattle.pr_tool_laws.proofs.verdicts.words_verdict_law.Goals as goal

pub returns : goal.returns
returns c = one_verdict
