use Rattle.pr_tool.proofs.CallLemmas.{one_answer}
use Rattle.pr_tool.proofs.laws.answer_law.Goals as goal

pub returns : goal.returns
returns c = one_answer
