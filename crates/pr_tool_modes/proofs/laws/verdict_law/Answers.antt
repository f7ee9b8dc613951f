use Rattle.pr_tool_modes.proofs.TextVerdicts.{one_text}
use Rattle.pr_tool_modes.proofs.EvalVerdicts.{one_eval, one_meaning}
use Rattle.pr_tool_modes.proofs.RunVerdicts.{one_run}
use Rattle.pr_tool_modes.proofs.laws.verdict_law.Goals as goal

pub returns : goal.returns
returns c = record { text = one_text; eval = one_eval; run = one_run; meaning = one_meaning }
