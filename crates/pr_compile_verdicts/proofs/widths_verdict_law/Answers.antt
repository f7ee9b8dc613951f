use Rattle.pr_compile_verdicts.proofs.Widths.{some_widths}
use Rattle.pr_compile_verdicts.proofs.widths_verdict_law.Goals as goal

pub returns : goal.returns
returns c = some_widths
