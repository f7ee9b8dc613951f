use Rattle.pr_compile_verdicts.proofs.Nets.{some_configuration}
use Rattle.pr_compile_verdicts.proofs.net_verdict_law.Goals as goal

pub returns : goal.returns
returns c = some_configuration
