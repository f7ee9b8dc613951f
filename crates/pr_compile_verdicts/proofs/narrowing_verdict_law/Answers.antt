use Rattle.pr_compile_verdicts.proofs.Demands.{some_demand, some_narrowing}
use Rattle.pr_compile_verdicts.proofs.narrowing_verdict_law.Goals as goal

pub returns : goal.returns
returns c = record { demand = some_demand; narrowed = some_narrowing }
