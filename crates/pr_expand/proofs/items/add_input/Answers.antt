use Rattle.std.proofs.lemmas.Result.{IfOk-from_err}
use Rattle.pr_expand.proofs.items.add_input.Goals as goal

pub returns-in_err-progress-clause-progress : goal.returns-in_err-progress-clause-progress
returns-in_err-progress-clause-progress c = IfOk-from_err _ _ c.from_residual.ensures.0

pub returns-in_err-progress-clause-outputs : goal.returns-in_err-progress-clause-outputs
returns-in_err-progress-clause-outputs c = IfOk-from_err _ _ c.from_residual.ensures.0

pub returns-in_err-progress-clause-names : goal.returns-in_err-progress-clause-names
returns-in_err-progress-clause-names c = IfOk-from_err _ _ c.from_residual.ensures.0
