use Rattle.std.proofs.lemmas.Result.{IfOk-from_err}
use Rattle.pr_expand.proofs.expressions.stands.Goals as goal

pub returns-in_err-set-clause-value : goal.returns-in_err-set-clause-value
returns-in_err-set-clause-value c = IfOk-from_err _ _ c.from_residual.ensures.0
