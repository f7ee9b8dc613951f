use Rattle.std.proofs.lemmas.Result.{IfOk-from_err}
use Rattle.pr_tool_modes.proofs.results.evaluate.Goals as goal

pub returns-in_err-sample-clause-results : goal.returns-in_err-sample-clause-results
returns-in_err-sample-clause-results g c = IfOk-from_err _ _ c.from_residual.ensures.0

pub returns-in_err-sample-clause-there : goal.returns-in_err-sample-clause-there
returns-in_err-sample-clause-there g c = IfOk-from_err _ _ c.from_residual.ensures.0

pub returns-in_err-sample-clause-cause : goal.returns-in_err-sample-clause-cause
returns-in_err-sample-clause-cause g c = IfOk-from_err _ _ c.from_residual.ensures.0

pub returns-in_err-sample-clause-steady : goal.returns-in_err-sample-clause-steady
returns-in_err-sample-clause-steady g c = IfOk-from_err _ _ c.from_residual.ensures.0

pub returns-in_err-row-clause-steady : goal.returns-in_err-row-clause-steady
returns-in_err-row-clause-steady g c = IfOk-from_err _ _ c.from_residual-in_err-row.ensures.0

pub returns-in_err-row-clause-results : goal.returns-in_err-row-clause-results
returns-in_err-row-clause-results g c = IfOk-from_err _ _ c.from_residual-in_err-row.ensures.0

pub returns-in_err-row-clause-there : goal.returns-in_err-row-clause-there
returns-in_err-row-clause-there g c = IfOk-from_err _ _ c.from_residual-in_err-row.ensures.0

pub returns-in_err-row-clause-cause : goal.returns-in_err-row-clause-cause
returns-in_err-row-clause-cause g c = IfOk-from_err _ _ c.from_residual-in_err-row.ensures.0
