use Rattle.std.proofs.lemmas.Result.{IfOk-from_err}
use Rattle.pr_cut_cells.proofs.parts.push_unit.Goals as goal

pub returns-in_err-slices-clause-units : goal.returns-in_err-slices-clause-units
returns-in_err-slices-clause-units c = IfOk-from_err _ _ c.from_residual.ensures.0

pub returns-in_err-slices-clause-slices : goal.returns-in_err-slices-clause-slices
returns-in_err-slices-clause-slices c = IfOk-from_err _ _ c.from_residual.ensures.0

pub returns-in_err-push-clause-units : goal.returns-in_err-push-clause-units
returns-in_err-push-clause-units c = IfOk-from_err _ _ c.from_residual-in_err-push.ensures.0

pub returns-in_err-push-clause-slices : goal.returns-in_err-push-clause-slices
returns-in_err-push-clause-slices c = IfOk-from_err _ _ c.from_residual-in_err-push.ensures.0
