use Rattle.std.proofs.lemmas.Result.{IfOk-from_err}
use Rattle.pr_place.proofs.readings.push_cell.Goals as goal

pub returns-in_err-push_wire : goal.returns-in_err-push_wire
returns-in_err-push_wire c = IfOk-from_err _ _ c.from_residual.ensures.0

pub returns-in_err-push_wire-2 : goal.returns-in_err-push_wire-2
returns-in_err-push_wire-2 c = IfOk-from_err _ _ c.from_residual-in_err-push_wire-2.ensures.0

pub returns-in_err-push_wire-3 : goal.returns-in_err-push_wire-3
returns-in_err-push_wire-3 c = IfOk-from_err _ _ c.from_residual-in_err-push_wire-3.ensures.0
