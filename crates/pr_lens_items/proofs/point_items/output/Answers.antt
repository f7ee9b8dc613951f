use Rattle.std.proofs.lemmas.Result.{IfOk-from_err}
use Rattle.pr_lens_items.proofs.point_items.output.Goals as goal

pub returns-in_err-own : goal.returns-in_err-own
returns-in_err-own c = IfOk-from_err _ _ c.from_residual.ensures.0

pub returns-in_err-sign : goal.returns-in_err-sign
returns-in_err-sign c = IfOk-from_err _ _ c.from_residual-in_err-sign.ensures.0

pub returns-in_err-push : goal.returns-in_err-push
returns-in_err-push c = IfOk-from_err _ _ c.from_residual-in_err-push.ensures.0

pub returns-in_err-expr : goal.returns-in_err-expr
returns-in_err-expr c = IfOk-from_err _ _ c.from_residual-in_err-expr.ensures.0
