use Rattle.std.proofs.lemmas.Result.{IfOk-from_err}
use Rattle.pr_lens_items.proofs.point_statements.head.Goals as goal

pub returns-in_err-own : goal.returns-in_err-own
returns-in_err-own c = IfOk-from_err _ _ c.from_residual.ensures.0

pub returns-in_err-dots : goal.returns-in_err-dots
returns-in_err-dots c = IfOk-from_err _ _ c.from_residual-in_err-dots.ensures.0

pub returns-in_err-end : goal.returns-in_err-end
returns-in_err-end c = IfOk-from_err _ _ c.from_residual-in_err-end.ensures.0

pub returns-in_err-push : goal.returns-in_err-push
returns-in_err-push c = IfOk-from_err _ _ c.from_residual-in_err-push.ensures.0
