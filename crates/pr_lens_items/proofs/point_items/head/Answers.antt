use Rattle.std.proofs.lemmas.Result.{IfOk-from_err}
use Rattle.pr_lens_items.proofs.point_items.head.Goals as goal

pub returns-in_err-own : goal.returns-in_err-own
returns-in_err-own c = IfOk-from_err _ _ c.from_residual.ensures.0

pub returns-in_err-last : goal.returns-in_err-last
returns-in_err-last c = IfOk-from_err _ _ c.from_residual-in_err-last.ensures.0

pub returns-in_err-curly : goal.returns-in_err-curly
returns-in_err-curly c = IfOk-from_err _ _ c.from_residual-in_err-curly.ensures.0

pub returns-in_err-push : goal.returns-in_err-push
returns-in_err-push c = IfOk-from_err _ _ c.from_residual-in_err-push.ensures.0
