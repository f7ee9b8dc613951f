use Rattle.std.proofs.lemmas.Result.{IfOk-from_err}
use Rattle.pr_cut_ops.proofs.operators.joined_slices.Goals as goal

pub returns-in_err-all : goal.returns-in_err-all
returns-in_err-all c = let h = c.from_residual.ensures.0 in record { count = IfOk-from_err _ _ h; all = IfOk-from_err _ _ h }

pub returns-in_err-push : goal.returns-in_err-push
returns-in_err-push c = let h = c.from_residual-in_err-push.ensures.0 in record { count = IfOk-from_err _ _ h; all = IfOk-from_err _ _ h }
