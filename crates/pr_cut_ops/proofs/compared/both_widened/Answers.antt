use Rattle.std.proofs.lemmas.Result.{IfOk-from_err}
use Rattle.pr_cut_ops.proofs.compared.both_widened.Goals as goal

pub returns-in_err-x : goal.returns-in_err-x
returns-in_err-x c = let h = c.from_residual.ensures.0 in record { grows = IfOk-from_err _ _ h; units = IfOk-from_err _ _ h; slices = IfOk-from_err _ _ h }

pub returns-in_err-y : goal.returns-in_err-y
returns-in_err-y c = let h = c.from_residual-in_err-y.ensures.0 in record { grows = IfOk-from_err _ _ h; units = IfOk-from_err _ _ h; slices = IfOk-from_err _ _ h }
