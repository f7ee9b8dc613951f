use Rattle.std.proofs.lemmas.Result.{IfOk-from_err}
use Rattle.pr_cut.proofs.equations.held.Goals as goal

pub returns-in_err-x : goal.returns-in_err-x
returns-in_err-x c = let h = c.from_residual.ensures.0 in record { units = IfOk-from_err _ _ h; slices = IfOk-from_err _ _ h }

pub returns-in_err-all : goal.returns-in_err-all
returns-in_err-all c = let h = c.from_residual-in_err-all.ensures.0 in record { units = IfOk-from_err _ _ h; slices = IfOk-from_err _ _ h }
