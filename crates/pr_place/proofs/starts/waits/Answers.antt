use Rattle.std.proofs.lemmas.Result.{IfOk-from_err}
use Rattle.pr_place.proofs.starts.waits.Goals as goal

pub returns-in_err-waits : goal.returns-in_err-waits
returns-in_err-waits c = let h = c.from_residual.ensures.0 in record { long = IfOk-from_err _ _ h; waits = IfOk-from_err _ _ h }

pub returns-in_err-push : goal.returns-in_err-push
returns-in_err-push c = let h = c.from_residual-in_err-push.ensures.0 in record { long = IfOk-from_err _ _ h; waits = IfOk-from_err _ _ h }
