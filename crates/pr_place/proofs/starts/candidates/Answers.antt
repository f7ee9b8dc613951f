use Rattle.std.proofs.lemmas.Result.{IfOk-from_err}
use Rattle.pr_place.proofs.starts.candidates.Goals as goal

pub returns-in_err-ready : goal.returns-in_err-ready
returns-in_err-ready c = let h = c.from_residual.ensures.0 in record { long = IfOk-from_err _ _ h; ready = IfOk-from_err _ _ h }

pub returns-in_err-push : goal.returns-in_err-push
returns-in_err-push c = let h = c.from_residual-in_err-push.ensures.0 in record { long = IfOk-from_err _ _ h; ready = IfOk-from_err _ _ h }
