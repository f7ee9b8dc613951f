use Rattle.std.proofs.lemmas.Result.{IfOk-from_err}
use Rattle.pr_place.proofs.progress.Progress.new.Goals as goal

pub returns-in_err-spots : goal.returns-in_err-spots
returns-in_err-spots g c = IfOk-from_err _ _ c.from_residual.ensures.0

pub returns-in_err-new : goal.returns-in_err-new
returns-in_err-new g c = IfOk-from_err _ _ c.from_residual-in_err-new.ensures.0

pub returns-in_err-vec : goal.returns-in_err-vec
returns-in_err-vec g c = IfOk-from_err _ _ c.from_residual-in_err-vec.ensures.0
