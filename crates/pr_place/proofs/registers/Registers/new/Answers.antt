use Rattle.std.proofs.lemmas.Result.{IfOk-from_err}
use Rattle.pr_place.proofs.registers.Registers.new.Goals as goal

pub returns-in_err-vec : goal.returns-in_err-vec
returns-in_err-vec g c = IfOk-from_err _ _ c.from_residual.ensures.0

pub returns-in_err-vec-2 : goal.returns-in_err-vec-2
returns-in_err-vec-2 g c = IfOk-from_err _ _ c.from_residual-in_err-vec-2.ensures.0
