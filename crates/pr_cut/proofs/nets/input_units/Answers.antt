use Rattle.std.proofs.lemmas.Result.{IfOk-from_err}
use Rattle.pr_cut.proofs.nets.input_units.Goals as goal

pub returns-in_err-input_unit : goal.returns-in_err-input_unit
returns-in_err-input_unit c = IfOk-from_err _ _ c.from_residual.ensures.0
