use Rattle.std.proofs.lemmas.Result.{IfOk-from_err}
use Rattle.pr_lens_wave.proofs.changes.show_stripes.Goals as goal

pub returns-in_err-show : goal.returns-in_err-show
returns-in_err-show c = IfOk-from_err _ _ c.from_residual.ensures.0

pub returns-in_err-show_bit : goal.returns-in_err-show_bit
returns-in_err-show_bit c = IfOk-from_err _ _ c.from_residual-in_err-show_bit.ensures.0
