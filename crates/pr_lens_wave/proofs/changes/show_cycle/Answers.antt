use Rattle.std.proofs.lemmas.Result.{IfOk-from_err}
use Rattle.pr_lens_wave.proofs.changes.show_cycle.Goals as goal

pub returns-in_err-show : goal.returns-in_err-show
returns-in_err-show c = IfOk-from_err _ _ c.from_residual.ensures.0

pub returns-in_err-show_bit : goal.returns-in_err-show_bit
returns-in_err-show_bit c = IfOk-from_err _ _ c.from_residual-in_err-show_bit.ensures.0

pub returns-in_err-show-2 : goal.returns-in_err-show-2
returns-in_err-show-2 c = IfOk-from_err _ _ c.from_residual-in_err-show-2.ensures.0

pub returns-in_err-show-3 : goal.returns-in_err-show-3
returns-in_err-show-3 c = IfOk-from_err _ _ c.from_residual-in_err-show-3.ensures.0

pub returns-in_err-show-4 : goal.returns-in_err-show-4
returns-in_err-show-4 c = IfOk-from_err _ _ c.from_residual-in_err-show-4.ensures.0
