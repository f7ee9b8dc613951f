use Rattle.std.proofs.lemmas.Result.{IfOk-from_err}
use Rattle.pr_lens_wave.proofs.head.put_signals.Goals as goal

pub returns-in_err-put_signal : goal.returns-in_err-put_signal
returns-in_err-put_signal c = IfOk-from_err _ _ c.from_residual.ensures.0

pub returns-in_err-put_signal-2 : goal.returns-in_err-put_signal-2
returns-in_err-put_signal-2 c = IfOk-from_err _ _ c.from_residual-in_err-put_signal-2.ensures.0

pub returns-in_err-put_signal-3 : goal.returns-in_err-put_signal-3
returns-in_err-put_signal-3 c = IfOk-from_err _ _ c.from_residual-in_err-put_signal-3.ensures.0

pub returns-in_err-put_signal-4 : goal.returns-in_err-put_signal-4
returns-in_err-put_signal-4 c = IfOk-from_err _ _ c.from_residual-in_err-put_signal-4.ensures.0

pub returns-in_err-put_signal-5 : goal.returns-in_err-put_signal-5
returns-in_err-put_signal-5 c = IfOk-from_err _ _ c.from_residual-in_err-put_signal-5.ensures.0
