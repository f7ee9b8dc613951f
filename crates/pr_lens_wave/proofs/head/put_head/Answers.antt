use Rattle.std.proofs.lemmas.Result.{IfOk-from_err}
use Rattle.pr_lens_wave.proofs.head.put_head.Goals as goal

pub returns-in_err-put : goal.returns-in_err-put
returns-in_err-put c = IfOk-from_err _ _ c.from_residual.ensures.0

pub returns-in_err-put-2 : goal.returns-in_err-put-2
returns-in_err-put-2 c = IfOk-from_err _ _ c.from_residual-in_err-put-2.ensures.0

pub returns-in_err-put_signals : goal.returns-in_err-put_signals
returns-in_err-put_signals c = IfOk-from_err _ _ c.from_residual-in_err-put_signals.ensures.0

pub returns-in_err-put_stripes : goal.returns-in_err-put_stripes
returns-in_err-put_stripes c = IfOk-from_err _ _ c.from_residual-in_err-put_stripes.ensures.0
