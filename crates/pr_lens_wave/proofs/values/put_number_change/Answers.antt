use Rattle.std.proofs.lemmas.Result.{IfOk-from_err}
use Rattle.pr_lens_wave.proofs.values.put_number_change.Goals as goal

pub returns-in_err-put : goal.returns-in_err-put
returns-in_err-put c = IfOk-from_err _ _ c.from_residual.ensures.0

pub returns-in_err-put_value : goal.returns-in_err-put_value
returns-in_err-put_value c = IfOk-from_err _ _ c.from_residual-in_err-put_value.ensures.0

pub returns-in_err-put-2 : goal.returns-in_err-put-2
returns-in_err-put-2 c = IfOk-from_err _ _ c.from_residual-in_err-put-2.ensures.0

pub returns-in_err-put_name : goal.returns-in_err-put_name
returns-in_err-put_name c = IfOk-from_err _ _ c.from_residual-in_err-put_name.ensures.0
