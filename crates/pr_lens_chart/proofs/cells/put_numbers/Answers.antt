use Rattle.std.proofs.lemmas.Result.{IfOk-from_err}
use Rattle.pr_lens_chart.proofs.cells.put_numbers.Goals as goal

pub returns-in_err-put_digits : goal.returns-in_err-put_digits
returns-in_err-put_digits c = IfOk-from_err _ _ c.from_residual.ensures.0

pub returns-in_err-put_entry : goal.returns-in_err-put_entry
returns-in_err-put_entry c = IfOk-from_err _ _ c.from_residual-in_err-put_entry.ensures.0
