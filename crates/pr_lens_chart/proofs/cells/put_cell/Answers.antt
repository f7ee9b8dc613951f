use Rattle.std.proofs.lemmas.Result.{IfOk-from_err}
use Rattle.pr_lens_chart.proofs.cells.put_cell.Goals as goal

pub returns-in_err-put_area : goal.returns-in_err-put_area
returns-in_err-put_area c = IfOk-from_err _ _ c.from_residual.ensures.0

pub returns-in_err-put_fill : goal.returns-in_err-put_fill
returns-in_err-put_fill c = IfOk-from_err _ _ c.from_residual-in_err-put_fill.ensures.0
