use Rattle.std.proofs.lemmas.Result.{IfOk-from_err}
use Rattle.pr_lens_chart.proofs.cells.put_column.Goals as goal

pub returns-in_err-put_stripes : goal.returns-in_err-put_stripes
returns-in_err-put_stripes c = IfOk-from_err _ _ c.from_residual.ensures.0
