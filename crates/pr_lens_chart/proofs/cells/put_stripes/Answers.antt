use Rattle.std.proofs.lemmas.Result.{IfOk-from_err}
use Rattle.pr_lens_chart.proofs.cells.put_stripes.Goals as goal

pub returns-in_err-put_stripe : goal.returns-in_err-put_stripe
returns-in_err-put_stripe c = IfOk-from_err _ _ c.from_residual.ensures.0
