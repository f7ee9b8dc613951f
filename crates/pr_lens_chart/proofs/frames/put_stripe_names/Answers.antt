use Rattle.std.proofs.lemmas.Result.{IfOk-from_err}
use Rattle.pr_lens_chart.proofs.frames.put_stripe_names.Goals as goal

pub returns-in_err-put_name : goal.returns-in_err-put_name
returns-in_err-put_name c = IfOk-from_err _ _ c.from_residual.ensures.0
