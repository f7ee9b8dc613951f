use Rattle.std.proofs.lemmas.Result.{IfOk-from_err}
use Rattle.pr_lens_chart.proofs.frames.put_head.Goals as goal

pub returns-in_err-put_size : goal.returns-in_err-put_size
returns-in_err-put_size c = IfOk-from_err _ _ c.from_residual.ensures.0

pub returns-in_err-put_style : goal.returns-in_err-put_style
returns-in_err-put_style c = IfOk-from_err _ _ c.from_residual-in_err-put_style.ensures.0
