use Rattle.std.proofs.lemmas.Result.{IfOk-from_err}
use Rattle.pr_lens_chart.proofs.frames.put_left.Goals as goal

pub returns-in_err-begin_words : goal.returns-in_err-begin_words
returns-in_err-begin_words c = IfOk-from_err _ _ c.from_residual.ensures.0

pub returns-in_err-put : goal.returns-in_err-put
returns-in_err-put c = IfOk-from_err _ _ c.from_residual-in_err-put.ensures.0

pub returns-in_err-put_left_ends : goal.returns-in_err-put_left_ends
returns-in_err-put_left_ends c = IfOk-from_err _ _ c.from_residual-in_err-put_left_ends.ensures.0

pub returns-in_err-put_counted : goal.returns-in_err-put_counted
returns-in_err-put_counted c = IfOk-from_err _ _ c.from_residual-in_err-put_counted.ensures.0
