use Rattle.std.proofs.lemmas.Result.{IfOk-from_err}
use Rattle.pr_lens_chart.proofs.pieces.put_words.Goals as goal

pub returns-in_err-begin_words : goal.returns-in_err-begin_words
returns-in_err-begin_words c = IfOk-from_err _ _ c.from_residual.ensures.0

pub returns-in_err-put : goal.returns-in_err-put
returns-in_err-put c = IfOk-from_err _ _ c.from_residual-in_err-put.ensures.0
