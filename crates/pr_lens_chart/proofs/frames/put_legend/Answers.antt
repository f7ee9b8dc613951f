use Rattle.std.proofs.lemmas.Result.{IfOk-from_err}
use Rattle.pr_lens_chart.proofs.frames.put_legend.Goals as goal

pub returns-in_err-put_words : goal.returns-in_err-put_words
returns-in_err-put_words c = IfOk-from_err _ _ c.from_residual.ensures.0

pub returns-in_err-put_keys : goal.returns-in_err-put_keys
returns-in_err-put_keys c = IfOk-from_err _ _ c.from_residual-in_err-put_keys.ensures.0

pub returns-in_err-put_meaning : goal.returns-in_err-put_meaning
returns-in_err-put_meaning c = IfOk-from_err _ _ c.from_residual-in_err-put_meaning.ensures.0
