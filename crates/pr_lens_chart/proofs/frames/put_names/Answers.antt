use Rattle.std.proofs.lemmas.Result.{IfOk-from_err}
use Rattle.pr_lens_chart.proofs.frames.put_names.Goals as goal

pub returns-in_err-put_stripe_names : goal.returns-in_err-put_stripe_names
returns-in_err-put_stripe_names c = IfOk-from_err _ _ c.from_residual.ensures.0

pub returns-in_err-put_words : goal.returns-in_err-put_words
returns-in_err-put_words c = IfOk-from_err _ _ c.from_residual-in_err-put_words.ensures.0
