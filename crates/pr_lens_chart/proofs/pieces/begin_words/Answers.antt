use Rattle.std.proofs.lemmas.Result.{IfOk-from_err}
use Rattle.pr_lens_chart.proofs.pieces.begin_words.Goals as goal

pub returns-in_err-put : goal.returns-in_err-put
returns-in_err-put c = IfOk-from_err _ _ c.from_residual.ensures.0

pub returns-in_err-put-2 : goal.returns-in_err-put-2
returns-in_err-put-2 c = IfOk-from_err _ _ c.from_residual-in_err-put-2.ensures.0

pub returns-in_err-put-3 : goal.returns-in_err-put-3
returns-in_err-put-3 c = IfOk-from_err _ _ c.from_residual-in_err-put-3.ensures.0

pub returns-in_err-put_attribute : goal.returns-in_err-put_attribute
returns-in_err-put_attribute c = IfOk-from_err _ _ c.from_residual-in_err-put_attribute.ensures.0

pub returns-in_err-put_attribute-2 : goal.returns-in_err-put_attribute-2
returns-in_err-put_attribute-2 c = IfOk-from_err _ _ c.from_residual-in_err-put_attribute-2.ensures.0
