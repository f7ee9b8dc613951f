use Rattle.std.proofs.lemmas.Result.{IfOk-from_err}
use Rattle.pr_lens_items.proofs.point_expressions.+fixed.Goals as goal

pub returns-in_err-end-in-Some : goal.returns-in_err-end-in-Some
returns-in_err-end-in-Some t c = IfOk-from_err _ _ c.from_residual.ensures.0

pub returns-in_err-sign-in-Binary : goal.returns-in_err-sign-in-Binary
returns-in_err-sign-in-Binary t c = IfOk-from_err _ _ c.from_residual-in_err-sign-in-Binary.ensures.0

pub returns-in_err-end-in-Binary : goal.returns-in_err-end-in-Binary
returns-in_err-end-in-Binary t c = IfOk-from_err _ _ c.from_residual-in_err-end-in-Binary.ensures.0

pub returns-in_err-end-in-Paren : goal.returns-in_err-end-in-Paren
returns-in_err-end-in-Paren t c = IfOk-from_err _ _ c.from_residual-in_err-end-in-Paren.ensures.0
