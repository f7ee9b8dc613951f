use Rattle.std.proofs.lemmas.Result.{IfOk-from_err}
use Rattle.pr_lens_items.proofs.point_expressions.+expr.Goals as goal

pub expr-returns-in_err-sign-in-Slice : goal.expr-returns-in_err-sign-in-Slice
expr-returns-in_err-sign-in-Slice t c = IfOk-from_err _ _ c.from_residual.ensures.0

pub expr-returns-in_err-end-in-Not : goal.expr-returns-in_err-end-in-Not
expr-returns-in_err-end-in-Not t c = IfOk-from_err _ _ c.from_residual-in_err-end-in-Not.ensures.0

pub expr-returns-in_err-sign-in-Binary : goal.expr-returns-in_err-sign-in-Binary
expr-returns-in_err-sign-in-Binary t c = IfOk-from_err _ _ c.from_residual-in_err-sign-in-Binary.ensures.0

pub expr-returns-in_err-end-in-Binary : goal.expr-returns-in_err-end-in-Binary
expr-returns-in_err-end-in-Binary t c = IfOk-from_err _ _ c.from_residual-in_err-end-in-Binary.ensures.0

pub expr-returns-in_err-sign-in-Choose : goal.expr-returns-in_err-sign-in-Choose
expr-returns-in_err-sign-in-Choose t c = IfOk-from_err _ _ c.from_residual-in_err-sign-in-Choose.ensures.0

pub expr-returns-in_err-colon-in-Choose : goal.expr-returns-in_err-colon-in-Choose
expr-returns-in_err-colon-in-Choose t c = IfOk-from_err _ _ c.from_residual-in_err-colon-in-Choose.ensures.0

pub expr-returns-in_err-end-in-Choose : goal.expr-returns-in_err-end-in-Choose
expr-returns-in_err-end-in-Choose t c = IfOk-from_err _ _ c.from_residual-in_err-end-in-Choose.ensures.0

pub expr-returns-in_err-end-in-Paren : goal.expr-returns-in_err-end-in-Paren
expr-returns-in_err-end-in-Paren t c = IfOk-from_err _ _ c.from_residual-in_err-end-in-Paren.ensures.0
