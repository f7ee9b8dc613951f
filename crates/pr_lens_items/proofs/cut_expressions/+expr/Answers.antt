use Rattle.std.proofs.lemmas.Result.{IfOk-from_err}
use Rattle.pr_lens_items.proofs.cut_expressions.+expr.Goals as goal

pub expr-returns-in_err-inner-in-Slice : goal.expr-returns-in_err-inner-in-Slice
expr-returns-in_err-inner-in-Slice t c = let h = c.from_residual.ensures.0 in record { tree = IfOk-from_err _ _ h; from = IfOk-from_err _ _ h }

pub expr-returns-in_err-inner-in-Not : goal.expr-returns-in_err-inner-in-Not
expr-returns-in_err-inner-in-Not t c = let h = c.from_residual-in_err-inner-in-Not.ensures.0 in record { tree = IfOk-from_err _ _ h; from = IfOk-from_err _ _ h }

pub expr-returns-in_err-one-in-Binary : goal.expr-returns-in_err-one-in-Binary
expr-returns-in_err-one-in-Binary t c = let h = c.from_residual-in_err-one-in-Binary.ensures.0 in record { tree = IfOk-from_err _ _ h; from = IfOk-from_err _ _ h }

pub expr-returns-in_err-other-in-Binary : goal.expr-returns-in_err-other-in-Binary
expr-returns-in_err-other-in-Binary t c = let h = c.from_residual-in_err-other-in-Binary.ensures.0 in record { tree = IfOk-from_err _ _ h; from = IfOk-from_err _ _ h }

pub expr-returns-in_err-condition-in-Choose : goal.expr-returns-in_err-condition-in-Choose
expr-returns-in_err-condition-in-Choose t c = let h = c.from_residual-in_err-condition-in-Choose.ensures.0 in record { tree = IfOk-from_err _ _ h; from = IfOk-from_err _ _ h }

pub expr-returns-in_err-one-in-Choose : goal.expr-returns-in_err-one-in-Choose
expr-returns-in_err-one-in-Choose t c = let h = c.from_residual-in_err-one-in-Choose.ensures.0 in record { tree = IfOk-from_err _ _ h; from = IfOk-from_err _ _ h }

pub expr-returns-in_err-other-in-Choose : goal.expr-returns-in_err-other-in-Choose
expr-returns-in_err-other-in-Choose t c = let h = c.from_residual-in_err-other-in-Choose.ensures.0 in record { tree = IfOk-from_err _ _ h; from = IfOk-from_err _ _ h }

pub expr-returns-in_err-parts-in-Call : goal.expr-returns-in_err-parts-in-Call
expr-returns-in_err-parts-in-Call t c = let h = c.from_residual-in_err-parts-in-Call.ensures.0 in record { tree = IfOk-from_err _ _ h; from = IfOk-from_err _ _ h }

pub expr-returns-in_err-parts-in-Cat : goal.expr-returns-in_err-parts-in-Cat
expr-returns-in_err-parts-in-Cat t c = let h = c.from_residual-in_err-parts-in-Cat.ensures.0 in record { tree = IfOk-from_err _ _ h; from = IfOk-from_err _ _ h }

pub expr-returns-in_err-inner-in-Paren : goal.expr-returns-in_err-inner-in-Paren
expr-returns-in_err-inner-in-Paren t c = let h = c.from_residual-in_err-inner-in-Paren.ensures.0 in record { tree = IfOk-from_err _ _ h; from = IfOk-from_err _ _ h }

pub expr-returns-in_err-new-in-Paren : goal.expr-returns-in_err-new-in-Paren
expr-returns-in_err-new-in-Paren t c = let h = c.from_residual-in_err-new-in-Paren.ensures.0 in record { tree = IfOk-from_err _ _ h; from = IfOk-from_err _ _ h }

pub exprs-returns-in_err-part : goal.exprs-returns-in_err-part
exprs-returns-in_err-part t c = let h = c.from_residual.ensures.0 in record { tree = IfOk-from_err _ _ h; from = IfOk-from_err _ _ h }

pub exprs-returns-in_err-push : goal.exprs-returns-in_err-push
exprs-returns-in_err-push t c = let h = c.from_residual-in_err-push.ensures.0 in record { tree = IfOk-from_err _ _ h; from = IfOk-from_err _ _ h }
