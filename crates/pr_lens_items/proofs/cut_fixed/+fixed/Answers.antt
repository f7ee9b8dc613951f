use Rattle.std.proofs.lemmas.Result.{IfOk-from_err}
use Rattle.pr_lens_items.proofs.cut_fixed.+fixed.Goals as goal

pub returns-in_err-index-in-Some : goal.returns-in_err-index-in-Some
returns-in_err-index-in-Some t c = let h = c.from_residual.ensures.0 in record { tree = IfOk-from_err _ _ h; from = IfOk-from_err _ _ h }

pub returns-in_err-one-in-Binary : goal.returns-in_err-one-in-Binary
returns-in_err-one-in-Binary t c = let h = c.from_residual-in_err-one-in-Binary.ensures.0 in record { tree = IfOk-from_err _ _ h; from = IfOk-from_err _ _ h }

pub returns-in_err-other-in-Binary : goal.returns-in_err-other-in-Binary
returns-in_err-other-in-Binary t c = let h = c.from_residual-in_err-other-in-Binary.ensures.0 in record { tree = IfOk-from_err _ _ h; from = IfOk-from_err _ _ h }

pub returns-in_err-inner-in-Paren : goal.returns-in_err-inner-in-Paren
returns-in_err-inner-in-Paren t c = let h = c.from_residual-in_err-inner-in-Paren.ensures.0 in record { tree = IfOk-from_err _ _ h; from = IfOk-from_err _ _ h }

pub returns-in_err-new-in-Paren : goal.returns-in_err-new-in-Paren
returns-in_err-new-in-Paren t c = let h = c.from_residual-in_err-new-in-Paren.ensures.0 in record { tree = IfOk-from_err _ _ h; from = IfOk-from_err _ _ h }
