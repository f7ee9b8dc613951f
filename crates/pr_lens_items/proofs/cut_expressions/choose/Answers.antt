use Rattle.std.proofs.lemmas.Result.{IfOk-from_err}
use Rattle.pr_lens_items.proofs.cut_expressions.choose.Goals as goal

pub returns-in_err-branches : goal.returns-in_err-branches
returns-in_err-branches c = let h = c.from_residual.ensures.0 in record { tree = IfOk-from_err _ _ h; from = IfOk-from_err _ _ h }

pub returns-in_err-new : goal.returns-in_err-new
returns-in_err-new c = let h = c.from_residual-in_err-new.ensures.0 in record { tree = IfOk-from_err _ _ h; from = IfOk-from_err _ _ h }
