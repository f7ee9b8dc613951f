use Rattle.std.proofs.lemmas.Result.{IfOk-from_err}
use Rattle.pr_lens_items.proofs.cut_expressions.refer.Goals as goal

pub returns-in_err-name : goal.returns-in_err-name
returns-in_err-name c = let h = c.from_residual.ensures.0 in record { tree = IfOk-from_err _ _ h; from = IfOk-from_err _ _ h }

pub returns-in_err-new : goal.returns-in_err-new
returns-in_err-new c = let h = c.from_residual-in_err-new.ensures.0 in record { tree = IfOk-from_err _ _ h; from = IfOk-from_err _ _ h }
