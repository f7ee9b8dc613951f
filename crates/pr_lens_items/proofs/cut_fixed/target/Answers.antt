use Rattle.std.proofs.lemmas.Result.{IfOk-from_err}
use Rattle.pr_lens_items.proofs.cut_fixed.target.Goals as goal

pub returns-in_err-name : goal.returns-in_err-name
returns-in_err-name c = let h = c.from_residual.ensures.0 in record { name = IfOk-from_err _ _ h; index = IfOk-from_err _ _ h; from = IfOk-from_err _ _ h }

pub returns-in_err-index-in-Some : goal.returns-in_err-index-in-Some
returns-in_err-index-in-Some c = let h = c.from_residual-in_err-index-in-Some.ensures.0 in record { name = IfOk-from_err _ _ h; index = IfOk-from_err _ _ h; from = IfOk-from_err _ _ h }
