use Rattle.std.proofs.lemmas.Result.{IfOk-from_err}
use Rattle.pr_lens_items.proofs.cut_statements.begun.Goals as goal

pub returns-in_err-target : goal.returns-in_err-target
returns-in_err-target c = let h = c.from_residual.ensures.0 in record { target = IfOk-from_err _ _ h; init = IfOk-from_err _ _ h }

pub returns-in_err-target-2 : goal.returns-in_err-target-2
returns-in_err-target-2 c = let h = c.from_residual-in_err-target-2.ensures.0 in record { target = IfOk-from_err _ _ h; init = IfOk-from_err _ _ h }

pub returns-in_err-init : goal.returns-in_err-init
returns-in_err-init c = let h = c.from_residual-in_err-init.ensures.0 in record { target = IfOk-from_err _ _ h; init = IfOk-from_err _ _ h }
