use Rattle.std.proofs.lemmas.Result.{IfOk-from_err}
use Rattle.pr_cut_plan.proofs.groups.push_unit.Goals as goal

pub returns-in_err-push : goal.returns-in_err-push
returns-in_err-push c = let h = c.from_residual.ensures.0 in record { tied = IfOk-from_err _ _ h; groups = IfOk-from_err _ _ h }

pub returns-in_err-push_single : goal.returns-in_err-push_single
returns-in_err-push_single c = let h = c.from_residual-in_err-push_single.ensures.0 in record { tied = IfOk-from_err _ _ h; groups = IfOk-from_err _ _ h }
