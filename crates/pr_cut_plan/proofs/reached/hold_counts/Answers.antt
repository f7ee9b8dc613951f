use Rattle.std.proofs.lemmas.Result.{IfOk-from_err}
use Rattle.pr_cut_plan.proofs.reached.hold_counts.Goals as goal

pub returns-in_err-count : goal.returns-in_err-count
returns-in_err-count c = let h = c.from_residual.ensures.0 in record { count = IfOk-from_err _ _ h; counts = IfOk-from_err _ _ h; none = IfOk-from_err _ _ h }

pub returns-in_err-push : goal.returns-in_err-push
returns-in_err-push c = let h = c.from_residual-in_err-push.ensures.0 in record { count = IfOk-from_err _ _ h; counts = IfOk-from_err _ _ h; none = IfOk-from_err _ _ h }
