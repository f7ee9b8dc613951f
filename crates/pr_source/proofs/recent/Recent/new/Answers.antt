use Rattle.std.proofs.lemmas.Result.{IfOk-from_err}
use Rattle.pr_source.proofs.recent.Recent.new.Goals as goal

pub returns-in_err-rows : goal.returns-in_err-rows
returns-in_err-rows c = let h = c.from_residual.ensures.0 in record { slots = IfOk-from_err _ _ h; kept = IfOk-from_err _ _ h; size = IfOk-from_err _ _ h }

pub returns-in_err-zeros : goal.returns-in_err-zeros
returns-in_err-zeros c = let h = c.from_residual-in_err-zeros.ensures.0 in record { slots = IfOk-from_err _ _ h; kept = IfOk-from_err _ _ h; size = IfOk-from_err _ _ h }

pub returns-in_err-push_back : goal.returns-in_err-push_back
returns-in_err-push_back c = let h = c.from_residual-in_err-push_back.ensures.0 in record { slots = IfOk-from_err _ _ h; kept = IfOk-from_err _ _ h; size = IfOk-from_err _ _ h }
