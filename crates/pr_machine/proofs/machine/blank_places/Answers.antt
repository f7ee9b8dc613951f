use Rattle.std.proofs.lemmas.Result.{IfOk-from_err}
use Rattle.pr_machine.proofs.machine.blank_places.Goals as goal

pub returns-in_err-make : goal.returns-in_err-make
returns-in_err-make g c = let h = c.from_residual.ensures.0 in record { count = IfOk-from_err _ _ h; bare = IfOk-from_err _ _ h }

pub returns-in_err-push : goal.returns-in_err-push
returns-in_err-push g c = let h = c.from_residual-in_err-push.ensures.0 in record { count = IfOk-from_err _ _ h; bare = IfOk-from_err _ _ h }
