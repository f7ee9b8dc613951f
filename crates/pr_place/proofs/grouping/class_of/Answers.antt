use Rattle.std.proofs.lemmas.Result.{IfOk-from_err}
use Rattle.pr_place.proofs.grouping.class_of.Goals as goal

pub returns-in_err-from_slice : goal.returns-in_err-from_slice
returns-in_err-from_slice c = let h = c.from_residual.ensures.0 in record { few = IfOk-from_err _ _ h; small = IfOk-from_err _ _ h; kind = IfOk-from_err _ _ h; more = IfOk-from_err _ _ h }

pub returns-in_err-push : goal.returns-in_err-push
returns-in_err-push c = let h = c.from_residual-in_err-push.ensures.0 in record { few = IfOk-from_err _ _ h; small = IfOk-from_err _ _ h; kind = IfOk-from_err _ _ h; more = IfOk-from_err _ _ h }
