use Rattle.std.proofs.lemmas.Result.{IfOk-from_err}
use Rattle.pr_place.proofs.celltables.uses.Goals as goal

pub returns-in_err-uses : goal.returns-in_err-uses
returns-in_err-uses c = let h = c.from_residual.ensures.0 in record { long = IfOk-from_err _ _ h; uses = IfOk-from_err _ _ h }
