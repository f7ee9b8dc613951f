use Rattle.std.proofs.lemmas.Result.{IfOk-from_err}
use Rattle.pr_place.proofs.course.place_groups.Goals as goal

pub returns-in_err-advance : goal.returns-in_err-advance
returns-in_err-advance g c = let h = c.from_residual.ensures.0 in record { opens = IfOk-from_err _ _ h; none = IfOk-from_err _ _ h; stuck = IfOk-from_err _ _ h }
