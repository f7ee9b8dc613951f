use Rattle.std.proofs.lemmas.Result.{IfOk-from_err}
use Rattle.pr_lens_items.proofs.cut_items.body.Goals as goal

pub returns-in_err-steps : goal.returns-in_err-steps
returns-in_err-steps c = let h = c.from_residual.ensures.0 in record { steps = IfOk-from_err _ _ h; value = IfOk-from_err _ _ h }

pub returns-in_err-value : goal.returns-in_err-value
returns-in_err-value c = let h = c.from_residual-in_err-value.ensures.0 in record { steps = IfOk-from_err _ _ h; value = IfOk-from_err _ _ h }
